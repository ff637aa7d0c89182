-- What a contract is told, and what comes of its call.
use Rattle.std.proofs.Common.{◌≡◌, ℕ, List, Option, None, Some, Result, Ok, Err, refl, sym, ap, ◌∙◌, subst}
use Rattle.std.specs.Global.{Vec}
use Rattle.chain_addr.specs.Text.{text_of}
use Rattle.chain_records.specs.Keys.{IsAddress}
use Rattle.chain_records.specs.Records.{PlainFacts}
use Rattle.chain_records.specs.State.{Bytes, State, Spells}
use Rattle.chain_msgs.specs.Plain.{Event, Failure, failure_view}
use Rattle.chain_msgs.specs.Texts.{env_text}
use Rattle.contract_call.specs.declared.entry.Entry.{Entry}
use Rattle.host_imports.specs.declared.fault.CallFault.{CallFault}
use Rattle.contract_call.specs.Calls.{arguments}
use Rattle.call_outcomes.specs.Results.{faulted_with}
use Rattle.gas_meter.specs.declared.schedule.Schedule.{Schedule}
use Rattle.gas_store.specs.Typed.{with_storage}
use Rattle.gatekeeper.specs.Cache.{Tally}
use Rattle.host_imports.specs.Faults.{fault_view}
use Rattle.host_imports.specs.Work.{gave, faulted, ran_out}
use Rattle.host_imports.specs.Work as calls
use Rattle.kv_layers.specs.declared.layers.Layers.{Layers}
use Rattle.kv_layers.specs.Layers.{Stands, HasCurrent}
use Rattle.kv_layers.specs.Maps.{Maps}
use Rattle.query_router.specs.declared.end.CallEnd.{CallEnd}
use Rattle.query_router.specs.declared.end.CallEnd.TheVariants.{Finished, Fault}
use Rattle.query_router.specs.declared.stop.QueryStop.{QueryStop}
use Rattle.query_router.specs.declared.stop.QueryStop.TheVariants as query_stops
use Rattle.query_router.specs.Calls.{call_on, queries}
use Rattle.query_router.specs.Calls as runs
use Rattle.query_router.specs.Endings.{EndsAt}
use Rattle.query_router.specs.Endings as endings
use Rattle.query_router.specs.Lawful.{IsLawful, OfEachLawful}
use Rattle.submsg_dispatch.specs.declared.called.Called as called_type
use Rattle.submsg_dispatch.specs.declared.stop.HandleStop.{HandleStop}
use Rattle.submsg_dispatch.specs.declared.stop.HandleStop.TheVariants.{Failed, OutOfGas, NoMemory}
use Rattle.submsg_dispatch.specs.Parts.{Part, Ran, Ended, kept, failed, out_of_gas}
use Rattle.submsg_dispatch.specs.Calling.{Called, env, ended_call, ran_call, call, tells}
use Rattle.submsg_dispatch.specs.Stages.{entered, called_view}
use Rattle.submsg_dispatch.specs.Under.{Fails, LeadsOn, bytes_view}
use Rattle.submsg_dispatch.proofs.Chaining.{CameOn, no_memory_on, alike_on}
use Rattle.submsg_dispatch.proofs.Storing.{stored_lawful}

-- ---- what it is told

pub env_same : (p : PlainFacts) (s : State) (index : ℕ) (text addr prefix : List ℕ) → p ≡ s.facts → text ≡ text_of prefix addr → s.facts.prefix ≡ prefix
    → env_text (record { height = p.height; time = p.time; chain_id = p.chain_id; index = Some index; contract = text }) ≡ env s index addr
env_same p s index text addr prefix facts same is =
    let to : text ≡ text_of s.facts.prefix addr = same ∙ ap (λ (x : List ℕ). text_of x addr) (sym is) in
    λ i. env_text (record { height = (facts i).height; time = (facts i).time; chain_id = (facts i).chain_id; index = Some index; contract = to i })

-- ---- its call

call_runs : (costs : Schedule) (addr : List ℕ) (id : ℕ) (entry : Entry) (args : List (List ℕ)) (s : State) (l : ℕ) → call costs addr id entry args s l ≡ ran_call entry s addr (call_on (queries costs 9) costs s addr id entry args l)
unfolding call
call_runs costs addr id entry args s l = refl

-- the layers stand for what the call of the code with this id makes of each state, and it ended so
abbrev Enters : {B : Type 0} → (B → Bytes → Type 0) → List ℕ → Layers B → Layers B → Option Tally → Option Tally → ℕ → ℕ → Schedule → List ℕ → ℕ → Entry → List (List ℕ) → Result CallEnd QueryStop → Type 0
Enters S prefix old new before after l m costs addr id entry args result =
    (maps : Maps) (s : State) → Stands S old maps → Spells maps.current s → IsLawful s → s.facts.prefix ≡ prefix → endings.Ends S new maps s addr m before after (call_on (queries costs 9) costs s addr id entry args l) result

-- the text of the chain is that of each state
abbrev TellsChain : {B : Type 0} → (B → Bytes → Type 0) → List ℕ → Layers B → ℕ → List ℕ → List ℕ → Type 0
TellsChain S prefix old index addr text = OfEachLawful (HasCurrent S old) (λ s. s.facts.prefix ≡ prefix → text ≡ env s index addr)

enters_so : {B : Type 0} (S : B → Bytes → Type 0) (new : Layers B) (maps : Maps) (s : State) (before after : Option Tally) (l m : ℕ) (costs : Schedule) (index : ℕ) (addr : List ℕ) (id : ℕ) (entry : Entry) (told : Option (List ℕ)) (msg text : List ℕ) (ended : calls.Ended (List ℕ)) → text ≡ env s index addr
    → (at : EndsAt S new maps s addr m before after (call_on (queries costs 9) costs s addr id entry (arguments text told msg) l) ended)
    → entered costs index addr id entry told msg s l
    ≡ record {
      ended = ended_call entry (with_storage s addr (call_on (queries costs 9) costs s addr id entry (arguments text told msg) l).storage) ended;
      left = m;
      fetched = (call_on (queries costs 9) costs s addr id entry (arguments text told msg) l).fetched;
    }
enters_so S new maps s before after l m costs index addr id entry told msg text ended is at =
    let called : runs.Called = call_on (queries costs 9) costs s addr id entry (arguments text told msg) l in
    ap (λ (t : List ℕ). call costs addr id entry (arguments t told msg) s l) (sym is) ∙ call_runs costs addr id entry (arguments text told msg) s l
    ∙ (λ i. record { ended = ended_call entry (with_storage s addr called.storage) (at.ended_so i); left = at.gas i; fetched = called.fetched })

module _ {B : Type 0} {S : B → Bytes → Type 0} {prefix : List ℕ} where
  pub enters_as : (old new : Layers B) (before after : Option Tally) (l m : ℕ) (result : Result CallEnd QueryStop) (costs : Schedule) (at addr : List ℕ) (id : ℕ) (entry : Entry) (given text : List ℕ) (told : Option (List ℕ)) (msg : List ℕ) → at ≡ addr → given ≡ text
      → Enters S prefix old new before after l m costs at id entry (arguments given told msg) result → Enters S prefix old new before after l m costs addr id entry (arguments text told msg) result
  enters_as old new before after l m result costs at addr id entry given text told msg same_addr same_text enters = λ maps s stands spelled lawful is.
      let here = subst (λ (a : List ℕ). endings.Ends S new maps s a m before after (call_on (queries costs 9) costs s a id entry (arguments given told msg) l) result) same_addr (enters maps s stands spelled lawful is) in
      subst (λ (t : List ℕ). endings.Ends S new maps s addr m before after (call_on (queries costs 9) costs s addr id entry (arguments t told msg) l) result) same_text here

  pub finished_on : {old new : Layers B} {before after : Option Tally} {l m : ℕ} (costs : Schedule) (index : ℕ) (addr : List ℕ) (id : ℕ) (entry : Entry) (told : Option (List ℕ)) (msg text : List ℕ) (result : Result CallEnd QueryStop) (bytes : Vec ℕ) → IsAddress addr
      → TellsChain S prefix old index addr text → result ≡ Ok (Finished bytes) → Enters S prefix old new before after l m costs addr id entry (arguments text told msg) result → LeadsOn prefix S old new before after l m (entered costs index addr id entry told msg) bytes_view (Ok bytes)
  finished_on {new = new} {before = before} {after = after} {l = l} {m = m} costs index addr id entry told msg text result bytes address tells is enters = record {
    leads = λ maps s stands spelled lawful same.
        let called : runs.Called = call_on (queries costs 9) costs s addr id entry (arguments text told msg) l in
        let at = subst (λ (r : Result CallEnd QueryStop). endings.Ends S new maps s addr m before after called r) is (enters maps s stands spelled lawful same) in
        let t : State = with_storage s addr called.storage in
        let path = enters_so S new maps s before after l m costs index addr id entry told msg text (gave bytes.items) (tells maps.current s (maps, stands, refl) spelled lawful same) at in
        subst (λ (ran : Ran (List ℕ)). CameOn S new before after m bytes_view (Ok bytes) maps s ran) (sym path)
        ((t, record { map = at.map; stands = at.stands; spelled = at.spelled; lawful = stored_lawful s addr called.storage address lawful; facts = refl }, refl), (refl, at.fetched));
  }

  pub faulted_on : {old new : Layers B} {before after : Option Tally} {l m : ℕ} (costs : Schedule) (index : ℕ) (addr : List ℕ) (id : ℕ) (entry : Entry) (told : Option (List ℕ)) (msg text : List ℕ) (result : Result CallEnd QueryStop) (fault : CallFault) (stop : HandleStop) → TellsChain S prefix old index addr text
      → result ≡ Ok (Fault fault) → Fails stop (faulted_with entry (fault_view fault)) → Enters S prefix old new before after l m costs addr id entry (arguments text told msg) result
      → LeadsOn prefix S old new before after l m (entered costs index addr id entry told msg) bytes_view (Err stop)
  faulted_on {new = new} {before = before} {after = after} {l = l} {m = m} costs index addr id entry told msg text result fault (Failed found) tells is fails enters = record {
    leads = λ maps s stands spelled lawful same.
        let called : runs.Called = call_on (queries costs 9) costs s addr id entry (arguments text told msg) l in
        let at = subst (λ (r : Result CallEnd QueryStop). endings.Ends S new maps s addr m before after called r) is (enters maps s stands spelled lawful same) in
        let path = enters_so S new maps s before after l m costs index addr id entry told msg text (faulted (fault_view fault)) (tells maps.current s (maps, stands, refl) spelled lawful same) at in
        subst (λ (ran : Ran (List ℕ)). CameOn {X = Vec ℕ} S new before after m bytes_view (Err (Failed found)) maps s ran) (sym path) (((at.map, at.stands), ap failed (sym fails)), (refl, at.fetched));
  }
  faulted_on costs index addr id entry told msg text result fault OutOfGas tells is fails enters = absurd fails
  faulted_on costs index addr id entry told msg text result fault NoMemory tells is fails enters = no_memory_on

  pub ran_out_on : {old new : Layers B} {before after : Option Tally} {l m : ℕ} (costs : Schedule) (index : ℕ) (addr : List ℕ) (id : ℕ) (entry : Entry) (told : Option (List ℕ)) (msg text : List ℕ) (result : Result CallEnd QueryStop) → TellsChain S prefix old index addr text → result ≡ Err query_stops.OutOfGas
      → Enters S prefix old new before after l m costs addr id entry (arguments text told msg) result → LeadsOn prefix S old new before after l m (entered costs index addr id entry told msg) bytes_view (Err OutOfGas)
  ran_out_on {new = new} {before = before} {after = after} {l = l} {m = m} costs index addr id entry told msg text result tells is enters = record {
    leads = λ maps s stands spelled lawful same.
        let called : runs.Called = call_on (queries costs 9) costs s addr id entry (arguments text told msg) l in
        let at = subst (λ (r : Result CallEnd QueryStop). endings.Ends S new maps s addr m before after called r) is (enters maps s stands spelled lawful same) in
        let path = enters_so S new maps s before after l m costs index addr id entry told msg text ran_out (tells maps.current s (maps, stands, refl) spelled lawful same) at in
        subst (λ (ran : Ran (List ℕ)). CameOn {X = Vec ℕ} S new before after m bytes_view (Err OutOfGas) maps s ran) (sym path) (((at.map, at.stands), refl), (refl, at.fetched));
  }

  -- ---- what it tells

  -- a call of the same contract with the same arguments
  pub tells_as : {old new : Layers B} {before after : Option Tally} {l m : ℕ} {result : Result called_type.Called HandleStop} (costs : Schedule) (index id : ℕ) (entry : Entry) (at addr : List ℕ) (given told : Option (List ℕ)) (text msg : List ℕ) (with own : List Event) → at ≡ addr → given ≡ told → text ≡ msg → with ≡ own
      → LeadsOn prefix S old new before after l m (tells costs index prefix at id entry given text with) called_view result → LeadsOn prefix S old new before after l m (tells costs index prefix addr id entry told msg own) called_view result
  tells_as {l = l} costs index id entry at addr given told text msg with own same_addr same_told same_msg same_own leads =
      alike_on (tells costs index prefix addr id entry told msg own) (tells costs index prefix at id entry given text with) (λ s is i. tells costs index prefix (sym same_addr i) id entry (sym same_told i) (sym same_msg i) (sym same_own i) s l) leads
