-- A call that runs to its end: what it asks is answered from where it is now, and it goes on with the answer.
use Rattle.std.proofs.Common.{◌≡◌, ℕ, ◌≤◌, ◌<◌, true, List, ◌∷◌, Option, Result, Ok, Err, refl, sym, ap, ◌∙◌, subst, arith}
use Rattle.std.specs.Prelude.{string_bytes, IfOk, IfErr, Bool, IsTrue}
use Rattle.std.specs.Global.{Vec}
use Rattle.chain_msgs.specs.Plain.{answer_view}
use Rattle.chain_msgs.specs.Texts.{answer_text}
use Rattle.chain_msgs.specs.declared.answer.Answer as answer_type
use Rattle.chain_addr.specs.Letters.{IsPrefix}
use Rattle.chain_records.specs.Keys.{IsAddress}
use Rattle.chain_records.specs.Laws.{TellsKeys}
use Rattle.chain_records.specs.State.{Bytes, State, Spells}
use Rattle.gatekeeper.specs.Cache.{Tally}
use Rattle.gatekeeper.specs.Fetches.{TalliesJoin}
use Rattle.gas_meter.specs.declared.schedule.Schedule.{Schedule}
use Rattle.kv_layers.specs.declared.layers.Layers.{Layers}
use Rattle.kv_layers.specs.Layers.{Stands, Turns, HasCurrent}
use Rattle.kv_layers.specs.Maps.{Maps, changed}
use Rattle.gas_store.specs.Effects.{IsSameScope}
use Rattle.gas_store.specs.Typed.{with_storage, SpellsChangedStorage}
use Rattle.gas_store.specs.Views.{addr_of, is_read_only}
use Rattle.host_imports.specs.Work.{Ended, ran_out}
use Rattle.contract_call.specs.declared.running.Running.{Running}
use Rattle.contract_call.specs.declared.step.Step.{Step}
use Rattle.contract_call.specs.declared.step.Step.TheVariants as steps
use Rattle.contract_call.specs.Calls.{Call, Outset, Answer, part, only_reads}
use Rattle.contract_call.specs.Running.{StandsForPart}
use Rattle.contract_call.specs.Steps.{IfQuery, GoesOnFrom, ComesTo}
use Rattle.query_router.specs.declared.end.CallEnd.{CallEnd}
use Rattle.query_router.specs.declared.calls.Opened.{Opened}
use Rattle.query_router.specs.declared.stop.QueryStop.{QueryStop}
use Rattle.query_router.specs.declared.stop.QueryStop.TheVariants.{OutOfGas, NoMemory}
use Rattle.query_router.specs.Answering.{Gives}
use Rattle.query_router.specs.Calls.{Called, queries, gathered_all, outset_of}
use Rattle.query_router.specs.Queries.{Asking}
use Rattle.query_router.specs.Calling.{HasCome, HasGone, IsScope, IsReadyCall, IsBegun, HasBegun, IsSetFor, IsUnderway, step_end}
use Rattle.query_router.specs.Endings.{EndsAt, Ends, end_view}
use Rattle.query_router.specs.Lawful.{IsLawful, HasLawful, OfEachLawful}
use Rattle.query_router.proofs.Going.{goes_from, here_spelled, here_lawful, ends_unanswered, comes_answered, if_query}

-- ---- layers that turn nothing

pub turns_twice : {B : Type 0} {S : B → Bytes → Type 0} {first mid last : Layers B} → Turns S first mid (λ maps. maps) → Turns S mid last (λ maps. maps) → Turns S first last (λ maps. maps)
turns_twice one two maps stands = two maps (one maps stands)

-- where the contract only reads
pub turns_if_twice : {B : Type 0} {S : B → Bytes → Type 0} {first mid last : Layers B} (a b : Bool) → b ≡ a → (IsTrue a → Turns S first mid (λ maps. maps)) → (IsTrue b → Turns S mid last (λ maps. maps)) → IsTrue a → Turns S first last (λ maps. maps)
turns_if_twice a b same one two reads = turns_twice (one reads) (two (subst IsTrue (sym same) reads))

-- ---- a call as it was begun

pub scope_of : (first now : Opened) → IsReadyCall first → IsSameScope first.store now.store → now.prefix ≡ first.prefix → IsScope now
scope_of first now ready same prefix = record {
  address = subst IsAddress (sym same.addr) ready.address;
  prefix = subst IsPrefix (sym (ap string_bytes prefix)) ready.prefix;
}

pub set_for : (s : State) (first now : Opened) (costs : Schedule) (call : Call) (o : Outset) → IsBegun s first call → IsSameScope first.store now.store → now.prefix ≡ first.prefix → o.costs ≡ costs → o.prefix ≡ s.facts.prefix
    → IsSetFor (addr_of first.store) costs now call o
set_for s first now costs call o begun same prefix same_costs same_prefix = record {
  same_addr = same.addr;
  reads = same.read_only ∙ begun.reads;
  same_costs = same_costs;
  same_prefix = same_prefix ∙ sym begun.same_prefix ∙ sym (ap string_bytes prefix);
}

-- ---- where a call has come to

-- the state in which it is now is lawful
pub underway_lawful : {B : Type 0} (S : B → Bytes → Type 0) (layers : Layers B) (opened : Opened) (left : ℕ) (now : Option Tally) (costs : Schedule) (ask : Asking) (step : Step) → TellsKeys → SpellsChangedStorage → IsScope opened
    → IsUnderway S layers opened left now costs ask step → HasLawful (HasCurrent S layers)
underway_lawful S layers opened left now costs ask step tells alone scope u = record {
  map = u.comes.comes.map;
  state = with_storage u.state u.addr (part u.call u.outset u.comes.so_far).place.storage;
  stands = (changed u.maps u.comes.comes.map, u.comes.comes.holds.stands, refl);
  spelled = here_spelled S u.maps u.state u.addr (subst IsAddress u.set_for.same_addr scope.address) tells alone u.spelled u.lawful ask u.call u.outset u.called u.before layers opened u.set_for.same_addr left now step u.comes;
  holds = here_lawful S u.maps u.state u.addr (subst IsAddress u.set_for.same_addr scope.address) tells alone u.spelled u.lawful ask u.call u.outset u.called u.before layers opened u.set_for.same_addr left now step u.comes;
}

-- a call that was begun has come so far, if it has from each lawful state
pub underway : {B : Type 0} (S : B → Bytes → Type 0) (view layers : Layers B) (first now : Opened) (begun_left left : ℕ) (before after : Option Tally) (costs : Schedule) (ask : Asking) (step : Step)
    → HasBegun (HasCurrent S view) first → IsSameScope first.store now.store → now.prefix ≡ first.prefix
    → ((maps : Maps) (s : State) (of : Call) → Stands S view maps → Spells maps.current s → IsLawful s → IsBegun s first of
    → HasCome S layers maps s (addr_of first.store) now left before after ask of (outset_of costs s (addr_of first.store) begun_left) (gathered_all ask s (addr_of first.store) of (outset_of costs s (addr_of first.store) begun_left)) step)
    → IsUnderway S layers now left after costs ask step
underway S view layers first now begun_left left before after costs ask step b same prefix comes =
    let spelled : Spells b.stands.0.current b.state = subst (λ (m : Bytes). Spells m b.state) (sym b.stands.2) b.spelled in
    record {
      maps = b.stands.0;
      state = b.state;
      addr = addr_of first.store;
      call = b.holds.1.0;
      outset = outset_of costs b.state (addr_of first.store) begun_left;
      before = before;
      called = gathered_all ask b.state (addr_of first.store) b.holds.1.0 (outset_of costs b.state (addr_of first.store) begun_left);
      spelled = spelled;
      lawful = b.holds.0;
      set_for = set_for b.state first now costs b.holds.1.0 (outset_of costs b.state (addr_of first.store) begun_left) b.holds.1.1 same prefix refl refl;
      comes = comes b.stands.0 b.state b.holds.1.0 b.stands.1 spelled b.holds.0 b.holds.1.1;
    }

-- ---- a query on the way

pub falls_more : (step : Step) (P : Type 0) (last gas left : ℕ) → IfQuery step (P → last < gas) → P → gas ≤ left → IfQuery step (last < left)
falls_more step P last gas left falls p less = if_query step (P → last < gas) (last < left) (λ f. let l = f p in omega (arith, l, less)) falls

pub falls_now : (step : Step) (P : Type 0) (last gas : ℕ) → IfQuery step (P → last < gas) → P → IfQuery step (last < gas)
falls_now step P last gas falls p = if_query step (P → last < gas) (last < gas) (λ f. f p) falls

module _ {B : Type 0} (S : B → Bytes → Type 0) (maps : Maps) (s : State) (addr : List ℕ) (address : IsAddress addr) (tells : TellsKeys) (alone : SpellsChangedStorage) (join : TalliesJoin) (spelled : Spells maps.current s) (lawful : IsLawful s)
    (costs : Schedule) (level below : ℕ) (same_level : below ≡ level) (call : Call) (o : Outset) (called : Called) (before middle after : Option Tally)
    (layers mid : Layers B) (opened : Opened) (set : IsSetFor addr costs opened call o) (left gas : ℕ) (request : Vec ℕ) (asked : List ℕ) (same_request : asked ≡ request.items) (turns : Turns S layers mid (λ maps. maps))
    (h : HasCome S layers maps s addr opened left before middle (queries costs level) call o called (steps.Query request)) where
  asked_so : queries costs level (with_storage s addr (part call o h.so_far).place.storage) request.items (part call o h.so_far).place.left ≡ queries costs below (with_storage s addr (part call o h.so_far).place.storage) asked left
  asked_so = λ i. queries costs (sym same_level i) (with_storage s addr (part call o h.so_far).place.storage) (sym same_request i) (h.comes.gas i)

  gave : (result : Result answer_type.Answer QueryStop) → OfEachLawful (HasCurrent S layers) (λ st. Gives result gas middle after (queries costs below st asked left))
      → Gives result gas middle after (queries costs below (with_storage s addr (part call o h.so_far).place.storage) asked left)
  gave result answer =
      answer h.comes.map (with_storage s addr (part call o h.so_far).place.storage) (changed maps h.comes.map, h.comes.holds.stands, refl)
      (here_spelled S maps s addr address tells alone spelled lawful (queries costs level) call o called before layers opened set.same_addr left middle (steps.Query request) h)
      (here_lawful S maps s addr address tells alone spelled lawful (queries costs level) call o called before layers opened set.same_addr left middle (steps.Query request) h)

  -- without an answer the call has run out of gas
  pub gone_unanswered : (now : Opened) (stop : QueryStop) → OfEachLawful (HasCurrent S layers) (λ st. Gives (Err stop) gas middle after (queries costs below st asked left))
      → HasGone S mid maps s addr now gas before after (queries costs level) call o called (Err stop)
  gone_unanswered now OutOfGas answer =
      let g = gave (Err OutOfGas) answer in
      ends_unanswered S maps s addr address tells alone spelled lawful (queries costs level) call o called before layers opened set.same_addr left middle (steps.Query request) h
      request.items mid gas after (queries costs below (with_storage s addr (part call o h.so_far).place.storage) asked left) join h.comes.ended_so asked_so g.0 g.1 g.2 turns
  gone_unanswered now NoMemory answer = tt

  -- with an answer it goes on, and comes to its next step
  pub gone_on_so : (a : answer_type.Answer) (bytes : List ℕ) (running : Running) (now : Opened) (later : Layers B) (last : ℕ) (step : Step)
      → OfEachLawful (HasCurrent S layers) (λ st. Gives (Ok a) gas middle after (queries costs below st asked left))
      → bytes ≡ answer_text (answer_view a) → gas ≤ left → IfQuery step (last < gas) → (prefix : List ℕ) → prefix ≡ string_bytes opened.prefix
      → StandsForPart running call o (record { bytes = bytes; left = gas } ∷ h.so_far)
      → ((maps : Maps) (call : Call) (o : Outset) (answers : List Answer) → StandsForPart running call o answers
      → GoesOnFrom S mid maps opened.store gas costs prefix call o answers → ComesTo S later maps (addr_of opened.store) now.store now.running last call o answers step)
      → HasCome S later maps s addr now last before after (queries costs level) call o called step
  gone_on_so a bytes running now later last step answer text less falls prefix same_prefix stands advance =
      let g = gave (Ok a) answer in
      comes_answered S maps s addr address tells alone spelled lawful (queries costs level) call o called before layers later opened now set.same_addr left gas last middle after (steps.Query request) step request.items a bytes
      (queries costs below (with_storage s addr (part call o h.so_far).place.storage) asked left) h join h.comes.ended_so h.enough asked_so g.0 g.1 g.2 text less falls
      (advance (changed maps h.comes.map) call o (record { bytes = bytes; left = gas } ∷ h.so_far) stands
      (subst (λ (p : List ℕ). GoesOnFrom S mid (changed maps h.comes.map) opened.store gas costs p call o (record { bytes = bytes; left = gas } ∷ h.so_far)) (sym same_prefix)
      (goes_from S layers mid maps s addr opened left gas before middle (queries costs level) call o called (steps.Query request) h costs bytes turns set.reads set.same_costs set.same_prefix)))

-- ---- the end

pub no_query : (step : Step) → ((request : Vec ℕ) → step ≡ steps.Query request → ⊥) → IfQuery step ⊥
no_query (steps.Finished bytes) none = tt
no_query (steps.Query request) none = none request refl
no_query (steps.Fault fault) none = tt
no_query steps.OutOfGas none = tt

pub ends_as : {B : Type 0} (S : B → Bytes → Type 0) (layers : Layers B) (maps : Maps) (s : State) (addr : List ℕ) (left : ℕ) (before after : Option Tally) (called : Called) (step : Step) (result : Result CallEnd QueryStop)
    → IfOk result (λ e. end_view e ≡ step_end step) → IfErr result (λ stop. (stop ≡ OutOfGas) × (step_end step ≡ ran_out))
    → EndsAt S layers maps s addr left before after called (step_end step) → Ends S layers maps s addr left before after called result
ends_as S layers maps s addr left before after called step (Ok e) ok err ends = subst (λ (e : Ended (List ℕ)). EndsAt S layers maps s addr left before after called e) (sym ok) ends
ends_as S layers maps s addr left before after called step (Err OutOfGas) ok err ends = subst (λ (e : Ended (List ℕ)). EndsAt S layers maps s addr left before after called e) err.1 ends
ends_as S layers maps s addr left before after called step (Err NoMemory) ok err ends = tt

-- a call that ran out of gas on the way
pub ends_gone : {B : Type 0} (S : B → Bytes → Type 0) (layers : Layers B) (maps : Maps) (s : State) (addr : List ℕ) (now : Opened) (left : ℕ) (before after : Option Tally) (costs : Schedule) (level : ℕ) (call : Call) (o : Outset) (called : Called) (stop : QueryStop)
    → HasGone S layers maps s addr now left before after (queries costs level) call o called (Err stop) → Ends S layers maps s addr left before after called (Err stop)
ends_gone S layers maps s addr now left before after costs level call o called OutOfGas gone = gone
ends_gone S layers maps s addr now left before after costs level call o called NoMemory gone = tt
