-- What changes of codes and of contracts did, as parts of a message.
use Rattle.std.proofs.Common.{◌≡◌, ℕ, List, [], ◌∷◌, Option, None, Some, Result, Ok, Err, refl, sym, ap, ◌∙◌, subst, map, codes}
use Rattle.std.specs.Prelude.{option_map}
use Rattle.std.specs.FinMap.{get}
use Rattle.kv_layers.specs.declared.layers.Layers.{Layers}
use Rattle.kv_layers.specs.Layers.{Stands, Turns, HasCurrent}
use Rattle.kv_layers.specs.Maps.{Maps}
use Rattle.kv_layers.specs.Spelling.{Becomes}
use Rattle.wasm_types.specs.Plain.{plain_refusal}
use Rattle.chain_addr.specs.Address.{address_of}
use Rattle.chain_records.specs.Records.{PlainContract, PlainFacts}
use Rattle.chain_records.specs.State.{Bytes, State, Spells}
use Rattle.chain_records.specs.Spelled.{OfEach}
use Rattle.code_registry.specs.declared.stop.CodeStop.{CodeStop}
use Rattle.code_registry.specs.declared.stop.CodeStop.TheVariants as code_stops
use Rattle.code_registry.specs.Codes.{Refusal, stored, pinned, unpinned, store_refusal, pin_refusal, unpin_refusal}
use Rattle.code_registry.specs.Codes as codes_of
use Rattle.code_registry.specs.Refusals as code_refusals
use Rattle.code_registry.specs.Effects.{IsStored, IsPinned, IsUnpinned}
use Rattle.code_registry.specs.Lawful.{HasLawfulCodes}
use Rattle.contract_admin.specs.declared.stop.AdminStop.{AdminStop}
use Rattle.contract_admin.specs.declared.stop.AdminStop.TheVariants as admin_stops
use Rattle.contract_admin.specs.Administration.{change_refusal, with_admin}
use Rattle.contract_admin.specs.Administration as contracts
use Rattle.contract_admin.specs.Refusals as admin_refusals
use Rattle.contract_admin.specs.Effects.{IsAdminSet}
use Rattle.contract_admin.specs.Lawful.{HasLawfulContracts}
use Rattle.contract_admin.specs.Laws.{StayLawfulWithCode}
use Rattle.gatekeeper.specs.Cache.{Tally}
use Rattle.chain_msgs.specs.declared.failure.Failure as failure_type
use Rattle.chain_msgs.specs.Plain.{Failure, failure_view}
use Rattle.query_router.specs.Lawful.{IsLawful}
use Rattle.submsg_dispatch.specs.declared.stop.HandleStop.{HandleStop}
use Rattle.submsg_dispatch.specs.declared.stop.HandleStop.TheVariants.{Failed, OutOfGas, NoMemory}
use Rattle.submsg_dispatch.specs.Parts.{Part, Ran, kept, failed, done, fails, stops_if, becomes, reads, or_fails, fetched_before, ◌>>=◌}
use Rattle.submsg_dispatch.specs.Failures.{address_bad, code_failure, contract_failure}
use Rattle.submsg_dispatch.specs.Events.{code_stored, of_code}
use Rattle.submsg_dispatch.specs.Messages.{Outcome, only_events, address_in, may_change, stores}
use Rattle.submsg_dispatch.specs.Under.{Fails, Misses, StopsFirst, TellsCode, TellsContract, LeadsUnder, admin_put}
use Rattle.submsg_dispatch.proofs.Leading.{Came, no_fetch, no_memory, alike}
use Rattle.submsg_dispatch.proofs.Lawfulness.{lawful_coded, lawful_pinned, lawful_admin, admin_facts}

-- ---- parts with a check and a change

-- what pins and unpins have in common: a check, a change, and events that don't depend on the state
abbrev pub checked : {A : Type 0} → (State → Option Refusal) → (State → State) → A → Part A
checked refusal next x = reads (λ s. stops_if (option_map code_failure (refusal s))) >>= λ _. becomes next >>= λ _. done x

-- what the check of an admin makes of a change of it
abbrev admin_from : List ℕ → List ℕ → Option (List ℕ) → State → ℕ → Option contracts.Refusal → Ran Outcome
admin_from p addr admin s l r = (stops_if (option_map (contract_failure p addr) r) >>= λ _. becomes (λ s. with_admin s addr admin) >>= λ _. done (only_events [])) s l

-- ---- the check of an admin, which is looked at before another stop

keeps_other : (other : HandleStop) → StopsFirst other other None
keeps_other (Failed failure) = refl
keeps_other OutOfGas = refl
keeps_other NoMemory = tt

-- it is passed
pub other_stops : (other : HandleStop) (prefix addr : List ℕ) (refusal : Option contracts.Refusal) → refusal ≡ None → StopsFirst other other (option_map (contract_failure prefix addr) refusal)
other_stops other prefix addr refusal is = subst (λ (r : Option contracts.Refusal). StopsFirst other other (option_map (contract_failure prefix addr) r)) (sym is) (keeps_other other)

stops_before : (other stop : HandleStop) (failure : Failure) → Fails stop failure → StopsFirst other stop (Some failure)
stops_before other (Failed found) failure same = same
stops_before other OutOfGas failure same = same
stops_before other NoMemory failure same = tt

refused_before : (other stop : HandleStop) (prefix addr : List ℕ) (r : contracts.Refusal) (refusal : Option contracts.Refusal) → refusal ≡ Some r → Fails stop (contract_failure prefix addr r) → StopsFirst other stop (option_map (contract_failure prefix addr) refusal)
refused_before other stop prefix addr r refusal is same =
    subst (λ (o : Option contracts.Refusal). StopsFirst other stop (option_map (contract_failure prefix addr) o)) (sym is) (stops_before other stop (contract_failure prefix addr r) same)

-- or it isn't
pub refusal_stops : (other stop : HandleStop) (prefix addr : List ℕ) (why : AdminStop) (refusal : Option contracts.Refusal) → admin_refusals.IsStop why refusal → TellsContract prefix addr why stop → StopsFirst other stop (option_map (contract_failure prefix addr) refusal)
refusal_stops other stop prefix addr admin_stops.NoSuchContract refusal is tells = refused_before other stop prefix addr contracts.no_such_contract refusal is tells
refusal_stops other stop prefix addr admin_stops.NotAdmin refusal is tells = refused_before other stop prefix addr contracts.not_admin refusal is tells
refusal_stops other stop prefix addr (admin_stops.NoSuchCode id) refusal is tells = refused_before other stop prefix addr (contracts.no_such_code id) refusal is tells
refusal_stops other stop prefix addr admin_stops.MayNotInstantiate refusal is tells = refused_before other stop prefix addr contracts.may_not_instantiate refusal is tells
refusal_stops other stop prefix addr admin_stops.AddressTaken refusal is tells = refused_before other stop prefix addr contracts.address_taken refusal is tells
refusal_stops other stop prefix addr admin_stops.LabelBad refusal is tells = refused_before other stop prefix addr contracts.label_bad refusal is tells
refusal_stops other stop prefix addr admin_stops.NoMemory refusal is tells = subst (λ (x : HandleStop). StopsFirst other x (option_map (contract_failure prefix addr) refusal)) (sym tells) tt

-- ---- the new admin's address, which is looked at after the check

passed_on : (text next : List ℕ) (k : List ℕ → Part Outcome) (s : State) (l : ℕ) (refusal : Option Failure) → address_of s.facts.prefix text ≡ Some next → (stops_if refusal >>= λ _. address_in text >>= k) s l ≡ (stops_if refusal >>= λ _. k next) s l
passed_on text next k s l None found = ap (λ (o : Option (List ℕ)). (or_fails address_bad o >>= k) s l) found
passed_on text next k s l (Some failure) found = refl

stopped_first : (text : List ℕ) (k : List ℕ → Part Outcome) (s : State) (l : ℕ) (other : HandleStop) (found : failure_type.Failure) (refusal : Option Failure) → StopsFirst other (Failed found) refusal → Misses other address_bad (address_of s.facts.prefix text)
    → (stops_if refusal >>= λ _. address_in text >>= k) s l ≡ fails {A = Outcome} (failure_view found) s l
stopped_first text k s l other found None is misses =
    let miss = subst (λ (x : HandleStop). Misses x address_bad (address_of s.facts.prefix text)) (sym is) misses in
    ap (λ (o : Option (List ℕ)). (or_fails address_bad o >>= k) s l) miss.0 ∙ ap (λ (f : Failure). fails {A = Outcome} f s l) (sym miss.1)
stopped_first text k s l other found (Some failure) is misses = ap (λ (f : Failure). fails {A = Outcome} f s l) (sym is)

no_gas_stop : (text : List ℕ) (other : HandleStop) (refusal : Option Failure) (wanted : Option (List ℕ)) → StopsFirst other OutOfGas refusal → Misses other address_bad wanted → ⊥
no_gas_stop text other None wanted is misses = subst (λ (x : HandleStop). Misses x address_bad wanted) (sym is) misses
no_gas_stop text other (Some failure) wanted is misses = is

module _ {B : Type 0} {S : B → Bytes → Type 0} {prefix : List ℕ} where
  -- ---- what was changed, or refused

  -- the layers stand for the next state, and what is given is said by the one before
  pub change_leads : {X A : Type 0} {old new : Layers B} {l : ℕ} {view : X → A} (tally : Option Tally) (x : X) (part : Part A) (next : State → State) (gives : State → A) (Is : State → Type 0) (Step : State → State → Type 0) → ((s : State) → IsLawful s → Is s)
      → ((s t : State) → IsLawful s → Step s t → (part s l ≡ record { ended = kept (next s) (gives s); left = l; fetched = [] }) × (t ≡ next s) × IsLawful t × (view x ≡ gives s)) → ((s : State) → (next s).facts ≡ s.facts) → Becomes Spells Is S old new Step
      → LeadsUnder prefix S old new tally tally l l part view (Ok x)
  change_leads {X = X} {A = A} {new = new} {l = l} {view = view} tally x part next gives Is Step is_so steps facts changes = record {
    leads = λ maps s stands spelled lawful is.
        let to = changes maps s stands spelled (is_so s lawful) in
        let t : State = to.1 in
        let step = steps s t lawful to.4 in
        let ended : kept (next s) (gives s) ≡ kept t (view x) = ap (kept (next s)) (sym step.3) ∙ ap (λ (u : State). kept u (view x)) (sym step.1) in
        subst (λ (ran : Ran A). Came {X = X} S new tally tally l view (Ok x) maps s ran) (sym step.0) (
          (t, record { map = to.0; stands = to.2; spelled = to.3; lawful = step.2; facts = ap (λ (u : State). u.facts) step.1 ∙ facts s }, ended),
          (refl, no_fetch tally),
        );
  }

  pub refused_leads : {X A : Type 0} {old new : Layers B} {l : ℕ} {view : X → A} (tally : Option Tally) (stop : HandleStop) (failure : Failure) (part : Part A)
      → ((maps : Maps) (s : State) → Stands S old maps → Spells maps.current s → IsLawful s → s.facts.prefix ≡ prefix → part s l ≡ fails {A = A} failure s l) → Turns S old new (λ maps. maps) → Fails stop failure → LeadsUnder prefix S old new tally tally l l part view (Err stop)
  refused_leads {X = X} {A = A} {new = new} {l = l} {view = view} tally (Failed found) failure part path leaves same = record {
    leads = λ maps s stands spelled lawful is.
        subst (λ (ran : Ran A). Came {X = X} S new tally tally l view (Err (Failed found)) maps s ran) (sym (path maps s stands spelled lawful is)) ((leaves maps stands, ap failed (sym same)), (refl, no_fetch tally));
  }
  refused_leads tally OutOfGas failure part path leaves same = absurd same
  refused_leads tally NoMemory failure part path leaves same = no_memory

  pub wants_memory : {X A : Type 0} {old new : Layers B} {l : ℕ} {view : X → A} (tally : Option Tally) (stop : HandleStop) (part : Part A) → stop ≡ NoMemory → LeadsUnder prefix S old new tally tally l l part view (Err stop)
  wants_memory {X = X} {old = old} {new = new} {l = l} {view = view} tally stop part is = subst (λ (x : HandleStop). LeadsUnder {X = X} prefix S old new tally tally l l part view (Err x)) (sym is) no_memory

  -- ---- codes

  pub code_refused : {X A : Type 0} {old new : Layers B} {l : ℕ} {view : X → A} (tally : Option Tally) (why : CodeStop) (stop : HandleStop) (part : Part A) (refusal : State → Option Refusal) → ((s : State) (r : Refusal) → refusal s ≡ Some r → part s l ≡ fails {A = A} (code_failure r) s l)
      → ((map : Bytes) (s : State) → HasCurrent S old map → Spells map s → IsLawful s → code_refusals.IsStop why (refusal s)) → code_refusals.Leaves S old new why → TellsCode why stop → LeadsUnder prefix S old new tally tally l l part view (Err stop)
  code_refused tally (code_stops.Refused r) stop part refusal path each leaves tells =
      refused_leads tally stop (code_failure (codes_of.refused (plain_refusal r))) part (λ maps s stands spelled lawful is. path s (codes_of.refused (plain_refusal r)) (each maps.current s (maps, stands, refl) spelled lawful)) leaves tells
  code_refused tally code_stops.NotAuthority stop part refusal path each leaves tells =
      refused_leads tally stop (code_failure codes_of.not_authority) part (λ maps s stands spelled lawful is. path s codes_of.not_authority (each maps.current s (maps, stands, refl) spelled lawful)) leaves tells
  code_refused tally (code_stops.NoSuchCode id) stop part refusal path each leaves tells =
      refused_leads tally stop (code_failure (codes_of.no_such_code id)) part (λ maps s stands spelled lawful is. path s (codes_of.no_such_code id) (each maps.current s (maps, stands, refl) spelled lawful)) leaves tells
  code_refused tally code_stops.TooManyCodes stop part refusal path each leaves tells =
      refused_leads tally stop (code_failure codes_of.too_many_codes) part (λ maps s stands spelled lawful is. path s codes_of.too_many_codes (each maps.current s (maps, stands, refl) spelled lawful)) leaves tells
  code_refused tally code_stops.TooManyPins stop part refusal path each leaves tells =
      refused_leads tally stop (code_failure codes_of.too_many_pins) part (λ maps s stands spelled lawful is. path s codes_of.too_many_pins (each maps.current s (maps, stands, refl) spelled lawful)) leaves tells
  code_refused tally code_stops.NoMemory stop part refusal path each leaves tells = wants_memory tally stop part tells

  pub pins_lead : {X A : Type 0} {old new : Layers B} {l : ℕ} {view : X → A} (tally : Option Tally) (x : X) (gives : A) (sender ids : List ℕ) → view x ≡ gives → Becomes Spells HasLawfulCodes S old new (λ s t. IsPinned s sender ids t)
      → LeadsUnder prefix S old new tally tally l l (checked (λ s. pin_refusal s sender ids) (λ s. pinned s ids) gives) view (Ok x)
  pins_lead {l = l} tally x gives sender ids same changes =
      change_leads tally x (checked (λ s. pin_refusal s sender ids) (λ s. pinned s ids) gives) (λ s. pinned s ids) (λ s. gives) HasLawfulCodes (λ s t. IsPinned s sender ids t) (λ s lawful. lawful.codes)
      (λ s t lawful is. (ap (λ (r : Option Refusal). (stops_if (option_map code_failure r) >>= λ _. becomes (λ s. pinned s ids) >>= λ _. done gives) s l) is.taken, is.state, lawful_pinned s t (pinned s ids).pins lawful is.state is.lawful, same)) (λ s. refl) changes

  pub unpins_lead : {X A : Type 0} {old new : Layers B} {l : ℕ} {view : X → A} (tally : Option Tally) (x : X) (gives : A) (sender ids : List ℕ) → view x ≡ gives → Becomes Spells HasLawfulCodes S old new (λ s t. IsUnpinned s sender ids t)
      → LeadsUnder prefix S old new tally tally l l (checked (λ s. unpin_refusal s sender ids) (λ s. unpinned s ids) gives) view (Ok x)
  unpins_lead {l = l} tally x gives sender ids same changes =
      change_leads tally x (checked (λ s. unpin_refusal s sender ids) (λ s. unpinned s ids) gives) (λ s. unpinned s ids) (λ s. gives) HasLawfulCodes (λ s t. IsUnpinned s sender ids t) (λ s lawful. lawful.codes)
      (λ s t lawful is. (ap (λ (r : Option Refusal). (stops_if (option_map code_failure r) >>= λ _. becomes (λ s. unpinned s ids) >>= λ _. done gives) s l) is.taken, is.state, lawful_pinned s t (unpinned s ids).pins lawful is.state is.lawful, same)) (λ s. refl) changes

  pub pins_refused : {X A : Type 0} {old new : Layers B} {l : ℕ} {view : X → A} (tally : Option Tally) (why : CodeStop) (stop : HandleStop) (refusal : State → Option Refusal) (next : State → State) (gives : A)
      → OfEach (HasCurrent S old) (λ s. HasLawfulCodes s → code_refusals.IsStop why (refusal s)) → code_refusals.Leaves S old new why → TellsCode why stop → LeadsUnder prefix S old new tally tally l l (checked refusal next gives) view (Err stop)
  pins_refused {A = A} {l = l} tally why stop refusal next gives each leaves tells =
      code_refused tally why stop (checked refusal next gives) refusal (λ s r is. ap (λ (r : Option Refusal). (stops_if (option_map code_failure r) >>= λ _. becomes next >>= λ _. done gives) s l) is) (λ map s stands spelled lawful. each map s stands spelled lawful.codes) leaves tells

  pub stores_lead : {X : Type 0} {old new : Layers B} {l : ℕ} {view : X → Outcome} (tally : Option Tally) (x : X) (sender code : List ℕ) (allow : Option (List (List ℕ))) (id : ℕ) → StayLawfulWithCode → view x ≡ only_events (code_stored code id ∷ []) → Becomes Spells HasLawfulCodes S old new (λ s t. IsStored s sender code allow id t)
      → LeadsUnder prefix S old new tally tally l l (stores sender code allow) view (Ok x)
  stores_lead {l = l} tally x sender code allow id law same changes =
      change_leads tally x (stores sender code allow) (λ s. stored s sender code allow) (λ s. only_events (code_stored code s.counters.next_code ∷ [])) HasLawfulCodes (λ s t. IsStored s sender code allow id t) (λ s lawful. lawful.codes)
      (λ s t lawful is. (ap (λ (r : Option Refusal). (stops_if (option_map code_failure r) >>= λ _. reads (λ (u : State). done u.counters.next_code) >>= λ n. becomes (λ u. stored u sender code allow) >>= λ _. done (only_events (code_stored code n ∷ []))) s l) is.taken, is.state, lawful_coded s t (codes_of.code_of sender code allow) law lawful is.state is.lawful, same ∙ ap (λ (n : ℕ). only_events (code_stored code n ∷ [])) is.next)) (λ s. refl) changes

  pub store_refused : {X : Type 0} {old new : Layers B} {l : ℕ} {view : X → Outcome} (tally : Option Tally) (why : CodeStop) (stop : HandleStop) (sender code : List ℕ) (allow : Option (List (List ℕ)))
      → OfEach (HasCurrent S old) (λ s. code_refusals.IsStop why (store_refusal s code)) → code_refusals.Leaves S old new why → TellsCode why stop → LeadsUnder prefix S old new tally tally l l (stores sender code allow) view (Err stop)
  store_refused {l = l} tally why stop sender code allow each leaves tells =
      code_refused tally why stop (stores sender code allow) (λ s. store_refusal s code)
      (λ s r is. ap (λ (r : Option Refusal). (stops_if (option_map code_failure r) >>= λ _. reads (λ (u : State). done u.counters.next_code) >>= λ n. becomes (λ u. stored u sender code allow) >>= λ _. done (only_events (code_stored code n ∷ []))) s l) is) (λ map s stands spelled lawful. each map s stands spelled) leaves tells

  -- ---- contracts

  pub admin_leads : {X : Type 0} {old new : Layers B} {l : ℕ} {view : X → Outcome} (tally : Option Tally) (x : X) (sender addr : List ℕ) (admin : Option (List ℕ)) → view x ≡ only_events [] → Becomes Spells HasLawfulContracts S old new (λ s t. IsAdminSet s sender addr admin t)
      → LeadsUnder prefix S old new tally tally l l (admin_put sender addr admin) view (Ok x)
  admin_leads {l = l} tally x sender addr admin same changes =
      change_leads tally x (admin_put sender addr admin) (λ s. with_admin s addr admin) (λ s. only_events []) HasLawfulContracts (λ s t. IsAdminSet s sender addr admin t) (λ s lawful. lawful.contracts)
      (λ s t lawful is. (ap (admin_from s.facts.prefix addr admin s l) is.taken, is.state, lawful_admin s t addr admin lawful is.state is.lawful, same)) (λ s. admin_facts s addr admin) changes

  admin_stopped : {X : Type 0} {old new : Layers B} {l : ℕ} {view : X → Outcome} (tally : Option Tally) (stop : HandleStop) (sender addr : List ℕ) (admin : Option (List ℕ)) (r : contracts.Refusal)
      → OfEach (HasCurrent S old) (λ s. change_refusal s sender addr ≡ Some r) → Turns S old new (λ maps. maps) → Fails stop (contract_failure prefix addr r) → LeadsUnder prefix S old new tally tally l l (admin_put sender addr admin) view (Err stop)
  admin_stopped {l = l} tally stop sender addr admin r each leaves tells =
      refused_leads tally stop (contract_failure prefix addr r) (admin_put sender addr admin)
      (λ maps s stands spelled lawful is. ap (admin_from s.facts.prefix addr admin s l) (each maps.current s (maps, stands, refl) spelled) ∙ ap (λ (p : List ℕ). fails {A = Outcome} (contract_failure p addr r) s l) is) leaves tells

  pub admin_refused : {X : Type 0} {old new : Layers B} {l : ℕ} {view : X → Outcome} (tally : Option Tally) (why : AdminStop) (stop : HandleStop) (sender addr : List ℕ) (admin : Option (List ℕ))
      → OfEach (HasCurrent S old) (λ s. admin_refusals.IsStop why (change_refusal s sender addr)) → admin_refusals.Leaves S old new why → TellsContract prefix addr why stop → LeadsUnder prefix S old new tally tally l l (admin_put sender addr admin) view (Err stop)
  admin_refused tally admin_stops.NoSuchContract stop sender addr admin each leaves tells = admin_stopped tally stop sender addr admin contracts.no_such_contract each leaves tells
  admin_refused tally admin_stops.NotAdmin stop sender addr admin each leaves tells = admin_stopped tally stop sender addr admin contracts.not_admin each leaves tells
  admin_refused tally (admin_stops.NoSuchCode id) stop sender addr admin each leaves tells = admin_stopped tally stop sender addr admin (contracts.no_such_code id) each leaves tells
  admin_refused tally admin_stops.MayNotInstantiate stop sender addr admin each leaves tells = admin_stopped tally stop sender addr admin contracts.may_not_instantiate each leaves tells
  admin_refused tally admin_stops.AddressTaken stop sender addr admin each leaves tells = admin_stopped tally stop sender addr admin contracts.address_taken each leaves tells
  admin_refused tally admin_stops.LabelBad stop sender addr admin each leaves tells = admin_stopped tally stop sender addr admin contracts.label_bad each leaves tells
  admin_refused tally admin_stops.NoMemory stop sender addr admin each leaves tells = wants_memory tally stop (admin_put sender addr admin) tells

  -- ---- a new admin

  pub next_admin : {X : Type 0} {old new : Layers B} {l : ℕ} {view : X → Outcome} {before after : Option Tally} {m : ℕ} {result : Result X HandleStop} (sender addr text next : List ℕ) → address_of prefix text ≡ Some next
      → LeadsUnder prefix S old new before after l m (admin_put sender addr (Some next)) view result → LeadsUnder prefix S old new before after l m (may_change sender addr >>= λ _. address_in text >>= λ n. becomes (λ s. with_admin s addr (Some n)) >>= λ _. done (only_events [])) view result
  next_admin {l = l} sender addr text next found leads =
      let k = λ (n : List ℕ). becomes (λ s. with_admin s addr (Some n)) >>= λ _. done (only_events []) in
      alike (may_change sender addr >>= λ _. address_in text >>= k) (admin_put sender addr (Some next))
      (λ s same. passed_on text next k s l (option_map (contract_failure s.facts.prefix addr) (change_refusal s sender addr)) (ap (λ (p : List ℕ). address_of p text) same ∙ found)) leads

  pub no_next_admin : {X : Type 0} {layers : Layers B} {l : ℕ} {view : X → Outcome} (tally : Option Tally) (other stop : HandleStop) (sender addr text : List ℕ) (k : List ℕ → Part Outcome)
      → OfEach (HasCurrent S layers) (λ s. StopsFirst other stop (option_map (contract_failure prefix addr) (change_refusal s sender addr))) → Misses other address_bad (address_of prefix text)
      → LeadsUnder prefix S layers layers tally tally l l (may_change sender addr >>= λ _. address_in text >>= k) view (Err stop)
  no_next_admin {X = X} {layers = layers} {l = l} {view = view} tally other (Failed found) sender addr text k each misses = record {
    leads = λ maps s stands spelled lawful is.
        let first = subst (λ (p : List ℕ). StopsFirst other (Failed found) (option_map (contract_failure p addr) (change_refusal s sender addr))) (sym is) (each maps.current s (maps, stands, refl) spelled) in
        let miss = subst (λ (p : List ℕ). Misses other address_bad (address_of p text)) (sym is) misses in
        let path = stopped_first text k s l other found (option_map (contract_failure s.facts.prefix addr) (change_refusal s sender addr)) first miss in
        subst (λ (ran : Ran Outcome). Came {X = X} S layers tally tally l view (Err (Failed found)) maps s ran) (sym path) ((stands, refl), (refl, no_fetch tally));
  }
  no_next_admin tally other OutOfGas sender addr text k each misses = record {
    leads = λ maps s stands spelled lawful is.
        absurd (no_gas_stop text other (option_map (contract_failure prefix addr) (change_refusal s sender addr)) (address_of prefix text) (each maps.current s (maps, stands, refl) spelled) misses);
  }
  no_next_admin tally other NoMemory sender addr text k each misses = no_memory
