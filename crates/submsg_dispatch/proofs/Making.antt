-- Contracts that are made and migrated: what is looked at before their call, and what is written after it.
use Rattle.std.proofs.Common.{◌≡◌, ℕ, Bool, true, false, List, [], ◌∷◌, Option, None, Some, Result, Ok, Err, refl, sym, ap, ◌∙◌, subst, option_map}
use Rattle.std.specs.Prelude.{IsSome, IsErrAnd, if◌then◌else◌}
use Rattle.std.specs.Option.{is_some, option_or}
use Rattle.std.specs.FinMap.{get}
use Rattle.kv_layers.specs.declared.layers.Layers.{Layers}
use Rattle.kv_layers.specs.Layers.{HasCurrent, Turns}
use Rattle.kv_layers.specs.Maps.{Maps}
use Rattle.kv_layers.specs.Spelling.{Becomes}
use Rattle.chain_records.specs.Records.{PlainContract}
use Rattle.chain_records.specs.State.{Bytes, Code, State, Spells}
use Rattle.chain_records.specs.Spelled.{OfEach}
use Rattle.state_records.specs.Records.{with_contract}
use Rattle.contract_admin.specs.declared.stop.AdminStop.{AdminStop}
use Rattle.contract_admin.specs.declared.stop.AdminStop.TheVariants as admin_stops
use Rattle.contract_admin.specs.Administration.{make_refusal, instantiating_refusal, taken_refusal, create_refusal, code_refusal, change_refusal, migrate_refusal, instance_taken, with_code_id}
use Rattle.contract_admin.specs.Administration as contracts
use Rattle.contract_admin.specs.Refusals as admin_refusals
use Rattle.contract_admin.specs.Effects.{IsCreated, IsInstanceTaken, IsCodeSet}
use Rattle.contract_admin.specs.Lawful.{HasLawfulContracts}
use Rattle.gatekeeper.specs.Cache.{Tally}
use Rattle.chain_msgs.specs.Plain.{Failure, failure_view}
use Rattle.query_router.specs.Lawful.{IsLawful}
use Rattle.submsg_dispatch.specs.declared.called.Called as called_type
use Rattle.submsg_dispatch.specs.declared.stop.HandleStop.{HandleStop}
use Rattle.submsg_dispatch.specs.declared.stop.HandleStop.TheVariants.{Failed, OutOfGas, NoMemory}
use Rattle.submsg_dispatch.specs.Parts.{Part, Ran, done, fails, stops_if, becomes, reads, goes_on, ◌>>=◌}
use Rattle.submsg_dispatch.specs.Failures.{contract_failure}
use Rattle.submsg_dispatch.specs.Calling.{Called, refused_if, new_address, free_address}
use Rattle.submsg_dispatch.specs.Stages.{Gives, called_view, nothing_view, create_written, migrate_written}
use Rattle.submsg_dispatch.specs.Under.{Fails, TellsContract, LeadsOn, bytes_view}
use Rattle.submsg_dispatch.proofs.Chaining.{no_memory_on, on_of_under, sees_on, fails_on, stop_on}
use Rattle.submsg_dispatch.proofs.Changing.{change_leads, refused_leads}
use Rattle.submsg_dispatch.proofs.Lawfulness.{lawful_created, lawful_migrated, lawful_counted, code_id_facts}

-- ---- parts that only look

pub stops_gives : {X A : Type 0} (prefix : List ℕ) (view : X → A) (stop : HandleStop) (failure : Failure) (part : Part A) → Fails stop failure → ((s : State) (left : ℕ) → s.facts.prefix ≡ prefix → part s left ≡ fails {A = A} failure s left) → Gives {X = X} prefix view (Err stop) part
stops_gives {A = A} prefix view (Failed found) failure part same gives = λ s left is. gives s left is ∙ ap (λ (f : Failure). fails {A = A} f s left) (sym same)
stops_gives prefix view OutOfGas failure part same gives = same
stops_gives prefix view NoMemory failure part same gives = tt

pub gives_then : {X Y A C : Type 0} (prefix : List ℕ) (view : X → A) (other : Y → C) (x : X) (result : Result Y HandleStop) (p : Part A) (k : A → Part C) → Gives prefix view (Ok x) p → Gives prefix other result (k (view x)) → Gives prefix other result (p >>= k)
gives_then prefix view other x (Ok y) p k first next = λ s left is. ap (λ r. goes_on k r.ended r.left r.fetched) (first s left is) ∙ next s left is
gives_then prefix view other x (Err (Failed failure)) p k first next = λ s left is. ap (λ r. goes_on k r.ended r.left r.fetched) (first s left is) ∙ next s left is
gives_then prefix view other x (Err OutOfGas) p k first next = next
gives_then prefix view other x (Err NoMemory) p k first next = tt

pub gives_stop : {X Y A C : Type 0} (prefix : List ℕ) (view : X → A) (other : Y → C) (stop : HandleStop) (p : Part A) (k : A → Part C) → Gives {X = X} prefix view (Err stop) p → Gives {X = Y} prefix other (Err stop) (p >>= k)
gives_stop prefix view other (Failed failure) p k first = λ s left is. ap (λ r. goes_on k r.ended r.left r.fetched) (first s left is)
gives_stop prefix view other OutOfGas p k first = first
gives_stop prefix view other NoMemory p k first = tt

-- a stop that is passed on
pub gives_so : {X A : Type 0} (prefix : List ℕ) (view : X → A) (result : Result X HandleStop) (stop : HandleStop) (part : Part A) → IsErrAnd result (λ y. y ≡ stop) → Gives {X = X} prefix view (Err stop) part → Gives prefix view result part
gives_so prefix view (Ok x) stop part is gives = absurd is
gives_so {X = X} prefix view (Err y) stop part is gives = subst (λ (e : HandleStop). Gives {X = X} prefix view (Err e) part) (sym is) gives

-- ---- refusals

refusal_known : (why : AdminStop) (o other : Option contracts.Refusal) → admin_refusals.IsStop why o → admin_refusals.IsStop why (option_or o other)
refusal_known admin_stops.NoSuchContract o other is = ap (λ r. option_or r other) is
refusal_known admin_stops.NotAdmin o other is = ap (λ r. option_or r other) is
refusal_known (admin_stops.NoSuchCode id) o other is = ap (λ r. option_or r other) is
refusal_known admin_stops.MayNotInstantiate o other is = ap (λ r. option_or r other) is
refusal_known admin_stops.AddressTaken o other is = ap (λ r. option_or r other) is
refusal_known admin_stops.LabelBad o other is = ap (λ r. option_or r other) is
refusal_known admin_stops.NoMemory o other is = tt

-- that of the change comes before that of the code
pub migrate_stop : (s : State) (sender addr : List ℕ) (id : ℕ) (why : AdminStop) → admin_refusals.IsStop why (change_refusal s sender addr) → admin_refusals.IsStop why (migrate_refusal s sender addr id)
migrate_stop s sender addr id why is = refusal_known why (change_refusal s sender addr) (code_refusal s id) is

abbrev of_code : Option Code → ℕ → Option contracts.Refusal
of_code o id = contracts.unless (is_some o) (contracts.no_such_code id)

has_code : {A : Type 0} (f : Code → A) (o : Option Code) (id : ℕ) (a : A) → Some a ≡ option_map f o → of_code o id ≡ None
has_code f None id a is = absurd cc
has_code f (Some code) id a is = refl

has_none : {A : Type 0} (f : Code → A) (o : Option Code) (id : ℕ) → None ≡ option_map f o → of_code o id ≡ Some (contracts.no_such_code id)
has_none f None id is = refl
has_none f (Some code) id is = absurd cc

pub may_be_migrated : {A : Type 0} (s : State) (sender addr : List ℕ) (id : ℕ) (f : Code → A) (a : A) → change_refusal s sender addr ≡ None → Some a ≡ option_map f (get s.codes id) → migrate_refusal s sender addr id ≡ None
may_be_migrated s sender addr id f a ok has = ap (λ r. option_or r (code_refusal s id)) ok ∙ has_code f (get s.codes id) id a has

pub without_code : {A : Type 0} (s : State) (sender addr : List ℕ) (id : ℕ) (f : Code → A) → change_refusal s sender addr ≡ None → None ≡ option_map f (get s.codes id) → migrate_refusal s sender addr id ≡ Some (contracts.no_such_code id)
without_code s sender addr id f ok none = ap (λ r. option_or r (code_refusal s id)) ok ∙ has_none f (get s.codes id) id none

made_has_code : (o : Option Code) (id : ℕ) (sender : List ℕ) → instantiating_refusal o id sender ≡ None → IsSome o
made_has_code None id sender is = absurd cc
made_has_code (Some code) id sender is = refl

pub make_has_code : (s : State) (sender : List ℕ) (id : ℕ) → make_refusal s sender id ≡ None → IsSome (get s.codes id)
make_has_code s sender id is = made_has_code (get s.codes id) id sender is

-- ---- the address of a new contract

abbrev barred : List ℕ → List ℕ → Option contracts.Refusal → Part (Unit {0})
barred prefix addr refusal = stops_if (option_map (contract_failure prefix addr) refusal)

abbrev taken_if : Option PlainContract → Option contracts.Refusal
taken_if o = if is_some o then Some contracts.address_taken else None

abbrev from_address : List ℕ → State → ℕ → List ℕ → Ran (List ℕ)
from_address prefix s l addr = (barred prefix addr (taken_refusal s addr) >>= λ _. done addr) s l

abbrev from_contract : List ℕ → List ℕ → State → ℕ → Option PlainContract → Ran (List ℕ)
from_contract prefix addr s l o = (barred prefix addr (taken_if o) >>= λ _. done addr) s l

to_address : (prefix addr : List ℕ) (s : State) (l : ℕ) (c : PlainContract) (salt : Option (List ℕ)) → make_refusal s c.creator c.code_id ≡ None → addr ≡ new_address s c.creator c.code_id salt → free_address prefix c salt s l ≡ from_address prefix s l addr
to_address prefix addr s l c salt made is =
    ap (λ (r : Option contracts.Refusal). (barred prefix [] r >>= λ _. reads (λ (u : State). done (new_address u c.creator c.code_id salt)) >>= λ (a : List ℕ). reads (λ (u : State). barred prefix a (taken_refusal u a)) >>= λ _. done a) s l) made
    ∙ ap (λ (a : List ℕ). from_address prefix s l a) (sym is)

module _ {B : Type 0} {S : B → Bytes → Type 0} {prefix : List ℕ} where
  pub refused_seen : {layers : Layers B} {tally : Option Tally} {l : ℕ} (addr : List ℕ) (refusal : State → Option contracts.Refusal) → OfEach (HasCurrent S layers) (λ s. refusal s ≡ None) → LeadsOn prefix S layers layers tally tally l l (refused_if prefix addr refusal) nothing_view (Ok tt)
  refused_seen {l = l} addr refusal each = sees_on (refused_if prefix addr refusal) tt (λ maps s stands spelled lawful is. ap (λ (r : Option contracts.Refusal). barred prefix addr r s l) (each maps.current s (maps, stands, refl) spelled))

  pub refused_for : {X : Type 0} {layers : Layers B} {tally : Option Tally} {l : ℕ} {view : X → Unit {0}} (addr : List ℕ) (refusal : State → Option contracts.Refusal) (stop : HandleStop) (r : contracts.Refusal) → OfEach (HasCurrent S layers) (λ s. refusal s ≡ Some r) → Fails stop (contract_failure prefix addr r)
      → LeadsOn prefix S layers layers tally tally l l (refused_if prefix addr refusal) view (Err stop)
  refused_for {l = l} addr refusal stop r each same = fails_on (refused_if prefix addr refusal) stop (contract_failure prefix addr r) same (λ maps s stands spelled lawful is. ap (λ (o : Option contracts.Refusal). barred prefix addr o s l) (each maps.current s (maps, stands, refl) spelled))

  pub refused_stops : {X : Type 0} {layers : Layers B} {tally : Option Tally} {l : ℕ} {view : X → Unit {0}} (addr : List ℕ) (refusal : State → Option contracts.Refusal) (why : AdminStop) (stop : HandleStop) → OfEach (HasCurrent S layers) (λ s. admin_refusals.IsStop why (refusal s)) → TellsContract prefix addr why stop
      → LeadsOn prefix S layers layers tally tally l l (refused_if prefix addr refusal) view (Err stop)
  refused_stops addr refusal admin_stops.NoSuchContract stop each tells = refused_for addr refusal stop contracts.no_such_contract each tells
  refused_stops addr refusal admin_stops.NotAdmin stop each tells = refused_for addr refusal stop contracts.not_admin each tells
  refused_stops addr refusal (admin_stops.NoSuchCode id) stop each tells = refused_for addr refusal stop (contracts.no_such_code id) each tells
  refused_stops addr refusal admin_stops.MayNotInstantiate stop each tells = refused_for addr refusal stop contracts.may_not_instantiate each tells
  refused_stops addr refusal admin_stops.AddressTaken stop each tells = refused_for addr refusal stop contracts.address_taken each tells
  refused_stops addr refusal admin_stops.LabelBad stop each tells = refused_for addr refusal stop contracts.label_bad each tells
  refused_stops {X = X} {layers = layers} {tally = tally} {l = l} {view = view} addr refusal admin_stops.NoMemory stop each tells =
      subst (λ (e : HandleStop). LeadsOn {X = X} prefix S layers layers tally tally l l (refused_if prefix addr refusal) view (Err e)) (sym tells) no_memory_on

  -- ---- the address of a new contract

  pub address_seen : {layers : Layers B} {tally : Option Tally} {l : ℕ} {X : Type 0} {view : X → List ℕ} (c : PlainContract) (salt : Option (List ℕ)) (x : X) → OfEach (HasCurrent S layers) (λ s. make_refusal s c.creator c.code_id ≡ None)
      → OfEach (HasCurrent S layers) (λ s. IsSome (get s.codes c.code_id) → view x ≡ new_address s c.creator c.code_id salt) → OfEach (HasCurrent S layers) (λ s. None ≡ get s.contracts (view x)) → LeadsOn prefix S layers layers tally tally l l (free_address prefix c salt) view (Ok x)
  address_seen {l = l} {view = view} c salt x makes address free = sees_on (free_address prefix c salt) x
      (λ maps s stands spelled lawful is.
      let made = makes maps.current s (maps, stands, refl) spelled in
      to_address prefix (view x) s l c salt made (address maps.current s (maps, stands, refl) spelled (make_has_code s c.creator c.code_id made))
      ∙ ap (λ (o : Option PlainContract). from_contract prefix (view x) s l o) (sym (free maps.current s (maps, stands, refl) spelled)))

  pub address_taken_seen : {layers : Layers B} {tally : Option Tally} {l : ℕ} {X : Type 0} {view : X → List ℕ} (c found : PlainContract) (salt : Option (List ℕ)) (addr : List ℕ) (stop : HandleStop) → OfEach (HasCurrent S layers) (λ s. make_refusal s c.creator c.code_id ≡ None)
      → OfEach (HasCurrent S layers) (λ s. IsSome (get s.codes c.code_id) → addr ≡ new_address s c.creator c.code_id salt) → OfEach (HasCurrent S layers) (λ s. Some found ≡ get s.contracts addr) → Fails stop (contract_failure prefix addr contracts.address_taken)
      → LeadsOn prefix S layers layers tally tally l l (free_address prefix c salt) view (Err stop)
  address_taken_seen {l = l} c found salt addr stop makes address takes same = fails_on (free_address prefix c salt) stop (contract_failure prefix addr contracts.address_taken) same
      (λ maps s stands spelled lawful is.
      let made = makes maps.current s (maps, stands, refl) spelled in
      to_address prefix addr s l c salt made (address maps.current s (maps, stands, refl) spelled (make_has_code s c.creator c.code_id made))
      ∙ ap (λ (o : Option PlainContract). from_contract prefix addr s l o) (sym (takes maps.current s (maps, stands, refl) spelled)))

  pub address_stops : {X : Type 0} {layers : Layers B} {tally : Option Tally} {l : ℕ} {view : X → List ℕ} (c : PlainContract) (salt : Option (List ℕ)) (why : AdminStop) (stop : HandleStop) → OfEach (HasCurrent S layers) (λ s. admin_refusals.IsStop why (make_refusal s c.creator c.code_id)) → TellsContract prefix [] why stop
      → LeadsOn prefix S layers layers tally tally l l (free_address prefix c salt) view (Err stop)
  address_stops c salt why stop each tells =
      let makes = λ (s : State). make_refusal s c.creator c.code_id in
      stop_on stop (refused_if prefix [] makes) (λ _. reads (λ (u : State). done (new_address u c.creator c.code_id salt)) >>= λ (a : List ℕ). refused_if prefix a (λ (u : State). taken_refusal u a) >>= λ _. done a)
      (refused_stops {X = Unit {0}} {view = nothing_view} [] makes why stop each tells)

  -- ---- what is written

  pub instance_leads : {old new : Layers B} {tally : Option Tally} {l : ℕ} (id : ℕ) → Becomes Spells HasLawfulContracts S old new (λ s t. IsInstanceTaken s id t) → LeadsOn prefix S old new tally tally l l (becomes instance_taken) (λ (n : ℕ). tt) (Ok id)
  instance_leads {tally = tally} id changes = on_of_under (Ok id)
      (change_leads tally id (becomes instance_taken) instance_taken (λ s. tt) HasLawfulContracts (λ s t. IsInstanceTaken s id t) (λ s lawful. lawful.contracts)
      (λ s t lawful is. (refl, is.state, lawful_counted s t lawful is.state is.lawful, refl)) (λ s. refl) changes)

  pub created_leads : {old new : Layers B} {tally : Option Tally} {l : ℕ} (addr : List ℕ) (c : PlainContract) (called : called_type.Called) → Becomes Spells HasLawfulContracts S old new (λ s t. IsCreated s addr c t)
      → LeadsOn prefix S old new tally tally l l (create_written prefix addr c (called_view called)) called_view (Ok called)
  created_leads {tally = tally} {l = l} addr c called changes = on_of_under (Ok called)
      (change_leads tally called (create_written prefix addr c (called_view called)) (λ s. with_contract s addr c) (λ s. called_view called) HasLawfulContracts (λ s t. IsCreated s addr c t) (λ s lawful. lawful.contracts)
      (λ s t lawful is. (
        ap (λ (r : Option contracts.Refusal). (barred prefix addr r >>= λ _. becomes (λ u. with_contract u addr c) >>= λ _. done (called_view called)) s l) is.taken,
        is.state,
        lawful_created s t addr c lawful is.state is.lawful,
        refl,
      )) (λ s. refl) changes)

  pub migrated_leads : {old new : Layers B} {tally : Option Tally} {l : ℕ} (sender addr : List ℕ) (id : ℕ) (called : called_type.Called) → Becomes Spells HasLawfulContracts S old new (λ s t. IsCodeSet s sender addr id t)
      → LeadsOn prefix S old new tally tally l l (migrate_written prefix sender addr id (called_view called)) called_view (Ok called)
  migrated_leads {tally = tally} {l = l} sender addr id called changes = on_of_under (Ok called)
      (change_leads tally called (migrate_written prefix sender addr id (called_view called)) (λ s. with_code_id s addr id) (λ s. called_view called) HasLawfulContracts (λ s t. IsCodeSet s sender addr id t) (λ s lawful. lawful.contracts)
      (λ s t lawful is. (
        ap (λ (r : Option contracts.Refusal). (barred prefix addr r >>= λ _. becomes (λ u. with_code_id u addr id) >>= λ _. done (called_view called)) s l) is.taken,
        is.state,
        lawful_migrated s t addr id lawful is.state is.lawful,
        refl,
      )) (λ s. code_id_facts s addr id) changes)

  written_for : {X A : Type 0} {old new : Layers B} {tally : Option Tally} {l : ℕ} {view : X → A} (addr : List ℕ) (refusal : State → Option contracts.Refusal) (k : Unit {0} → Part A) (stop : HandleStop) (r : contracts.Refusal) → OfEach (HasCurrent S old) (λ s. refusal s ≡ Some r) → Turns S old new (λ maps. maps) → Fails stop (contract_failure prefix addr r)
      → LeadsOn prefix S old new tally tally l l (refused_if prefix addr refusal >>= k) view (Err stop)
  written_for {tally = tally} {l = l} addr refusal k stop r each leaves same = on_of_under (Err stop)
      (refused_leads tally stop (contract_failure prefix addr r) (refused_if prefix addr refusal >>= k) (λ maps s stands spelled lawful is. ap (λ (o : Option contracts.Refusal). (barred prefix addr o >>= k) s l) (each maps.current s (maps, stands, refl) spelled)) leaves same)

  -- what isn't written
  pub written_stops : {X A : Type 0} {old new : Layers B} {tally : Option Tally} {l : ℕ} {view : X → A} (addr : List ℕ) (refusal : State → Option contracts.Refusal) (k : Unit {0} → Part A) (why : AdminStop) (stop : HandleStop) → OfEach (HasCurrent S old) (λ s. admin_refusals.IsStop why (refusal s)) → admin_refusals.Leaves S old new why → TellsContract prefix addr why stop
      → LeadsOn prefix S old new tally tally l l (refused_if prefix addr refusal >>= k) view (Err stop)
  written_stops addr refusal k admin_stops.NoSuchContract stop each leaves tells = written_for addr refusal k stop contracts.no_such_contract each leaves tells
  written_stops addr refusal k admin_stops.NotAdmin stop each leaves tells = written_for addr refusal k stop contracts.not_admin each leaves tells
  written_stops addr refusal k (admin_stops.NoSuchCode id) stop each leaves tells = written_for addr refusal k stop (contracts.no_such_code id) each leaves tells
  written_stops addr refusal k admin_stops.MayNotInstantiate stop each leaves tells = written_for addr refusal k stop contracts.may_not_instantiate each leaves tells
  written_stops addr refusal k admin_stops.AddressTaken stop each leaves tells = written_for addr refusal k stop contracts.address_taken each leaves tells
  written_stops addr refusal k admin_stops.LabelBad stop each leaves tells = written_for addr refusal k stop contracts.label_bad each leaves tells
  written_stops {X = X} {old = old} {new = new} {tally = tally} {l = l} {view = view} addr refusal k admin_stops.NoMemory stop each leaves tells =
      subst (λ (e : HandleStop). LeadsOn {X = X} prefix S old new tally tally l l (refused_if prefix addr refusal >>= k) view (Err e)) (sym tells) no_memory_on
