-- Not for readers of contracts: it serves the proofs of this crate alone.
-- What calls do where the prefix of addresses was read before, and what the stops of the crates below say here.
use Rattle.std.specs.Prelude.{ℕ, ◌≡◌, List, [], ◌∷◌, map, codes, Option, None, Some, option_map, IsSome, Result, Ok, Err, ⊤, string_bytes}
use Rattle.std.specs.Global.{Vec}
use Rattle.std.specs.declared.alloc.AllocError.{AllocError}
use Rattle.json_shapes.specs.declared.stop.ShapeStop.{ShapeStop}
use Rattle.json_shapes.specs.declared.stop.ShapeStop.TheVariants as shape_stops
use Rattle.coin_amounts.specs.Plain.{Coin}
use Rattle.kv_layers.specs.declared.layers.Layers.{Layers}
use Rattle.kv_layers.specs.Layers.{Stands, Turns}
use Rattle.kv_layers.specs.Maps.{Maps, changed, kept as kept_layer, dropped}
use Rattle.chain_records.specs.State.{Bytes, State, Spells}
use Rattle.chain_records.specs.Records.{list_view}
use Rattle.chain_records.specs.Spelled.{OfSome}
use Rattle.bank_ledger.specs.declared.stop.BankStop.{BankStop}
use Rattle.bank_ledger.specs.declared.stop.BankStop.TheVariants as bank_stops
use Rattle.wasm_types.specs.Plain.{plain_refusal}
use Rattle.code_registry.specs.declared.stop.CodeStop.{CodeStop}
use Rattle.code_registry.specs.declared.stop.CodeStop.TheVariants as code_stops
use Rattle.code_registry.specs.Codes as codes_of
use Rattle.contract_admin.specs.declared.stop.AdminStop.{AdminStop}
use Rattle.contract_admin.specs.declared.stop.AdminStop.TheVariants as admin_stops
use Rattle.contract_admin.specs.Administration as contracts
use Rattle.contract_admin.specs.Administration.{with_admin}
use Rattle.gatekeeper.specs.Cache.{Tally}
use Rattle.gatekeeper.specs.Fetches.{Tallies}
use Rattle.chain_msgs.specs.declared.event.Event as event_type
use Rattle.chain_msgs.specs.declared.failure.Failure as failure_type
use Rattle.chain_msgs.specs.Plain.{Event, event_view, Failure, failure_view, Tx, TxResult}
use Rattle.gas_meter.specs.declared.schedule.Schedule.{Schedule}
pub use Rattle.query_router.specs.Lawful.{HasLawfulUnder}
use Rattle.query_router.specs.Lawful.{IsLawful}
use Rattle.submsg_dispatch.specs.declared.outcome.Outcome as outcome_type
use Rattle.submsg_dispatch.specs.declared.stop.HandleStop.{HandleStop}
use Rattle.submsg_dispatch.specs.declared.stop.HandleStop.TheVariants.{Failed, OutOfGas, NoMemory}
use Rattle.submsg_dispatch.specs.Parts.{Part, Ran, kept, failed, out_of_gas, done, becomes, reads, ◌>>=◌}
use Rattle.submsg_dispatch.specs.Failures.{not_enough, message_bad, code_failure, contract_failure}
use Rattle.submsg_dispatch.specs.Failures as failures
use Rattle.submsg_dispatch.specs.Events.{transfer, burn}
use Rattle.submsg_dispatch.specs.Messages.{Outcome, only_events, moves, burns, may_change}
use Rattle.submsg_dispatch.specs.Transactions.{TxRan, failed_result, succeeded}
use Rattle.submsg_dispatch.specs.Blocks.{all_run}
use Rattle.submsg_dispatch.specs.Views.{outcome_view}
use Rattle.submsg_dispatch.specs.Reaching.{Arrives, Leaves, Comes, UnlessNoMemory}

-- ---- plain forms

abbrev pub bytes_view : Vec ℕ → List ℕ
bytes_view bytes = bytes.items

abbrev pub events_view : Vec event_type.Event → List Event
events_view events = map event_view events.items

abbrev pub allowed_view : Option (Vec (Vec ℕ)) → Option (List (List ℕ))
allowed_view allowed = option_map list_view allowed

abbrev pub outcomes_view : Vec outcome_type.Outcome → List Outcome
outcomes_view outcomes = map outcome_view outcomes.items

-- ---- stops

-- the stop of a failure that was made, or of want of memory
abbrev pub stop_from : Result failure_type.Failure AllocError → HandleStop
stop_from (Ok failure) = Failed failure
stop_from (Err error) = NoMemory

-- the stop is this failure, unless memory ran out
abbrev pub Fails : HandleStop → Failure → Type 0
Fails (Failed found) failure = failure_view found ≡ failure
Fails OutOfGas failure = ⊥
Fails NoMemory failure = ⊤

-- there is nothing, and the stop is this failure, unless memory ran out
abbrev pub Misses : {A : Type 0} → HandleStop → Failure → Option A → Type 0
Misses (Failed found) failure wanted = (wanted ≡ None) × (failure_view found ≡ failure)
Misses OutOfGas failure wanted = ⊥
Misses NoMemory failure wanted = ⊤

-- what there is, or this failure where there is nothing
abbrev pub Finds : {X A : Type 0} → (X → A) → Result X HandleStop → Failure → Option A → Type 0
Finds view (Ok x) failure wanted = wanted ≡ Some (view x)
Finds view (Err stop) failure wanted = Misses stop failure wanted

-- the stop of the bank, as one of a message
abbrev pub Lacks : BankStop → HandleStop → Type 0
Lacks (bank_stops.NotEnough denom have want) stop = Fails stop (not_enough (record { denom = string_bytes denom; have = have; want = want }))
Lacks bank_stops.NoMemory stop = stop ≡ NoMemory

-- the stop of the registry of codes, as one of a message
abbrev pub TellsCode : CodeStop → HandleStop → Type 0
TellsCode (code_stops.Refused refusal) stop = Fails stop (code_failure (codes_of.refused (plain_refusal refusal)))
TellsCode code_stops.NotAuthority stop = Fails stop (code_failure codes_of.not_authority)
TellsCode (code_stops.NoSuchCode id) stop = Fails stop (code_failure (codes_of.no_such_code id))
TellsCode code_stops.TooManyCodes stop = Fails stop (code_failure codes_of.too_many_codes)
TellsCode code_stops.TooManyPins stop = Fails stop (code_failure codes_of.too_many_pins)
TellsCode code_stops.NoMemory stop = stop ≡ NoMemory

-- the stop of a change of a contract, as one of a message
abbrev pub TellsContract : List ℕ → List ℕ → AdminStop → HandleStop → Type 0
TellsContract prefix addr admin_stops.NoSuchContract stop = Fails stop (contract_failure prefix addr contracts.no_such_contract)
TellsContract prefix addr admin_stops.NotAdmin stop = Fails stop (contract_failure prefix addr contracts.not_admin)
TellsContract prefix addr (admin_stops.NoSuchCode id) stop = Fails stop (contract_failure prefix addr (contracts.no_such_code id))
TellsContract prefix addr admin_stops.MayNotInstantiate stop = Fails stop (contract_failure prefix addr contracts.may_not_instantiate)
TellsContract prefix addr admin_stops.AddressTaken stop = Fails stop (contract_failure prefix addr contracts.address_taken)
TellsContract prefix addr admin_stops.LabelBad stop = Fails stop (contract_failure prefix addr contracts.label_bad)
TellsContract prefix addr admin_stops.NoMemory stop = stop ≡ NoMemory

-- the stop of a check that is looked at first, or else the other one
abbrev pub StopsFirst : HandleStop → HandleStop → Option Failure → Type 0
StopsFirst other NoMemory refusal = ⊤
StopsFirst other stop None = stop ≡ other
StopsFirst other stop (Some failure) = Fails stop failure

-- the stop of a value that is no message
abbrev pub MissesForm : ShapeStop → HandleStop → Type 0
MissesForm (shape_stops.Shape path want) stop = Fails stop message_bad
MissesForm shape_stops.NoMemory stop = stop ≡ NoMemory

-- wherever the part begins with so much gas, it stops so and leaves so much, and asks for no code; want of memory says nothing
abbrev pub StopsAt : {A : Type 0} → HandleStop → ℕ → ℕ → Part A → Type 0
StopsAt (Failed failure) before after part = (s : State) → part s before ≡ record { ended = failed (failure_view failure); left = after; fetched = [] }
StopsAt OutOfGas before after part = (s : State) → part s before ≡ record { ended = out_of_gas; left = after; fetched = [] }
StopsAt NoMemory before after part = ⊤

-- ---- parts of messages

-- coins move that are paid for, and it is told
abbrev pub moves_told : List ℕ → List ℕ → List Coin → Part (List Event)
moves_told from to coins = moves from to coins >>= λ _. reads (λ s. done (transfer s.facts.prefix from to coins ∷ []))

abbrev pub burns_told : List ℕ → List Coin → Part Outcome
burns_told from coins = burns from coins >>= λ _. reads (λ s. done (only_events (burn s.facts.prefix from coins ∷ [])))

-- a contract gets another admin, or none
abbrev pub admin_put : List ℕ → List ℕ → Option (List ℕ) → Part Outcome
admin_put sender addr admin = may_change sender addr >>= λ _. becomes (λ s. with_admin s addr admin) >>= λ _. done (only_events [])

-- ---- what calls do

-- for each map and lawful state with this prefix that the layers stood for
pub record LeadsUnder {B X A : Type 0} (prefix : List ℕ) (S : B → Bytes → Type 0) (old new : Layers B) (before after : Option Tally) (left_before left_after : ℕ) (part : Part A) (view : X → A) (result : Result X HandleStop) : Type 0 where
  pub leads : (maps : Maps) (s : State) → Stands S old maps → Spells maps.current s → IsLawful s → s.facts.prefix ≡ prefix
      → Comes S new maps s view result (part s left_before) × UnlessNoMemory result (Leaves left_after before after (part s left_before))

-- the same of parts one after the other, of which those before the one that stopped are not undone
abbrev pub Ends : {B X A : Type 0} → (B → Bytes → Type 0) → Layers B → Maps → State → (X → A) → Result X HandleStop → Ran A → Type 0
Ends S new maps s view (Ok x) ran = (t : State) × Arrives S new maps s t × (ran.ended ≡ kept t (view x))
Ends S new maps s view (Err (Failed failure)) ran = ((map : Bytes) × Stands S new (changed maps map)) × (ran.ended ≡ failed (failure_view failure))
Ends S new maps s view (Err OutOfGas) ran = ((map : Bytes) × Stands S new (changed maps map)) × (ran.ended ≡ out_of_gas)
Ends S new maps s view (Err NoMemory) ran = ⊤

pub record LeadsOn {B X A : Type 0} (prefix : List ℕ) (S : B → Bytes → Type 0) (old new : Layers B) (before after : Option Tally) (left_before left_after : ℕ) (part : Part A) (view : X → A) (result : Result X HandleStop) : Type 0 where
  pub leads : (maps : Maps) (s : State) → Stands S old maps → Spells maps.current s → IsLawful s → s.facts.prefix ≡ prefix
      → Ends S new maps s view result (part s left_before) × UnlessNoMemory result (Leaves left_after before after (part s left_before))

-- ---- what transactions do

-- the failure of a transaction that was stopped so
abbrev pub IsFailureOf : HandleStop → Failure → Type 0
IsFailureOf (Failed found) failure = failure ≡ failure_view found
IsFailureOf OutOfGas failure = failure ≡ failures.out_of_gas
IsFailureOf NoMemory failure = ⊥

-- the newest layer is kept where all messages were done, and dropped where one was stopped
abbrev pub Closes : {B : Type 0} → (B → Bytes → Type 0) → Layers B → Layers B → Result (Vec outcome_type.Outcome) HandleStop → ℕ → TxResult → Type 0
Closes S old new (Ok outcomes) gas result = Turns S old new kept_layer × (result ≡ succeeded (outcomes_view outcomes) gas)
Closes S old new (Err (Failed failure)) gas result = Turns S old new dropped × (result ≡ failed_result (failure_view failure) gas)
Closes S old new (Err OutOfGas) gas result = Turns S old new dropped × (result ≡ failed_result failures.out_of_gas gas)
Closes S old new (Err NoMemory) gas result = ⊥

-- for each map and lawful state with this prefix that the layers stood for
pub record RunsUnder {B : Type 0} (prefix : List ℕ) (S : B → Bytes → Type 0) (old new : Layers B) (before after : Option Tally) (run : State → TxRan) (result : TxResult) : Type 0 where
  pub ran : (maps : Maps) (s : State) → Stands S old maps → Spells maps.current s → IsLawful s → s.facts.prefix ≡ prefix
      → Arrives S new maps s (run s).state × (result ≡ (run s).result) × Tallies before (run s).fetched after
  pub undone : IsSome result.failure → (maps : Maps) (s : State) → Stands S old maps → Spells maps.current s → IsLawful s → s.facts.prefix ≡ prefix → Stands S new maps

pub record RunsAllUnder {B : Type 0} (prefix : List ℕ) (S : B → Bytes → Type 0) (old new : Layers B) (before after : Option Tally) (costs : Schedule) (txs : List Tx) (results : List TxResult) : Type 0 where
  pub ran : (maps : Maps) (s : State) → Stands S old maps → Spells maps.current s → IsLawful s → s.facts.prefix ≡ prefix
      → Arrives S new maps s (all_run costs s 0 txs).state × (results ≡ (all_run costs s 0 txs).results) × Tallies before (all_run costs s 0 txs).fetched after
