-- Not for readers of contracts: it serves the proofs of this crate alone.
-- What parts of a call do, by what they give or why they give nothing.
use Rattle.std.specs.Prelude.{ℕ, ◌≡◌, List, map, Option, Some, None, IfSome, Result, Ok, Err, ⊤}
use Rattle.std.specs.Option.{option_map}
use Rattle.std.specs.Global.{Vec}
use Rattle.kv_layers.specs.declared.layers.Layers.{Layers}
use Rattle.kv_layers.specs.Bytes.{Bytes}
use Rattle.kv_layers.specs.Maps.{Maps, changed}
use Rattle.kv_layers.specs.Plain.{bytes_view}
use Rattle.gas_store.specs.declared.scoped.Scoped.{Scoped}
use Rattle.gas_store.specs.Storage.{HasOthers}
use Rattle.gas_store.specs.Views.{addr_of}
use Rattle.wasm_types.specs.declared.value.Value.{Value}
use Rattle.wasm_machine.specs.declared.machine.Machine.{Machine}
use Rattle.wasm_machine.specs.declared.turn.Phase.TheVariants.{Ready, Asked}
use Rattle.wasm_machine.specs.Machine.{plain_of, phase_of, HasUnbegunCall}
use Rattle.host_imports.specs.Faults.{fault_view}
use Rattle.host_imports.specs.Allocation.{misplaced}
use Rattle.host_imports.specs.Work.{Place, Ended, gave, faulted, ran_out, Ran, Work}
use Rattle.host_imports.specs.Imports.{Setting, Settled, answered, wants_query}
use Rattle.host_imports.specs.Reaching.{IsAt, Holds, Comes, Reaches}
use Rattle.contract_call.specs.declared.stage.Stage.{Stage}
use Rattle.contract_call.specs.declared.stage.Stage.TheVariants as stages
use Rattle.contract_call.specs.declared.stop.Stop.{Stop}
use Rattle.contract_call.specs.declared.stop.Stop.TheVariants as stops
use Rattle.contract_call.specs.declared.stop.Pause as pause_type
use Rattle.contract_call.specs.declared.stop.Pause.TheVariants as pauses
use Rattle.contract_call.specs.Calls.{Reached, finished, wants, call_of, opens, hands}

-- ---- plain forms

abbrev pub same_view : {A : Type 0} → A → A
same_view x = x

abbrev pub unit_view : Unit {0} → Unit {0}
unit_view done = tt

abbrev pub answered_view : Unit {0} → Settled
answered_view done = answered

abbrev pub query_view : Vec ℕ → Settled
query_view request = wants_query request.items

abbrev pub values_view : Vec Value → List Value
values_view values = values.items

abbrev pub pause_view : pause_type.Pause → Reached
pause_view (pauses.Finished bytes) = finished bytes.items
pause_view (pauses.Query request) = wants request.items

abbrev pub turn_view : Option pause_type.Pause → Option Reached
turn_view pause = option_map pause_view pause

-- how a part ends; want of memory says nothing
abbrev pub ended_of : {X A : Type 0} → (X → A) → Result X Stop → Option (Ended A)
ended_of view (Ok x) = Some (gave (view x))
ended_of view (Err (stops.Fault fault)) = Some (faulted (fault_view fault))
ended_of view (Err stops.OutOfGas) = Some ran_out
ended_of view (Err stops.NoMemory) = None

-- ---- what parts do

-- from each place at which the machine and the gas are
pub record Moves {X A : Type 0} (old new : Machine) (old_left new_left : ℕ) (work : Work A) (view : X → A) (result : Result X Stop) : Type 0 where
  pub moves : (p : Place) → IsAt old old_left p → IfSome (ended_of view result) (λ ended. Comes new new_left p (work p) ended)

-- the same of parts that may change what the contract keeps
pub record Does {B X A : Type 0} (S : B → Bytes → Type 0) (old_layers new_layers : Layers B) (old_store new_store : Scoped) (old new : Machine) (old_left new_left : ℕ) (work : Work A) (view : X → A) (result : Result X Stop) : Type 0 where
  pub does : (maps : Maps) (p : Place) → IsAt old old_left p → Holds S old_layers maps old_store p
      → IfSome (ended_of view result) (λ ended. Reaches S new_layers maps (addr_of old_store) new_store new new_left (work p) ended)

-- what is left of some work of the machine, from a place at which it is now, comes to this
pub record IsAhead {A : Type 0} (machine : Machine) (left : ℕ) (p : Place) (ran : Ran A) (rest : Work A) : Type 0 where
  pub place : Place
  pub is : ran ≡ rest place
  pub at : IsAt machine left place
  pub storage : place.storage ≡ p.storage
  pub scans : place.scans ≡ p.scans

-- from each place at which the machine was, some work comes to what the rest comes to from where it is now
pub record MovesOn {A : Type 0} (old new : Machine) (old_left new_left : ℕ) (work rest : Work A) : Type 0 where
  pub moves_on : (p : Place) → IsAt old old_left p → IsAhead new new_left p (work p) rest

-- the same of work that may change what the contract keeps
pub record Remains {B A : Type 0} (S : B → Bytes → Type 0) (layers : Layers B) (maps : Maps) (addr : List ℕ) (store : Scoped) (machine : Machine) (left : ℕ) (ran : Ran A) (rest : Work A) : Type 0 where
  pub place : Place
  pub is : ran ≡ rest place
  pub at : IsAt machine left place
  pub map : Bytes
  pub holds : Holds S layers (changed maps map) store place
  pub others : HasOthers addr maps.current map
  pub same : addr_of store ≡ addr

-- from each place at which all was, some work comes to what the rest comes to from where all is now
pub record Leads {B A : Type 0} (S : B → Bytes → Type 0) (old_layers new_layers : Layers B) (old_store new_store : Scoped) (old new : Machine) (old_left new_left : ℕ) (work rest : Work A) : Type 0 where
  pub leads : (maps : Maps) (p : Place) → IsAt old old_left p → Holds S old_layers maps old_store p
      → Remains S new_layers maps (addr_of old_store) new_store new new_left (work p) rest

-- the machine can be run again, or waits
abbrev pub IsPaused : Option pause_type.Pause → Machine → Type 0
IsPaused None machine = (phase_of machine ≡ Ready) × (¬ HasUnbegunCall machine)
IsPaused (Some (pauses.Finished bytes)) machine = ⊤
IsPaused (Some (pauses.Query request)) machine = phase_of machine ≡ Asked

-- of a turn after which the call goes on, or waits
abbrev pub IfNotOver : Option pause_type.Pause → Type 0 → Type 0
IfNotOver None P = P
IfNotOver (Some (pauses.Finished bytes)) P = ⊤
IfNotOver (Some (pauses.Query request)) P = P

-- what a call does next
abbrev pub next_work : Machine → Stage → Setting → Work Reached
next_work machine (stages.New entry args pinned) s = opens s (call_of (plain_of machine) entry (map bytes_view args.items) pinned)
next_work machine (stages.Answered bytes) s = hands s bytes.items
next_work machine stages.Waits s = misplaced
next_work machine stages.Over s = misplaced
