-- Not for readers of contracts: it serves the proofs of this crate alone.
-- What parts of the host's work do, by what they give or why they give nothing.
use Rattle.std.specs.Prelude.{ℕ, ◌≡◌, List, Option, Some, None, IfSome, Result, Ok, Err}
use Rattle.std.specs.Global.{Vec}
use Rattle.kv_layers.specs.declared.layers.Layers.{Layers}
use Rattle.kv_layers.specs.Bytes.{Bytes}
use Rattle.kv_layers.specs.Maps.{Maps}
use Rattle.kv_layers.specs.Plain.{bytes_view}
use Rattle.std.specs.Option.{option_map}
use Rattle.gas_store.specs.declared.scoped.Scoped.{Scoped}
use Rattle.gas_store.specs.Views.{addr_of, scans_of}
use Rattle.wasm_machine.specs.declared.machine.Machine.{Machine}
use Rattle.wasm_machine.specs.declared.turn.Phase.TheVariants.{Ready, Asked}
use Rattle.wasm_machine.specs.Machine.{phase_of, HasUnbegunCall}
use Rattle.host_imports.specs.declared.settled.Settled as settled_type
use Rattle.host_imports.specs.declared.settled.Settled.TheVariants as settleds
use Rattle.host_imports.specs.declared.stop.Stop.{Stop}
use Rattle.host_imports.specs.declared.stop.Stop.TheVariants as stops
use Rattle.host_imports.specs.Faults.{fault_view}
use Rattle.host_imports.specs.Work.{Place, Ended, gave, faulted, ran_out, Ran, Work}
use Rattle.host_imports.specs.Imports.{Settled, answered, wants_query}
use Rattle.host_imports.specs.Reaching.{IsAt, IsLeft, Holds, Comes, Reaches}

-- ---- plain forms

abbrev pub same_view : {A : Type 0} → A → A
same_view x = x

abbrev pub unit_view : Unit {0} → Unit {0}
unit_view done = tt

abbrev pub bound_view : Option (Vec ℕ) → Option (List ℕ)
bound_view bound = option_map bytes_view bound

-- how a part ends; want of memory says nothing
abbrev pub ended_of : {X A : Type 0} → (X → A) → Result X Stop → Option (Ended A)
ended_of view (Ok x) = Some (gave (view x))
ended_of view (Err (stops.Fault fault)) = Some (faulted (fault_view fault))
ended_of view (Err stops.OutOfGas) = Some ran_out
ended_of view (Err stops.NoMemory) = None

-- ---- what parts do

-- from each place at which the machine and the gas are
pub record Moves {X A : Type 0} (old new : Machine) (old_left new_left : ℕ) (work : Work A) (view : X → A) (result : Result X Stop) : Type 0 where
  pub moves : (p : Place) → IsAt old old_left p → IfSome (ended_of view result) (λ ended. Comes new new_left p (work p) ended)

-- the same of parts that may change what the contract keeps
pub record Does {B X A : Type 0} (S : B → Bytes → Type 0) (old_layers new_layers : Layers B) (old_store new_store : Scoped) (old new : Machine) (old_left new_left : ℕ) (work : Work A) (view : X → A) (result : Result X Stop) : Type 0 where
  pub does : (maps : Maps) (p : Place) → IsAt old old_left p → Holds S old_layers maps old_store p
      → IfSome (ended_of view result) (λ ended. Reaches S new_layers maps (addr_of old_store) new_store new new_left (work p) ended)

-- what work that may change the contract's scans comes to
pub record Scanned {A : Type 0} (store : Scoped) (machine : Machine) (left : ℕ) (p : Place) (ran : Ran A) (ended : Ended A) : Type 0 where
  pub ended_so : ran.ended ≡ ended
  pub machine_left : IsLeft machine left ended ran.place
  pub storage : ran.place.storage ≡ p.storage
  pub scans : ran.place.scans ≡ scans_of store

-- the same of parts that may change the contract's scans
pub record Scans {X A : Type 0} (old_store new_store : Scoped) (old new : Machine) (old_left new_left : ℕ) (work : Work A) (view : X → A) (result : Result X Stop) : Type 0 where
  pub scans : (p : Place) → IsAt old old_left p → p.scans ≡ scans_of old_store
      → IfSome (ended_of view result) (λ ended. Scanned new_store new new_left p (work p) ended)

-- ---- what is settled

abbrev pub settled_view : settled_type.Settled → Settled
settled_view settleds.Answered = answered
settled_view (settleds.WantsQuery request) = wants_query request.items

-- after an answer the machine can be run, and after a query it waits for the answer
abbrev pub IsSettled : settled_type.Settled → Machine → Type 0
IsSettled settleds.Answered machine = (phase_of machine ≡ Ready) × (¬ HasUnbegunCall machine)
IsSettled (settleds.WantsQuery request) machine = phase_of machine ≡ Asked
