-- What the public calls answer, as plain values.
use Rattle.std.specs.Prelude.{ℕ, ◌≡◌, ⊤}
use Rattle.wasm_machine.specs.declared.machine.Machine.{Machine}
use Rattle.wasm_machine.specs.declared.turn.Phase.TheVariants.{Ready, Asked}
use Rattle.wasm_machine.specs.Machine.{phase_of, HasUnbegunCall}
use Rattle.host_imports.specs.declared.given.Given.{Given}
use Rattle.host_imports.specs.declared.given.Given.TheVariants as given
use Rattle.host_imports.specs.declared.handled.Handled.{Handled}
use Rattle.host_imports.specs.declared.handled.Handled.TheVariants as handled
use Rattle.host_imports.specs.Faults.{fault_view}
use Rattle.host_imports.specs.Work.{Ended, gave, faulted, ran_out}
use Rattle.host_imports.specs.Imports.{Settled, answered, wants_query}

-- what came of a Region that was given or taken back
abbrev pub given_view : Given → Ended ℕ
given_view (given.At pointer) = gave pointer
given_view (given.Fault fault) = faulted (fault_view fault)
given_view given.OutOfGas = ran_out

-- where a Region was given or taken back
abbrev pub IfGiven : Given → Type 0 → Type 0
IfGiven (given.At pointer) P = P
IfGiven (given.Fault fault) P = ⊤
IfGiven given.OutOfGas P = ⊤

-- what came of an import
abbrev pub handled_view : Handled → Ended Settled
handled_view handled.Answered = gave answered
handled_view (handled.WantsQuery request) = gave (wants_query request.items)
handled_view (handled.Fault fault) = faulted (fault_view fault)
handled_view handled.OutOfGas = ran_out

-- after an answer the machine can be run, and after a query it waits for the answer
abbrev pub GoesOn : Handled → Machine → Type 0
GoesOn handled.Answered machine = (phase_of machine ≡ Ready) × (¬ HasUnbegunCall machine)
GoesOn (handled.WantsQuery request) machine = phase_of machine ≡ Asked
GoesOn (handled.Fault fault) machine = ⊤
GoesOn handled.OutOfGas machine = ⊤
