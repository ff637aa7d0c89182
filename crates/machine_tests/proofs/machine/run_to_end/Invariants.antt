use Rattle.std.proofs.Common.{◌≡◌, ℕ, ◌+◌}
use Rattle.wasm_machine.specs.declared.turn.Turn.{Turn}
use Rattle.wasm_machine.specs.declared.turn.Turn.TheVariants as turns
use Rattle.wasm_machine.specs.declared.turn.Phase.TheVariants.{Ready}
use Rattle.wasm_machine.specs.Acts.{standing_of}
use Rattle.wasm_machine.specs.Phases.{after_turn}
use Rattle.wasm_machine.specs.Machine.{phase_of}
use Rattle.machine_tests.proofs.machine.run_to_end.Given as goal

abbrev pub invariant-loop-turn : goal.invariant-loop-turn
invariant-loop-turn l = phase_of l.machine ≡ after_turn (standing_of l.turn) Ready

-- an ask is still to be answered
abbrev pub open_asks : Turn → ℕ
open_asks (turns.Ask i args) = 1
open_asks (turns.Done value) = 0
open_asks (turns.Trap kind) = 0
open_asks turns.OutOfGas = 0

abbrev pub decreases-loop-turn : goal.decreases-loop-turn
decreases-loop-turn l = l.meter.left + open_asks l.turn
