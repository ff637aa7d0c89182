-- Nothing is called yet.
use Rattle.std.proofs.Common.{◌≡◌}
use Rattle.wasm_machine.specs.declared.turn.Phase.TheVariants.{Idle}
use Rattle.wasm_machine.specs.Machine.{phase_of}
use Rattle.call_tests.proofs.contract.called.Given as goal

abbrev pub invariant-loop-arg : goal.invariant-loop-arg
invariant-loop-arg l = phase_of l.machine ≡ Idle
