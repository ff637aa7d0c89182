use Rattle.std.proofs.Common.{◌≡◌, ◌≤◌, length}
use Rattle.wasm_types.specs.Plain.{PlainModule}
use Rattle.wasm_machine.specs.Exec.{Ahead, returns}
use Rattle.wasm_machine.specs.Piles.{all, own}
use Rattle.wasm_machine.specs.Values.{seen}
use Rattle.wasm_machine.specs.Rests.{inside, HasTop}
use Rattle.wasm_machine.proofs.state.State.return_from.Given as goal

-- the blocks that are left change nothing
abbrev pub invariant-loop-left : goal.invariant-loop-left
invariant-loop-left l = record {
  same : (m : PlainModule) (a : Ahead) → inside m l.fn.self l.frame (returns (seen l.fn.self.values) a) ≡ inside m l.self l.frame (returns (seen l.fn.self.values) a);
  top : HasTop l.self l.value (seen l.fn.self.values);
  callers : l.self.callers ≡ l.fn.self.callers;
  sinks : length (all l.self.labels) ≤ length (all l.fn.self.labels);
}

abbrev pub decreases-loop-left : goal.decreases-loop-left
decreases-loop-left l = length (own l.self.labels)
