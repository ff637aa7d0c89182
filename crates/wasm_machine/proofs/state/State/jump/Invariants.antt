use Rattle.std.proofs.Common.{◌≡◌, ◌≤◌, ◌-◌, length}
use Rattle.wasm_types.specs.Plain.{PlainModule}
use Rattle.wasm_machine.specs.Exec.{Ahead, jumps}
use Rattle.wasm_machine.specs.Piles.{all}
use Rattle.wasm_machine.specs.Values.{seen}
use Rattle.wasm_machine.specs.Rests.{inside, HasTop}
use Rattle.wasm_machine.proofs.state.State.jump.Given as goal

-- a branch out of the blocks that are left to leave comes to the same
abbrev pub invariant-loop : goal.invariant-loop
invariant-loop l = record {
  same : (m : PlainModule) (a : Ahead) → inside m l.fn.self l.frame (jumps l.label (seen l.fn.self.values) a) ≡ inside m l.self l.frame (jumps (l.label - l.counter) (seen l.fn.self.values) a);
  top : HasTop l.self l.value (seen l.fn.self.values);
  callers : l.self.callers ≡ l.fn.self.callers;
  sinks : length (all l.self.labels) ≤ length (all l.fn.self.labels);
}
