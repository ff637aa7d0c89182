use Rattle.std.proofs.Common.{◌≡◌, ◌≤◌, length, reverse, take}
use Rattle.wasm_types.specs.Typing.{all_taken}
use Rattle.wasm_valid.specs.Stacks.{stack}
use Rattle.wasm_valid.proofs.operands.Operands.take_all.Given as goal

abbrev pub invariant-loop-left : goal.invariant-loop-left
invariant-loop-left l = record {
  within : l.left ≤ length l.fn.wanted;
  left : all_taken (reverse l.fn.wanted) (stack l.fn.self) ≡ all_taken (reverse (take l.left l.fn.wanted)) (stack l.self);
}

abbrev pub decreases-loop-left : goal.decreases-loop-left
decreases-loop-left l = l.left
