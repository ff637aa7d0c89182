use Rattle.std.proofs.Common.{◌≡◌, ◌≤◌, ◌++◌, length, take, drop, reverse}
use Rattle.wasm_types.specs.Body.{closings, placed}
use Rattle.wasm_reader.proofs.nesting.place_blocks.Given as goal

abbrev pub invariant-loop-at : goal.invariant-loop-at
invariant-loop-at l = record {
  below : l.at ≤ length l.fn.instrs;
  done : l.instrs ≡ take l.at l.fn.instrs ++ placed l.at (drop l.at l.fn.instrs);
  around : reverse l.closings.items ≡ closings l.at (drop l.at l.fn.instrs);
}

abbrev pub decreases-loop-at : goal.decreases-loop-at
decreases-loop-at l = l.at
