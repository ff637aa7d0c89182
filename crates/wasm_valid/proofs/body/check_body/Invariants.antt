use Rattle.std.proofs.Common.{◌≡◌, ◌-◌, ◌≤◌, length, drop}
use Rattle.wasm_types.specs.Nesting.{parts, Nests}
use Rattle.wasm_types.specs.Typing.{body_fault}
use Rattle.wasm_valid.specs.Contexts.{plain_context}
use Rattle.wasm_valid.specs.Frames.{frames, may_elses, goes_on}
use Rattle.wasm_valid.proofs.body.check_body.Given as goal

abbrev pub invariant-loop-at : goal.invariant-loop-at
invariant-loop-at l = record {
  within : l.at ≤ length l.fn.body;
  nests : Nests (may_elses (frames l.blocks)) (drop l.at l.fn.body);
  fault : body_fault (plain_context l.fn.c) l.fn.body ≡ goes_on (plain_context l.fn.c) (frames l.blocks) (parts l.at (drop l.at l.fn.body));
}

abbrev pub decreases-loop-at : goal.decreases-loop-at
decreases-loop-at l = length l.fn.body - l.at
