use Rattle.std.proofs.Common.{◌≡◌, ◌-◌, ◌≤◌, ◌++◌, List, length}
use Rattle.wasm_types.specs.declared.limits.Limits.{Limits}
use Rattle.wasm_types.specs.Validity.{only_one, first_in}
use Rattle.wasm_valid.proofs.Passing.{from}
use Rattle.wasm_valid.proofs.limits.check_limits.Given as goal

abbrev pub invariant-loop-at : goal.invariant-loop-at
invariant-loop-at l = record {
  within : l.at ≤ length l.fn.list;
  fault : (others : List Limits) → length others ≡ l.fn.imported →
      first_in (λ earlier size. only_one l.fn.kind l.fn.most (others ++ earlier) size) l.fn.list ≡ from (λ earlier size. only_one l.fn.kind l.fn.most (others ++ earlier) size) l.fn.list l.at;
}

abbrev pub decreases-loop-at : goal.decreases-loop-at
decreases-loop-at l = length l.fn.list - l.at
