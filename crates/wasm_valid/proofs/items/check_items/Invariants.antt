use Rattle.std.proofs.Common.{◌≡◌, ◌-◌, ◌≤◌, length, map}
use Rattle.wasm_types.specs.Plain.{plain_module}
use Rattle.wasm_types.specs.Validity.{first_in}
use Rattle.wasm_valid.proofs.Passing.{from}
use Rattle.wasm_valid.proofs.items.check_items.Given as goal

abbrev pub invariant-loop-at : goal.invariant-loop-at
invariant-loop-at g l = record {
  within : l.at ≤ length l.fn.items;
  fault : first_in (λ earlier x. g.T.Item.kept (plain_module l.fn.m) x) (map g.T.Item.shown l.fn.items) ≡ from (λ earlier x. g.T.Item.kept (plain_module l.fn.m) x) (map g.T.Item.shown l.fn.items) l.at;
}

abbrev pub decreases-loop-at : goal.decreases-loop-at
decreases-loop-at g l = length l.fn.items - l.at
