use Rattle.std.proofs.Common.{◌≡◌, ◌-◌, ◌≤◌, min, length, map}
use Rattle.std.specs.Prelude.{zip}
use Rattle.wasm_types.specs.Plain.{plain_code, plain_module}
use Rattle.wasm_types.specs.Validity.{bodies_fault}
use Rattle.wasm_valid.proofs.BodyList.{from}
use Rattle.wasm_valid.proofs.bodies.check_bodies.Given as goal

abbrev pub invariant-loop-at : goal.invariant-loop-at
invariant-loop-at l = record {
  within : l.at ≤ l.count;
  count : l.count ≡ min (length l.fn.m.funcs.items) (length l.fn.m.codes.items);
  fault : bodies_fault (plain_module l.fn.m) 0 (zip l.fn.m.funcs.items (map plain_code l.fn.m.codes.items)) ≡ from (plain_module l.fn.m) l.fn.m.funcs.items l.fn.m.codes.items l.at;
}

abbrev pub decreases-loop-at : goal.decreases-loop-at
decreases-loop-at l = l.count - l.at
