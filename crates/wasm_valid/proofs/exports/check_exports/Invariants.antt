use Rattle.std.proofs.Common.{◌≡◌, ◌-◌, ◌≤◌, length, map, take}
use Rattle.wasm_types.specs.Plain.{plain_export, plain_module}
use Rattle.wasm_types.specs.Validity.{export_kept, first_in}
use Rattle.wasm_valid.specs.Names.{HasNames}
use Rattle.wasm_valid.proofs.Passing.{from}
use Rattle.wasm_valid.proofs.exports.check_exports.Given as goal

abbrev pub invariant-loop-at : goal.invariant-loop-at
invariant-loop-at l = record {
  within : l.at ≤ length l.fn.m.exports.items;
  names : HasNames l.names (take l.at (map plain_export l.fn.m.exports.items));
  fault : first_in (export_kept (plain_module l.fn.m)) (map plain_export l.fn.m.exports.items) ≡ from (export_kept (plain_module l.fn.m)) (map plain_export l.fn.m.exports.items) l.at;
}

abbrev pub decreases-loop-at : goal.decreases-loop-at
decreases-loop-at l = length l.fn.m.exports.items - l.at
