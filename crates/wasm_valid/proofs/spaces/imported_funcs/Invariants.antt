use Rattle.std.proofs.Common.{◌≡◌}
use Rattle.wasm_types.specs.Validity.{func_in}
use Rattle.wasm_valid.proofs.Importing.{so_far}
use Rattle.wasm_valid.proofs.spaces.imported_funcs.Given as goal

abbrev pub invariant-loop-import : goal.invariant-loop-import
invariant-loop-import l = l.funcs.items ≡ so_far func_in l.fn.imports l.import-index
