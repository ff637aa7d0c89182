use Rattle.std.proofs.Common.{◌≡◌, map}
use Rattle.wasm_types.specs.Validity.{global_in}
use Rattle.wasm_valid.specs.Contexts.{plain_global}
use Rattle.wasm_valid.proofs.Importing.{so_far}
use Rattle.wasm_valid.proofs.spaces.imported_globals.Given as goal

abbrev pub invariant-loop-import : goal.invariant-loop-import
invariant-loop-import l = map plain_global l.globals.items ≡ so_far global_in l.fn.imports l.import-index
