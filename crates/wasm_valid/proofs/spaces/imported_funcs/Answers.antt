use Rattle.std.proofs.Common.{◌++◌, ap, option_to_list, ◌∙◌, List, ℕ, sym}
use Rattle.wasm_types.specs.Validity.{func_in}
use Rattle.wasm_valid.proofs.Importing.{next}
use Rattle.wasm_valid.proofs.spaces.imported_funcs.Goals as goal

pub loop-import-preserved : goal.loop-import-preserved
loop-import-preserved c =
    c.in_ok-keep_func.ensures
    ∙ ap (λ (l : List ℕ). l ++ option_to_list (func_in c.import-item.result.desc)) c.loop-import.invariant
    ∙ sym (next func_in c.args.imports.now c.loop-import.import-index c.import-item.result c.loop-import-test.true c.import-item.is)
