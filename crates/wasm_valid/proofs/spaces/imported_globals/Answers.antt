use Rattle.std.proofs.Common.{◌++◌, ap, option_to_list, ◌∙◌, List, sym}
use Rattle.wasm_types.specs.Typing.{GlobalType}
use Rattle.wasm_types.specs.Validity.{global_in}
use Rattle.wasm_valid.proofs.Importing.{next}
use Rattle.wasm_valid.proofs.spaces.imported_globals.Goals as goal

pub loop-import-preserved : goal.loop-import-preserved
loop-import-preserved c =
    c.in_ok-keep_global.ensures
    ∙ ap (λ (l : List GlobalType). l ++ option_to_list (global_in c.import-item.result.desc)) c.loop-import.invariant
    ∙ sym (next global_in c.args.imports.now c.loop-import.import-index c.import-item.result c.loop-import-test.true c.import-item.is)
