use Rattle.std.proofs.Common.{ap, ◌∙◌}
use Rattle.wasm_types.specs.declared.kind.ValidKind.TheVariants.{ExportTwice}
use Rattle.wasm_types.specs.Plain.{plain_export}
use Rattle.wasm_types.specs.Typing.{needs}
use Rattle.wasm_valid.proofs.Named.{is_kept}
use Rattle.wasm_valid.proofs.exports.check_export.Goals as goal

pub returns-then-branch-clause-kept : goal.returns-then-branch-clause-kept
returns-then-branch-clause-kept c = λ m earlier spaces has.
    is_kept m earlier (plain_export c.args.export.now) c.args.names.now c.as_str.result.now c.in_ok-add_name.field-0 (c.in_ok-check_ext.ensures m spaces) c.as_str.ensures.value has c.in_ok-add_name.ensures.added ∙ ap (needs ExportTwice) c.if-branch.true

pub returns-else-branch-clause-kept : goal.returns-else-branch-clause-kept
returns-else-branch-clause-kept c = λ m earlier spaces has.
    is_kept m earlier (plain_export c.args.export.now) c.args.names.now c.as_str.result.now c.in_ok-add_name.field-0 (c.in_ok-check_ext.ensures m spaces) c.as_str.ensures.value has c.in_ok-add_name.ensures.added ∙ ap (needs ExportTwice) c.if-branch.false
