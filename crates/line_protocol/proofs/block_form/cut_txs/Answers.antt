use Rattle.std.proofs.Common.{codes}
use Rattle.std.proofs.lemmas.Result.{err_from_is_err_and}
use Rattle.serde_json.specs.View.{view}
use Rattle.line_protocol.specs.Parts.{tx}
use Rattle.line_protocol.proofs.Cuts.{no_list}
use Rattle.line_protocol.proofs.block_form.cut_txs.Goals as goal

pub returns-in_err-items-clause-txs : goal.returns-in_err-items-clause-txs
returns-in_err-items-clause-txs c =
    let p = err_from_is_err_and c.from_residual.result c.from_residual.ensures.1 in
    rw (p.1, p.2) (no_list (codes "txs") tx (view c.args.value) c.in_err-items.field-0.0 c.in_err-items.ensures.list)
