use Rattle.std.proofs.Common.{◌≡◌, length, sym, ap, ◌∙◌, map}
use Rattle.serde_json.specs.View.{view}
use Rattle.submsg_dispatch.specs.Transactions.{failed_result}
use Rattle.submsg_dispatch.proofs.Closing.{of_none, no_values, zero_of}
use Rattle.submsg_dispatch.proofs.transaction.run_from.Goals as goal

pub returns-then-is_empty-clause-ran : goal.returns-then-is_empty-clause-ran
returns-then-is_empty-clause-ran g c =
    let none : length c.args.tx.now.msgs.items ≡ 0 = sym c.args.tx.now.msgs.ok.0 ∙ zero_of _ _ c.is_empty.ensures c.if-is_empty.true in
    of_none c.args.costs.now c.args.sender.now c.args.tx.now.gas c.args.index (map view c.args.tx.now.msgs.items) (no_values view c.args.tx.now.msgs.items none) (c.failed_result.ensures ∙ ap (λ f. failed_result f 0) c.in_ok-failure.ensures)
