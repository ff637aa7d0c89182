use Rattle.std.proofs.Common.{Some, None, ap, ◌∙◌}
use Rattle.std.proofs.lemmas.Result.{IfOk-weaker}
use Rattle.chain_addr.specs.Address.{address_of}
use Rattle.chain_msgs.specs.Plain.{tx_view, result_view}
use Rattle.submsg_dispatch.specs.Failures.{address_bad}
use Rattle.submsg_dispatch.specs.Transactions.{failed_result, run, tx}
use Rattle.submsg_dispatch.specs.Under.{RunsUnder}
use Rattle.submsg_dispatch.proofs.Closing.{of_sender, refuses}
use Rattle.submsg_dispatch.proofs.transaction.run_under.Goals as goal

pub returns-in-Ok-clause-ran : goal.returns-in-Ok-clause-ran
returns-in-Ok-clause-ran g c =
    let S = g.B.Base.stands_for in
    let t = tx_view c.args.tx.now in
    let costs = c.args.costs.now in
    let before = g.M.Modules.tally c.args.modules.now in
    let after = g.M.Modules.tally c.run_from.new.modules in
    let ran = rw c.deref.ensures.value at c.run_from.ensures.ran in
    IfOk-weaker c.run_from.result (λ answer. RunsUnder c.args.prefix.now S c.args.layers.now c.run_from.new.layers before after (λ s. run costs s c.in-Ok.sender.items t.gas c.args.index t.msgs) (result_view answer)) (λ answer. RunsUnder c.args.prefix.now S c.args.layers.now c.run_from.new.layers before after (λ s. tx costs s t c.args.index) (result_view answer))
    (λ answer runs. of_sender costs t c.args.index (Some c.in-Ok.sender.items) (rw c.as_str.ensures.value at c.in-Ok.ensures.address) runs) ran

pub returns-in_ok-failure-in-Err-clause-ran : goal.returns-in_ok-failure-in-Err-clause-ran
returns-in_ok-failure-in-Err-clause-ran g c =
    let t = tx_view c.args.tx.now in
    let made = c.in_ok-failure-in-Err.ensures (address_of c.args.prefix.now t.sender) (rw c.as_str.ensures.value at c.in-Err.ensures.address) in
    of_sender c.args.costs.now t c.args.index None made.0 (refuses address_bad (c.failed_result.ensures ∙ ap (λ f. failed_result f 0) made.1))
