use Rattle.query_router.proofs.Whole.{text_of_whole, amount_whole}
use Rattle.query_router.proofs.answers.amount_answer.Goals as goal

pub returns : goal.returns
returns c = text_of_whole c.written.result _ _ c.written.ensures c.in_ok-value.ensures (amount_whole (record { denom = c.args.denom.now; amount = c.args.amount }))
