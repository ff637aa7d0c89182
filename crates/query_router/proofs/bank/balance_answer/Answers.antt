use Rattle.std.proofs.Common.{ap, ◌∙◌}
use Rattle.std.proofs.lemmas.Result.{IfOk-weaker}
use Rattle.chain_msgs.specs.Plain.{answer_view}
use Rattle.kv_layers.specs.Plain.{value_view}
use Rattle.query_router.proofs.Telling.{balance_told, no_balance_told}
use Rattle.query_router.proofs.bank.balance_answer.Goals as goal

pub returns-in_ok-amount-in-Some : goal.returns-in_ok-amount-in-Some
returns-in_ok-amount-in-Some g c = IfOk-weaker c.amount_answer.result _ _ (λ answer is m s stands spelled lawful of_contract costs left.
    balance_told of_contract costs s c.args.request.now c.args.address.now c.args.denom.now c.in-Some.addr.items c.in_ok-amount-in-Some.amount (answer_view answer) left
    (c.in_ok-addr.ensures.found m s stands spelled ∙ ap value_view c.in-Some.is)
    (rw c.deref.ensures.value at (c.in_ok-amount-in-Some.ensures m s stands spelled)) is) c.amount_answer.ensures

pub returns-in-None : goal.returns-in-None
returns-in-None g c = IfOk-weaker c.invalid.result _ _ (λ answer is m s stands spelled lawful of_contract costs left.
    no_balance_told of_contract costs s c.args.request.now c.args.address.now c.args.denom.now (answer_view answer) left
    (c.in_ok-addr.ensures.found m s stands spelled ∙ ap value_view c.in-None.is) is) c.invalid.ensures
