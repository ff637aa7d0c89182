use Rattle.std.proofs.Common.{sym, ap, ◌∙◌, subst}
use Rattle.chain_msgs.specs.Plain.{answer_view}
use Rattle.coin_amounts.specs.Coins.{coins_view}
use Rattle.kv_layers.specs.Plain.{value_view}
use Rattle.query_router.specs.Parts.{Tells}
use Rattle.query_router.proofs.Telling.{all_balances_told, no_balances_told}
use Rattle.query_router.proofs.bank.all_balances_answer.Goals as goal

pub returns-in_ok-coins-in-Some-clause-answer : goal.returns-in_ok-coins-in-Some-clause-answer
returns-in_ok-coins-in-Some-clause-answer g c = λ m s stands spelled lawful of_contract costs.
    let coins = rw c.deref.ensures.value at (c.in_ok-coins-in-Some.ensures m s stands spelled lawful.amounts) in
    subst (Tells c.paid_coins.result c.paid_coins.new.meter.left)
    (sym (all_balances_told of_contract costs s c.args.request.now c.args.address.now c.in-Some.addr.items (coins_view c.in_ok-coins-in-Some.coins) c.args.meter.now.left (c.in_ok-addr.ensures.found m s stands spelled ∙ ap value_view c.in-Some.is) coins))
    c.paid_coins.ensures.answer

pub returns-in_ok-invalid-in-None-clause-answer : goal.returns-in_ok-invalid-in-None-clause-answer
returns-in_ok-invalid-in-None-clause-answer g c = λ m s stands spelled lawful of_contract costs.
    no_balances_told of_contract costs s c.args.request.now c.args.address.now (answer_view c.in_ok-invalid-in-None.field-0) c.args.meter.now.left
    (c.in_ok-addr.ensures.found m s stands spelled ∙ ap value_view c.in-None.is) c.in_ok-invalid-in-None.ensures
