use Rattle.std.proofs.Common.{Err, ap}
use Rattle.coin_amounts.specs.Coins.{coins_view}
use Rattle.chain_msgs.specs.Plain.{answer_view}
use Rattle.gas_meter.specs.Gas.{Gas}
use Rattle.query_router.specs.Parts.{Tells}
use Rattle.query_router.specs.Queries.{all_answered}
use Rattle.query_router.specs.declared.stop.QueryStop.{QueryStop}
use Rattle.query_router.proofs.Payments.{none_left, of_stop}
use Rattle.query_router.proofs.Telling.{coins_told, coins_unpaid}
use Rattle.query_router.proofs.bank.paid_coins.Goals as goal

pub returns-in_ok-coins_answer-in-Ok-clause-answer : goal.returns-in_ok-coins_answer-in-Ok-clause-answer
returns-in_ok-coins_answer-in-Ok-clause-answer c =
    coins_told (coins_view c.args.coins.now) (answer_view c.in_ok-coins_answer-in-Ok.field-0) c.args.meter.now.left c.charge.new.meter.left
    (rw c.cost_of.ensures at c.in-Ok.ensures.ok.0) (ap (λ (gas : Gas). gas.left) (rw c.cost_of.ensures at c.in-Ok.ensures.ok.1)) c.in_ok-coins_answer-in-Ok.ensures

pub returns-in-Err-clause-answer : goal.returns-in-Err-clause-answer
returns-in-Err-clause-answer c =
    let coins = coins_view c.args.coins.now in
    let left = c.args.meter.now.left in
    let after = c.charge.new.meter.left in
    of_stop (λ (stop : QueryStop). Tells (Err stop) after (all_answered coins left)) c.in-Err.stop c.in-Err.ensures.err.0
    (coins_unpaid coins left after (rw c.cost_of.ensures at c.in-Err.ensures.err.1) (none_left c.args.meter.now c.charge.new.meter c.in-Err.ensures.err.2))
