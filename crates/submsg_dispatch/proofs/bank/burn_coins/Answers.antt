use Rattle.std.proofs.Common.{List, map, length}
use Rattle.std.specs.Result.{result_ok}
use Rattle.coin_amounts.specs.Plain.{Coin, raw_coin_view}
use Rattle.coin_amounts.specs.Coins.{coins_view, coins_of}
use Rattle.gas_meter.specs.Costs.{coins_cost}
use Rattle.submsg_dispatch.specs.Parts.{charge, ◌>>=◌}
use Rattle.submsg_dispatch.specs.Failures.{coins_bad}
use Rattle.submsg_dispatch.specs.Messages.{some_coins, burn_coins}
use Rattle.submsg_dispatch.specs.Under.{burns_told}
use Rattle.submsg_dispatch.proofs.Leading.{passes, after_found, not_found, without_gas, after_charge}
use Rattle.submsg_dispatch.proofs.bank.burn_coins.Goals as goal

pub returns-in_err-coins-clause-leads : goal.returns-in_err-coins-clause-leads
unfolding burn_coins
returns-in_err-coins-clause-leads g c = λ tally.
    let costs = c.args.costs.now in
    let sender = c.args.sender.now in
    let wanted = some_coins (result_ok (coins_of (map raw_coin_view c.args.raws.now))) in
    passes c.from_residual.result c.in_err-coins.field-0.0 c.from_residual.ensures.1
    (not_found tally _ coins_bad wanted (λ (coins : List Coin). charge (coins_cost costs (length coins)) >>= λ _. burns_told sender coins) c.in_err-coins.ensures)

pub returns-in_err-charge_coins-clause-leads : goal.returns-in_err-charge_coins-clause-leads
unfolding burn_coins
returns-in_err-charge_coins-clause-leads g c = λ tally.
    let costs = c.args.costs.now in
    let sender = c.args.sender.now in
    let wanted = some_coins (result_ok (coins_of (map raw_coin_view c.args.raws.now))) in
    let coins = coins_view c.in_ok-coins.coins in
    let e = c.in_err-charge_coins.ensures.err in
    passes c.from_residual-in_err-charge_coins.result c.in_err-charge_coins.field-0.0 c.from_residual-in_err-charge_coins.ensures.1
    (after_found coins_bad wanted coins (λ (coins : List Coin). charge (coins_cost costs (length coins)) >>= λ _. burns_told sender coins) c.in_ok-coins.ensures
    (without_gas tally _ (coins_cost costs (length coins)) c.args.meter.now.left _ (λ _. burns_told sender coins) e.0 e.1 e.2))

pub returns-clause-leads : goal.returns-clause-leads
unfolding burn_coins
returns-clause-leads g c = λ tally.
    let costs = c.args.costs.now in
    let sender = c.args.sender.now in
    let wanted = some_coins (result_ok (coins_of (map raw_coin_view c.args.raws.now))) in
    let coins = coins_view c.in_ok-coins.coins in
    let e = c.in_ok-charge_coins.ensures.ok in
    after_found coins_bad wanted coins (λ (coins : List Coin). charge (coins_cost costs (length coins)) >>= λ _. burns_told sender coins) c.in_ok-coins.ensures
    (after_charge (coins_cost costs (length coins)) c.args.meter.now.left _ (λ _. burns_told sender coins) e.0 e.1 (c.burn_paid.ensures.leads tally _))
