use Rattle.std.proofs.Common.{length}
use Rattle.coin_amounts.specs.Coins.{coins_view}
use Rattle.gas_meter.specs.Costs.{coins_cost}
use Rattle.submsg_dispatch.specs.Under.{moves_told}
use Rattle.submsg_dispatch.proofs.Leading.{passes, without_gas, after_charge}
use Rattle.submsg_dispatch.proofs.bank.transfers.Goals as goal

pub returns-in_err-charge_coins-clause-leads : goal.returns-in_err-charge_coins-clause-leads
returns-in_err-charge_coins-clause-leads g c = λ tally.
    let coins = coins_view c.args.coins.now in
    let e = c.in_err-charge_coins.ensures.err in
    passes c.from_residual.result c.in_err-charge_coins.field-0.0 c.from_residual.ensures.1
    (without_gas tally _ (coins_cost c.args.costs.now (length coins)) c.args.meter.now.left _ (λ _. moves_told c.args.from.now c.args.to.now coins) e.0 e.1 e.2)

pub returns-clause-leads : goal.returns-clause-leads
returns-clause-leads g c = λ tally.
    let coins = coins_view c.args.coins.now in
    let e = c.in_ok-charge_coins.ensures.ok in
    after_charge (coins_cost c.args.costs.now (length coins)) c.args.meter.now.left _ (λ _. moves_told c.args.from.now c.args.to.now coins) e.0 e.1 (c.move_coins.ensures.leads tally _)
