use Rattle.submsg_dispatch.specs.Messages.{pin_codes}
use Rattle.submsg_dispatch.proofs.Leading.{passes, without_gas, after_charge}
use Rattle.submsg_dispatch.proofs.turns.pin_paid.Goals as goal

pub returns-in_err-charge_message-clause-leads : goal.returns-in_err-charge_message-clause-leads
returns-in_err-charge_message-clause-leads g c = λ prefix tally.
    let part = pin_codes c.args.sender.now c.args.ids.now in
    let e = c.in_err-charge_message.ensures.err in
    passes c.from_residual.result c.in_err-charge_message.field-0.0 c.from_residual.ensures.1
    (without_gas tally _ c.args.costs.now.message c.args.meter.now.left _ (λ _. part) e.0 e.1 e.2)

pub returns-clause-leads : goal.returns-clause-leads
returns-clause-leads g c = λ prefix tally.
    let part = pin_codes c.args.sender.now c.args.ids.now in
    let e = c.in_ok-charge_message.ensures.ok in
    after_charge c.args.costs.now.message c.args.meter.now.left _ (λ _. part) e.0 e.1 (c.pin_codes.ensures.leads prefix tally _)
