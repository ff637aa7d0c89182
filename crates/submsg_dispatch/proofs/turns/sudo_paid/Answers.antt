use Rattle.submsg_dispatch.specs.Submessages.{commanded}
use Rattle.submsg_dispatch.proofs.Leading.{passes, without_gas, after_charge}
use Rattle.submsg_dispatch.proofs.Nesting.{closed_one}
use Rattle.submsg_dispatch.proofs.Closing.{lawful_pushed}
use Rattle.submsg_dispatch.proofs.turns.sudo_paid.Goals as goal

pub returns-in_err-charge_message-clause-leads : goal.returns-in_err-charge_message-clause-leads
returns-in_err-charge_message-clause-leads g c =
    let part = commanded c.args.costs.now c.args.sender.now c.args.index c.args.contract.now c.args.msg.now in
    let e = c.in_err-charge_message.ensures.err in
    passes c.from_residual.result c.in_err-charge_message.field-0.0 c.from_residual.ensures.1
    (without_gas _ _ c.args.costs.now.message c.args.meter.now.left _ (λ _. part) e.0 e.1 e.2)

pub obey-done-requires-clause-lawful : goal.obey-done-requires-clause-lawful
obey-done-requires-clause-lawful g c = lawful_pushed c.in_ok-push_layer.ensures.ok c.requires.lawful

pub returns-clause-leads : goal.returns-clause-leads
returns-clause-leads g c =
    let part = commanded c.args.costs.now c.args.sender.now c.args.index c.args.contract.now c.args.msg.now in
    let e = c.in_ok-charge_message.ensures.ok in
    after_charge c.args.costs.now.message c.args.meter.now.left _ (λ _. part) e.0 e.1
    (closed_one c.obey-done.result c.close_message.result c.in_ok-push_layer.ensures.ok c.obey-done.ensures.leads c.close_message.ensures.closed)
