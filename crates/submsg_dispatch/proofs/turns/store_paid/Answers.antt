use Rattle.std.proofs.Common.{map, option_map, string_bytes}
use Rattle.submsg_dispatch.specs.Messages.{store_code}
use Rattle.submsg_dispatch.proofs.Leading.{passes, without_gas, after_charge}
use Rattle.submsg_dispatch.proofs.turns.store_paid.Goals as goal

pub returns-in_err-charge_message-clause-leads : goal.returns-in_err-charge_message-clause-leads
returns-in_err-charge_message-clause-leads g c = λ tally.
    let part = store_code c.args.costs.now c.args.sender.now c.args.code.items (option_map (λ list. map string_bytes list.items) c.args.allow.now) in
    let e = c.in_err-charge_message.ensures.err in
    passes c.from_residual.result c.in_err-charge_message.field-0.0 c.from_residual.ensures.1
    (without_gas tally _ c.args.costs.now.message c.args.meter.now.left _ (λ _. part) e.0 e.1 e.2)

pub returns-clause-leads : goal.returns-clause-leads
returns-clause-leads g c = λ tally.
    let part = store_code c.args.costs.now c.args.sender.now c.args.code.items (option_map (λ list. map string_bytes list.items) c.args.allow.now) in
    let e = c.in_ok-charge_message.ensures.ok in
    after_charge c.args.costs.now.message c.args.meter.now.left _ (λ _. part) e.0 e.1 (c.store_code.ensures.leads tally)
