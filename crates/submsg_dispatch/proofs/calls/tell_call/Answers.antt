use Rattle.std.proofs.Common.{List, ℕ, map}
use Rattle.std.specs.Option.{option_copied}
use Rattle.chain_addr.specs.Text.{text_of}
use Rattle.chain_msgs.specs.Messages.{Response, response_view}
use Rattle.chain_msgs.specs.Plain.{event_view}
use Rattle.submsg_dispatch.specs.Calling.{Called, answered}
use Rattle.submsg_dispatch.proofs.Chaining.{then_done_on}
use Rattle.submsg_dispatch.proofs.calls.tell_call.Goals as goal

pub returns-clause-leads : goal.returns-clause-leads
returns-clause-leads g c =
    let callee = c.args.callee in
    let p = answered c.args.costs.now c.args.index callee.addr.items callee.code_id c.args.entry (option_copied c.args.info) c.args.msg.now in
    let f : Response → Called = λ response. record { addr = callee.addr.items; contract = text_of c.args.prefix.now callee.addr.items; entry = c.args.entry; own = map event_view c.args.own.items; response = response } in
    then_done_on c.in_ok-response.response _ p f (λ i. record { addr = callee.addr.items; contract = c.requires.callee.text i; entry = c.args.entry; own = map event_view c.args.own.items; response = response_view c.in_ok-response.response }) c.in_ok-response.ensures.leads
