use Rattle.std.proofs.Common.{List, ℕ, subst}
use Rattle.std.specs.Option.{option_copied}
use Rattle.chain_msgs.specs.Messages.{response_view}
use Rattle.call_outcomes.specs.Results.{response_of}
use Rattle.submsg_dispatch.specs.Parts.{or_fails_with}
use Rattle.submsg_dispatch.specs.Stages.{FindsWith, entered}
use Rattle.submsg_dispatch.proofs.Chaining.{then_on, gives_on, found_with_gives}
use Rattle.submsg_dispatch.proofs.calls.answered.Goals as goal

pub returns-clause-leads : goal.returns-clause-leads
returns-clause-leads g c =
    let callee = c.args.callee.now in
    let p = entered c.args.costs.now c.args.index callee.addr.items callee.code_id c.args.entry (option_copied c.args.info) c.args.msg.now in
    let k = λ (bytes : List ℕ). or_fails_with (response_of c.args.entry bytes) in
    let bytes : List ℕ = c.in_ok-bytes.bytes.items in
    let says = subst (λ (b : List ℕ). FindsWith response_view c.read_answer.result (response_of c.args.entry b)) c.deref.ensures.value c.read_answer.ensures in
    then_on c.fetches_join.ensures c.in_ok-bytes.bytes p k c.in_ok-bytes.ensures.leads (gives_on (k bytes) response_view c.read_answer.result (found_with_gives c.args.prefix.now response_view c.read_answer.result (response_of c.args.entry bytes) says))
