use Rattle.std.proofs.Common.{List, ℕ}
use Rattle.submsg_dispatch.specs.Parts.{reads}
use Rattle.submsg_dispatch.specs.Calling.{commands}
use Rattle.submsg_dispatch.specs.Submessages.{at_depth, responds}
use Rattle.submsg_dispatch.proofs.Chaining.{prefixed_on, passes_so, then_on, stop_on, lawful_on}
use Rattle.submsg_dispatch.proofs.turns.obey.Goals as goal

pub returns-in_err-called-clause-leads : goal.returns-in_err-called-clause-leads
returns-in_err-called-clause-leads g c =
    let costs = c.args.costs.now in
    let calls = λ (p : List ℕ). commands costs c.args.index p c.args.sender.now c.args.contract.now c.args.msg.now in
    let stop = c.in_err-called.field-0.0 in
    passes_so c.from_residual.result stop c.from_residual.ensures.1 (stop_on stop (reads (λ s. calls s.facts.prefix)) (responds (at_depth costs c.args.index 1)) (prefixed_on calls c.in_err-called.ensures.leads))

pub respond-requires-clause-lawful : goal.respond-requires-clause-lawful
respond-requires-clause-lawful g c = lawful_on c.in_ok-called.called c.requires.lawful c.in_ok-called.ensures.leads

pub returns-clause-leads : goal.returns-clause-leads
returns-clause-leads g c =
    let costs = c.args.costs.now in
    let calls = λ (p : List ℕ). commands costs c.args.index p c.args.sender.now c.args.contract.now c.args.msg.now in
    then_on c.fetches_join.ensures c.in_ok-called.called (reads (λ s. calls s.facts.prefix)) (responds (at_depth costs c.args.index 1)) (prefixed_on calls c.in_ok-called.ensures.leads) c.respond.ensures.leads
