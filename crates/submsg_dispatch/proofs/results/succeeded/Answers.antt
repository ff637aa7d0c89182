use Rattle.std.proofs.Common.{◌≡◌, [], ◌++◌, map, ap, ◌∙◌, arith}
use Rattle.std.specs.Vec.Iter.{into_iter_items}
use Rattle.chain_msgs.specs.Plain.{event_view, out_view}
use Rattle.submsg_dispatch.proofs.Collecting.{outs_of, events_of, outs_step, events_step, none_left, collected}
use Rattle.submsg_dispatch.proofs.results.succeeded.Goals as goal

pub loop-outcome-init : goal.loop-outcome-init
loop-outcome-init c =
    let all = into_iter_items c.into_iter-outcome-iterator.result in
    let gives = c.into_iter-outcome-iterator.ensures.into_iter_gives in
    record {
      outs = ap (λ xs. map out_view xs ++ outs_of all) c.in_ok-outs.ensures.items ∙ ap outs_of gives.0;
      events = ap (λ xs. map event_view xs ++ events_of all) c.new-events.ensures.items ∙ ap events_of gives.0;
    }

pub loop-outcome-preserved : goal.loop-outcome-preserved
loop-outcome-preserved c = record {
  outs = outs_step c.loop-outcome.outs.items c.push.new.self.items c.in-Some.outcome (into_iter_items c.loop-outcome.outcome-iterator) (into_iter_items c.next.new.self) c.in_ok-push.ensures.items c.in-Some.ensures.steps.0 ∙ c.loop-outcome.invariant.outs;
  events = events_step c.loop-outcome.events.items c.append.new.self.items c.in-Some.outcome (into_iter_items c.loop-outcome.outcome-iterator) (into_iter_items c.next.new.self) c.in_ok-append.ensures.items c.in-Some.ensures.steps.0 ∙ c.loop-outcome.invariant.events;
}

pub returns : goal.returns
returns c =
    let rest = into_iter_items c.loop-outcome.outcome-iterator in
    let none : rest ≡ [] = none_left rest (omega (arith, c.in-None.ensures.steps.0, c.loop-outcome.outcome-iterator.rest.ok.0)) in
    collected c.args.outcomes.items rest c.loop-outcome.outs.items c.loop-outcome.events.items c.args.gas none c.loop-outcome.invariant.outs c.loop-outcome.invariant.events
