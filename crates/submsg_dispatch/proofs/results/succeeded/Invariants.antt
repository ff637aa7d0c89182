-- What the outcomes so far gave, and what those left give, is what all give.
use Rattle.std.proofs.Common.{◌≡◌, ◌++◌, map}
use Rattle.std.specs.Vec.Iter.{into_iter_items}
use Rattle.chain_msgs.specs.Plain.{event_view, out_view}
use Rattle.submsg_dispatch.proofs.Collecting.{outs_of, events_of}
use Rattle.submsg_dispatch.proofs.results.succeeded.Given as goal

abbrev pub invariant-loop-outcome : goal.invariant-loop-outcome
invariant-loop-outcome l = record {
  outs : map out_view l.outs.items ++ outs_of (into_iter_items l.outcome-iterator) ≡ outs_of l.fn.outcomes.items;
  events : map event_view l.events.items ++ events_of (into_iter_items l.outcome-iterator) ≡ events_of l.fn.outcomes.items;
}
