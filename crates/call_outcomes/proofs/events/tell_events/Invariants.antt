-- The events so far, and those that are left as they are kept, are all that is told.
use Rattle.std.proofs.Common.{◌≡◌, ◌++◌, map}
use Rattle.std.specs.Vec.Iter.{into_iter_items}
use Rattle.chain_msgs.specs.Plain.{attribute_view, event_view}
use Rattle.call_outcomes.specs.Events.{told_events}
use Rattle.call_outcomes.proofs.Telling.{with_rest}
use Rattle.call_outcomes.proofs.events.tell_events.Given as goal

abbrev pub invariant-loop-event : goal.invariant-loop-event
invariant-loop-event l = with_rest l.contract l.told.items (into_iter_items l.event-iterator) ≡ map event_view l.fn.told.items ++ told_events l.contract (map attribute_view l.fn.attributes.items) (map event_view l.fn.events.items)
