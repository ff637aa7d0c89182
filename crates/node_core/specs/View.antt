-- A core and its events as plain values.
use Rattle.std.specs.Prelude.{map}
use Rattle.node_core.specs.declared.event.CoreEvent.{CoreEvent}
use Rattle.node_core.specs.declared.event.CoreEvent.TheVariants.{Publish, Enter, Look, Stow, Pins, ShelfAnswer, Tell}
use Rattle.node_core.specs.declared.core_state.Core.{Core}
use Rattle.node_core.specs.Plain.{Event, publish, enter, look, stow, pins, shelf_answer, tell}
use Rattle.node_core.specs.Steps.{State, named}

abbrev pub event_view : CoreEvent → Event
event_view (Publish height) = publish height
event_view (Enter reader height) = enter reader height
event_view (Look actor code) = look actor code
event_view (Stow actor code) = stow actor code
event_view (Pins codes) = pins codes.items
event_view (ShelfAnswer actor code good) = shelf_answer actor code good
event_view (Tell reader) = tell reader

abbrev pub core_view : Core → State
core_view c = record {
  newest = c.newest;
  keep = c.keep;
  cache = record { pinned = map named c.pinned.items; recent = map named c.recent.items; size = c.size };
  seen = c.seen.items;
}
