-- The events so far are those of the ids before this one.
use Rattle.std.proofs.Common.{◌≡◌, map, take}
use Rattle.chain_msgs.specs.Plain.{event_view}
use Rattle.submsg_dispatch.specs.Events.{of_code}
use Rattle.submsg_dispatch.proofs.events.of_codes.Given as goal

abbrev pub invariant-loop-id : goal.invariant-loop-id
invariant-loop-id l = map event_view l.events.items ≡ map (of_code l.kind) (take l.id-index l.ids)
