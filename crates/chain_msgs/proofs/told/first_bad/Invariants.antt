-- The first bad event is the first of those that are left.
use Rattle.std.proofs.Common.{◌≡◌, ◌+◌, map, drop}
use Rattle.chain_msgs.specs.Plain.{event_view}
use Rattle.chain_msgs.specs.Answers.{first_bad}
use Rattle.chain_msgs.proofs.told.first_bad.Given as goal

abbrev pub invariant-loop-place : goal.invariant-loop-place
invariant-loop-place l = first_bad (l.place + 1) (map event_view (drop l.place l.events)) ≡ first_bad 1 (map event_view l.events)
