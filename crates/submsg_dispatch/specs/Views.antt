-- The plain form of what a message gives.
use Rattle.std.specs.Prelude.{map}
use Rattle.chain_msgs.specs.Plain.{event_view, out_view}
use Rattle.submsg_dispatch.specs.declared.outcome.Outcome as outcome_type
use Rattle.submsg_dispatch.specs.Messages.{Outcome}

abbrev pub outcome_view : outcome_type.Outcome → Outcome
outcome_view o = record { events = map event_view o.events.items; out = out_view o.out; reply_out = out_view o.reply_out }
