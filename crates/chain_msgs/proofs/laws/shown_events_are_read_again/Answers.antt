use Rattle.chain_msgs.proofs.Again.{attribute_again, event_again, coin_again}
use Rattle.chain_msgs.proofs.laws.shown_events_are_read_again.Goals as goal

pub returns : goal.returns
returns c = record { attributes = attribute_again; events = event_again; coins = coin_again }
