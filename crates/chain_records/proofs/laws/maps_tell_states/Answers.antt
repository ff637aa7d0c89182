use Rattle.chain_records.proofs.StateLaws.{spells_once, is_spelled_once}
use Rattle.chain_records.proofs.laws.maps_tell_states.Goals as goal

pub returns : goal.returns
returns c = record { once = spells_once; only = is_spelled_once }
