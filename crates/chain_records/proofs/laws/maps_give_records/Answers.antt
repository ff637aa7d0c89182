use Rattle.chain_records.proofs.StateLaws.{spells_records}
use Rattle.chain_records.proofs.laws.maps_give_records.Goals as goal

pub returns : goal.returns
returns c = spells_records
