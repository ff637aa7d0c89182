use Rattle.chain_records.proofs.ChangeLaws.{spells_code}
use Rattle.chain_records.proofs.laws.codes_are_stored_whole.Goals as goal

pub returns : goal.returns
returns c = spells_code
