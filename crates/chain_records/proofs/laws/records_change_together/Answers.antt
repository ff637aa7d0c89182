use Rattle.chain_records.proofs.ChangeLaws.{spells_changed}
use Rattle.chain_records.proofs.laws.records_change_together.Goals as goal

pub returns : goal.returns
returns c = spells_changed
