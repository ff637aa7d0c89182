use Rattle.chain_records.proofs.ChangeLaws.{spells_written, spells_removed}
use Rattle.chain_records.proofs.laws.one_record_changes.Goals as goal

pub returns : goal.returns
returns c = record { written = spells_written; removed = spells_removed }
