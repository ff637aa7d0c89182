use Rattle.chain_records.proofs.RecordLaws.{tells_records}
use Rattle.chain_records.proofs.laws.bytes_tell_records.Goals as goal

pub returns : goal.returns
returns c = tells_records
