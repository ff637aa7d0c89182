use Rattle.chain_records.proofs.KeyLaws.{tells_keys}
use Rattle.chain_records.proofs.laws.bytes_tell_keys.Goals as goal

pub returns : goal.returns
returns c = tells_keys
