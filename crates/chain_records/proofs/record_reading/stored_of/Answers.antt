use Rattle.std.proofs.Common.{arith, refl}
use Rattle.chain_records.specs.Keys.{plain_key}
use Rattle.chain_records.specs.Records.{plain_stored}
use Rattle.chain_records.proofs.RecordLaws.{stored_is, no_record}
use Rattle.chain_records.proofs.record_reading.stored_of.Goals as goal

pub returns-in-Ok-clause-ok : goal.returns-in-Ok-clause-ok
returns-in-Ok-clause-ok c = stored_is (plain_key c.args.key.now) c.args.bytes.now (plain_stored c.in-Ok.stored) (λ i. omega (arith, c.type_inv.bytes i)) c.in-Ok.ensures

pub returns-in-Err-Unreadable-clause-bad : goal.returns-in-Err-Unreadable-clause-bad
returns-in-Err-Unreadable-clause-bad c = (refl, no_record (plain_key c.args.key.now) c.args.bytes.now (rw c.in-Err-Unreadable.field-0-is at c.in-Err-Unreadable.ensures))
