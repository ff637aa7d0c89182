use Rattle.std.proofs.Common.{arith, refl}
use Rattle.chain_records.proofs.KeyLaws.{read_is, no_key}
use Rattle.chain_records.specs.Keys.{plain_key}
use Rattle.chain_records.proofs.key_reading.key_of.Goals as goal

pub returns-in-Ok-clause-ok : goal.returns-in-Ok-clause-ok
returns-in-Ok-clause-ok c = read_is c.args.bytes.now (plain_key c.in-Ok.key) (λ i. omega (arith, c.type_inv.bytes i)) c.in-Ok.ensures

pub returns-in-Err-Unreadable-clause-bad : goal.returns-in-Err-Unreadable-clause-bad
returns-in-Err-Unreadable-clause-bad c = (refl, no_key c.args.bytes.now (rw c.in-Err-Unreadable.field-0-is at c.in-Err-Unreadable.ensures))
