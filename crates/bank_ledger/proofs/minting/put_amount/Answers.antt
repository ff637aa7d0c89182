use Rattle.std.proofs.Common.{sym, subst, arith}
use Rattle.chain_records.specs.Keys.{plain_key}
use Rattle.chain_records.specs.State.{Bytes, Spells}
use Rattle.bank_ledger.specs.Amounts.{with_amount}
use Rattle.bank_ledger.proofs.Written.{spells_written}
use Rattle.bank_ledger.proofs.minting.put_amount.Goals as goal

pub returns : goal.returns
returns c = λ s spelled.
    let key = plain_key c.args.key.now in
    let n = c.args.amount in
    let above = c.requires.amount in
    subst (λ (m : Bytes). Spells m (with_amount s key n)) (sym c.in_ok-insert.ensures.ok)
    (spells_written c.one_record_changes.ensures.written c.args.plain.now s key n c.in_ok-place.place.items c.in_ok-bytes.bytes.items c.requires.key c.in_ok-place.ensures c.in_ok-bytes.ensures (λ e. omega (arith, e, above)) spelled)
