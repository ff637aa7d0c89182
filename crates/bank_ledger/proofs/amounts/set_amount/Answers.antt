use Rattle.std.specs.FinMap.{insert, remove}
use Rattle.chain_records.specs.Keys.{plain_key}
use Rattle.bank_ledger.proofs.Written.{spells_removed, spells_written}
use Rattle.bank_ledger.proofs.amounts.set_amount.Goals as goal
use Rattle.bank_ledger.proofs.amounts.set_amount.Goals.{then-amount-eq0+in_ok-remove, else-amount-eq0+in_ok-bytes+in_ok-set}

pub returns-clause-ok : goal.returns-clause-ok
returns-clause-ok g c = λ maps s stands spelled.
    let place = c.in_ok-place.place.items in
    let key = plain_key c.args.key.now in
    elim c.if-amount-eq0.branch [
      | then-amount-eq0+in_ok-remove w ↦ (
        remove maps.current place,
        rw w.layers-is (rw w.deref.ensures.value at (w.in_ok-remove.ensures.ok maps stands)),
        spells_removed c.one_record_changes.ensures.removed maps.current s key c.args.amount place c.requires c.in_ok-place.ensures w.if-amount-eq0.true spelled,
      )
      | else-amount-eq0+in_ok-bytes+in_ok-set w ↦ (
        insert maps.current place w.in_ok-bytes.bytes.items,
        rw w.layers-is (rw (w.deref-else-amount-eq0.ensures.value, w.deref-else-amount-eq0-2.ensures.value) at (w.in_ok-set.ensures.ok maps stands)),
        spells_written c.one_record_changes.ensures.written maps.current s key c.args.amount place w.in_ok-bytes.bytes.items c.requires c.in_ok-place.ensures w.in_ok-bytes.ensures (λ e. w.if-amount-eq0.false e) spelled,
      )
    ]
