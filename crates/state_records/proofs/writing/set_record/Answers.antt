use Rattle.std.specs.FinMap.{insert}
use Rattle.chain_records.specs.Keys.{plain_key}
use Rattle.chain_records.specs.Records.{plain_stored}
use Rattle.state_records.proofs.Changing.{spells_written}
use Rattle.state_records.proofs.writing.set_record.Goals as goal

pub returns-clause-ok : goal.returns-clause-ok
returns-clause-ok g c = λ maps s t stands spelled change.
    let place = c.in_ok-place.place.items in
    let bytes = c.in_ok-bytes.bytes.items in (
      insert maps.current place bytes,
      rw (c.deref.ensures.value, c.deref-2.ensures.value) at (c.in_ok-set.ensures.ok maps stands),
      spells_written c.one_record_changes.ensures.written maps.current s t (plain_key c.args.key.now) (plain_stored c.args.stored.now) place bytes c.in_ok-place.ensures c.in_ok-bytes.ensures spelled change,
    )
