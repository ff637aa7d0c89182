use Rattle.std.specs.FinMap.{remove}
use Rattle.chain_records.specs.Keys.{plain_key}
use Rattle.state_records.proofs.Changing.{spells_removed}
use Rattle.state_records.proofs.writing.remove_record.Goals as goal

pub returns-clause-ok : goal.returns-clause-ok
returns-clause-ok g c = λ maps s t stands spelled change.
    let place = c.in_ok-place.place.items in (
      remove maps.current place,
      rw c.deref.ensures.value at (c.in_ok-remove.ensures.ok maps stands),
      spells_removed c.one_record_changes.ensures.removed maps.current s t (plain_key c.args.key.now) place c.in_ok-place.ensures spelled change,
    )
