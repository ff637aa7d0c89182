use Rattle.std.proofs.Common.{Some, None, sym, ap, ◌∙◌}
use Rattle.chain_records.specs.Keys.{plain_key}
use Rattle.chain_records.specs.Records.{plain_stored}
use Rattle.kv_layers.specs.Plain.{value_view}
use Rattle.state_records.proofs.Found.{found_at, found_record}
use Rattle.state_records.proofs.reading.record_at.Goals as goal

pub record_of-requires : goal.record_of-requires
record_of-requires g c =
    let t = c.requires.typed in
    let is = sym (ap value_view c.in-Some.is) ∙ rw c.deref.ensures.value at (c.in_ok-bytes.ensures t.map t.stands) in
    let there = found_at c.maps_give_records.ensures t.map t.state (plain_key c.args.key.now) c.in_ok-place.place.items (Some c.in-Some.bytes.items) c.in_ok-place.ensures t.spelled is in
    (there.0, rw c.deref-in-Some.ensures.value there.2)

pub returns-in-Some : goal.returns-in-Some
returns-in-Some g c = λ map s stands spelled.
    found_record c.maps_give_records.ensures c.bytes_tell_records.ensures map s (plain_key c.args.key.now) c.in_ok-place.place.items c.in-Some.bytes.items (plain_stored c.in_ok-record_of-in-Some.field-0) c.in_ok-place.ensures spelled
    (sym (ap value_view c.in-Some.is) ∙ rw c.deref.ensures.value at (c.in_ok-bytes.ensures map stands))
    (rw c.deref-in-Some.ensures.value at c.in_ok-record_of-in-Some.ensures)

pub returns : goal.returns
returns g c = λ map s stands spelled.
    sym (found_at c.maps_give_records.ensures map s (plain_key c.args.key.now) c.in_ok-place.place.items None c.in_ok-place.ensures spelled
    (sym (ap value_view c.in-None.is) ∙ rw c.deref.ensures.value at (c.in_ok-bytes.ensures map stands)))
