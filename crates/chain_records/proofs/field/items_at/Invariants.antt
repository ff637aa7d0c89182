use Rattle.std.proofs.Common.{◌≡◌, map, ◌-◌}
use Rattle.chain_records.specs.Reading.{items_at}
use Rattle.chain_records.proofs.Items.{with_items}
use Rattle.chain_records.proofs.field.items_at.Given as goal

abbrev pub invariant-loop : goal.invariant-loop
invariant-loop g l =
    with_items (map g.T.Field.shown l.items.items) (items_at g.T.Field.reading (l.count - l.counter) l.rest) ≡ items_at g.T.Field.reading l.count l.bytes
