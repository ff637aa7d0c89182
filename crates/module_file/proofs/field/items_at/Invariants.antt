use Rattle.std.proofs.Common.{◌≡◌, map, ◌-◌}
use Rattle.module_file.specs.Form.{times_read}
use Rattle.module_file.proofs.Items.{with_items}
use Rattle.module_file.proofs.field.items_at.Given as goal

abbrev pub invariant-loop : goal.invariant-loop
invariant-loop g l =
    with_items (map g.T.Field.shown l.items.items) (times_read g.T.Field.reading (l.count - l.counter) l.rest) ≡ times_read g.T.Field.reading l.count l.bytes
