-- What was read and what the items left give is what all give.
use Rattle.std.proofs.Common.{◌≡◌, drop, map}
use Rattle.serde_json.specs.View.{items_view}
use Rattle.json_shapes.specs.Shapes.{each}
use Rattle.json_shapes.proofs.Items.{with_front}
use Rattle.json_shapes.proofs.form.each.Given as goal

abbrev pub invariant-loop-place : goal.invariant-loop-place
invariant-loop-place g l =
    with_front (map g.F.Form.plain_view l.list.items) (each g.F.Form.form l.place (items_view (drop l.place l.items))) ≡ each g.F.Form.form 0 (items_view l.items)
