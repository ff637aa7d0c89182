-- What was read and what the items left give is what all give: the next item's place is the number of those read.
use Rattle.std.proofs.Common.{◌≡◌, length, map}
use Rattle.std.specs.Vec.Iter.{into_iter_items}
use Rattle.serde_json.specs.View.{items_view}
use Rattle.json_shapes.specs.Shapes.{each}
use Rattle.json_shapes.proofs.Items.{with_front}
use Rattle.chain_msgs.specs.Plain.{tx_view}
use Rattle.line_protocol.specs.Parts.{tx}
use Rattle.line_protocol.proofs.block_form.txs_of.Given as goal

abbrev pub invariant-loop-item : goal.invariant-loop-item
invariant-loop-item l = record {
  next : (goal.iterator-loop-item).can_next l.item-iterator;
  finite : (goal.iterator-loop-item).is_finite l.item-iterator;
  read : with_front (map tx_view l.txs.items) (each tx (length l.txs.items) (items_view (into_iter_items l.item-iterator))) ≡ each tx 0 (items_view l.fn.items.items);
}
