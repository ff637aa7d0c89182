use Rattle.std.proofs.Common.{map, drop, ◌++◌, length}
use Rattle.std.specs.List.{flat_map}
use Rattle.chain_records.specs.Pieces.{be8}
use Rattle.chain_records.proofs.Items.{Remains}
use Rattle.chain_records.proofs.field.put_list.Given as goal

abbrev pub invariant-loop-item : goal.invariant-loop-item
invariant-loop-item g l =
    Remains g.T.Field.written g.T.Field.holds (map g.T.Field.shown l.items) ((l.fn.bytes.items ++ be8 (length (map g.T.Field.shown l.items))) ++ flat_map g.T.Field.written (map g.T.Field.shown l.items)) l.bytes.items (map g.T.Field.shown (drop l.item-index l.items))
