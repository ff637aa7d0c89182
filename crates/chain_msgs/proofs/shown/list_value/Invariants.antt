-- The values so far are those of the items so far.
use Rattle.std.proofs.Common.{◌≡◌, map, take}
use Rattle.serde_json.specs.View.{view}
use Rattle.chain_msgs.proofs.shown.list_value.Given as goal

abbrev pub invariant-loop-item : goal.invariant-loop-item
invariant-loop-item g l = map view l.values.items ≡ map g.T.Shown.data_of (map g.T.Shown.plain_view (take l.item-index l.list))
