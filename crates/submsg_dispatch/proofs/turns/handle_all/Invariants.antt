-- What came of the messages so far and what those left give is what all give.
use Rattle.std.proofs.Common.{◌≡◌, ◌+◌, map, drop}
use Rattle.serde_json.specs.View.{view}
use Rattle.kv_layers.specs.Layers.{depth}
use Rattle.submsg_dispatch.specs.Transactions.{all_handled}
use Rattle.submsg_dispatch.specs.Under.{outcomes_view}
use Rattle.submsg_dispatch.proofs.Loops.{Reaches}
use Rattle.submsg_dispatch.proofs.turns.handle_all.Given as goal

abbrev pub invariant-loop-value : goal.invariant-loop-value
invariant-loop-value g l = record {
  reaches : Reaches l.fn.prefix g.B.Base.stands_for l.fn.layers l.layers (g.M.Modules.tally l.fn.modules) (g.M.Modules.tally l.modules) l.fn.meter.left l.meter.left (outcomes_view l.outcomes) (all_handled l.fn.costs l.fn.sender l.fn.index (map view (drop l.value-index l.values))) (all_handled l.fn.costs l.fn.sender l.fn.index (map view l.fn.values));
  gas : l.meter.left + l.meter.used ≡ l.fn.meter.left + l.fn.meter.used;
  layers : depth l.layers ≡ depth l.fn.layers;
}
