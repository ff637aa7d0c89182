-- What came of the transactions so far and what those left give is what all give.
use Rattle.std.proofs.Common.{◌≡◌, length, map, drop}
use Rattle.chain_msgs.specs.Plain.{tx_view, result_view}
use Rattle.kv_layers.specs.Layers.{depth}
use Rattle.submsg_dispatch.proofs.Running.{Reaches}
use Rattle.submsg_dispatch.proofs.blocks.run_all.Given as goal

abbrev pub invariant-loop-tx : goal.invariant-loop-tx
invariant-loop-tx g l = record {
  reaches : Reaches l.fn.prefix g.B.Base.stands_for l.fn.layers l.layers (g.M.Modules.tally l.fn.modules) (g.M.Modules.tally l.modules) l.fn.costs (map result_view l.results.items) l.tx-index (map tx_view (drop l.tx-index l.txs)) (map tx_view l.fn.txs);
  counted : length l.results.items ≡ l.tx-index;
  layers : depth l.layers ≡ depth l.fn.layers;
}
