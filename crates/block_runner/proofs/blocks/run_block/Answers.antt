use Rattle.std.proofs.Common.{arith}
use Rattle.kv_layers.specs.Layers.{HasCurrent}
use Rattle.chain_msgs.specs.Plain.{block_view}
use Rattle.block_runner.proofs.Beginning.{next_height, lawful_begun, typed}
use Rattle.block_runner.proofs.Delivered.{delivers}
use Rattle.block_runner.proofs.blocks.run_block.Goals as goal

pub begin-requires : goal.begin-requires
begin-requires g c = next_height c.args.base c.new-layers.result c.requires.lawful c.new-layers.ensures.maps

pub run_txs-requires-clause-lawful : goal.run_txs-requires-clause-lawful
run_txs-requires-clause-lawful g c =
    lawful_begun c.new-layers.result c.begin.new.layers c.args.block.now.time (next_height c.args.base c.new-layers.result c.requires.lawful c.new-layers.ensures.maps) c.in_ok-begin.ensures.ok

pub run_txs-requires-clause-few : goal.run_txs-requires-clause-few
run_txs-requires-clause-few g c = omega (arith, c.args.block.now.txs.ok.0, c.requires.few)

pub pinned-requires : goal.pinned-requires
pinned-requires g c =
    typed (HasCurrent g.B.Base.stands_for c.run_txs.new.layers) c.in_ok-results.ensures.lawful

pub returns : goal.returns
returns g c =
    let ran = rw c.deref.ensures.value at c.in_ok-results.ensures.ran in
    delivers c.args.base c.new-layers.result c.begin.new.layers c.run_txs.new.layers c.args.costs.now (g.M.Modules.tally c.args.modules.now) (g.M.Modules.tally c.run_txs.new.modules) (block_view c.args.block.now) _
    c.new-layers.ensures.maps c.in_ok-begin.ensures.ok ran c.in_ok-pins.ensures c.into_delta.ensures
