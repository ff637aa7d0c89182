use Rattle.std.proofs.Common.{arith}
use Rattle.wasm_types.specs.Plain.{plain_module}
use Rattle.wasm_valid.proofs.Passing.{passes, fails, none_left}
use Rattle.wasm_valid.proofs.items.check_items.Goals as goal

pub returns-in-Err : goal.returns-in-Err
returns-in-Err g c =
    fails g.T.Item.shown (λ earlier x. g.T.Item.kept (plain_module c.args.m.now) x) c.args.items.now c.loop-at.at c.index-items-at.result c.index-items-at.result c.loop-at-test.true c.index-items-at.is _ c.in-Err.kind c.loop-at.invariant.fault c.in-Err.ensures

pub loop-at-preserved : goal.loop-at-preserved
loop-at-preserved g c = record {
  within = omega (arith, c.loop-at-test.true);
  fault = passes g.T.Item.shown (λ earlier x. g.T.Item.kept (plain_module c.args.m.now) x) c.args.items.now c.loop-at.at c.index-items-at.result c.index-items-at.result c.loop-at-test.true c.index-items-at.is _ c.loop-at.invariant.fault c.in-Ok.ensures;
}

pub returns : goal.returns
returns g c = none_left g.T.Item.shown (λ earlier x. g.T.Item.kept (plain_module c.args.m.now) x) c.args.items.now _ c.loop-at.at c.loop-at.invariant.fault (omega (arith, c.loop-at-test.false))
