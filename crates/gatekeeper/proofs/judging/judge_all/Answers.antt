use Rattle.std.proofs.Common.{arith}
use Rattle.gatekeeper.proofs.Each.{passes, refuses, none_left}
use Rattle.gatekeeper.proofs.judging.judge_all.Goals as goal

pub returns-in-Err : goal.returns-in-Err
returns-in-Err g c =
    refuses g.R.Judge.shown (g.R.Judge.refused c.args.rule.now) c.args.items.now c.loop-at.at c.index-items-at.result c.index-items-at.result c.loop-at-test.true c.index-items-at.is _ c.in-Err.stop c.loop-at.invariant.refusal c.in-Err.ensures

pub loop-at-preserved : goal.loop-at-preserved
loop-at-preserved g c = record {
  within = omega (arith, c.loop-at-test.true);
  refusal = passes g.R.Judge.shown (g.R.Judge.refused c.args.rule.now) c.args.items.now c.loop-at.at c.index-items-at.result c.index-items-at.result c.loop-at-test.true c.index-items-at.is _ c.loop-at.invariant.refusal c.in-Ok.ensures;
}

pub returns : goal.returns
returns g c = none_left g.R.Judge.shown (g.R.Judge.refused c.args.rule.now) c.args.items.now _ c.loop-at.at c.loop-at.invariant.refusal (omega (arith, c.loop-at-test.false))
