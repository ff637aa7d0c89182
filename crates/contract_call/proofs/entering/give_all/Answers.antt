use Rattle.std.proofs.Common.{◌∙◌, refl, arith}
use Rattle.contract_call.proofs.Works.{moves_on_here}
use Rattle.contract_call.proofs.Givings.{gave_one, gave_no_more, gave_all}
use Rattle.contract_call.proofs.entering.give_all.Goals as goal

pub loop-bytes-init : goal.loop-bytes-init
loop-bytes-init c = record {
  moves_on = rw c.new-values.ensures.items (moves_on_here _);
  phase = refl;
  same = refl;
  spends = omega arith;
  used = refl;
}

pub loop-bytes-preserved : goal.loop-bytes-preserved
loop-bytes-preserved c =
    let i = c.loop-bytes.invariant in record {
      moves_on = gave_one c.args.costs.now c.args.args.now c.loop-bytes.bytes-index c.bytes-item.result c.deref.result.now c.loop-bytes.values.items c.push.new.self.items c.in-Ok.pointer c.bytes-item.is c.loop-bytes-test.true c.deref.ensures.value c.in-Ok-push.ensures.items i.moves_on c.in-Ok.ensures.moves;
      phase = c.in-Ok.ensures.phase ∙ i.phase;
      same = c.in-Ok.ensures.module ∙ i.same;
      spends = omega arith;
      used = c.in-Ok.ensures.used ∙ i.used;
    }

pub returns-in-Err-clause-moves : goal.returns-in-Err-clause-moves
returns-in-Err-clause-moves c =
    gave_no_more c.args.costs.now c.args.args.now c.loop-bytes.bytes-index c.bytes-item.result c.deref.result.now c.loop-bytes.values.items c.in-Err.stop c.bytes-item.is c.loop-bytes-test.true c.deref.ensures.value c.loop-bytes.invariant.moves_on c.in-Err.ensures.moves

pub returns-clause-moves : goal.returns-clause-moves
returns-clause-moves c = gave_all c.args.costs.now c.args.args.now c.loop-bytes.bytes-index c.loop-bytes.values c.loop-bytes-test.false c.loop-bytes.invariant.moves_on
