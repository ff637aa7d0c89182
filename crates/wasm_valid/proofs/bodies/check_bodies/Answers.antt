use Rattle.std.proofs.Common.{arith}
use Rattle.wasm_types.specs.Plain.{plain_module}
use Rattle.wasm_valid.proofs.BodyList.{nested_at, passes, stops, none_left}
use Rattle.wasm_valid.proofs.bodies.check_bodies.Goals as goal

pub check_func-requires-clause-nested : goal.check_func-requires-clause-nested
check_func-requires-clause-nested c =
    nested_at c.args.m.now.codes.items c.loop-at.at c.index-code.result.now c.requires.shaped.bodies (omega (arith, c.loop-at-test.true, c.loop-at.invariant.count)) c.index-code.ensures

pub returns-in-Err : goal.returns-in-Err
returns-in-Err c =
    stops (plain_module c.args.m.now) c.args.m.now.funcs.items c.args.m.now.codes.items c.loop-at.at c.index.result.now c.index.result.now c.index-code.result.now (omega (arith, c.loop-at-test.true, c.loop-at.invariant.count)) c.index.ensures (omega (arith, c.loop-at-test.true, c.loop-at.invariant.count)) c.index-code.ensures
    _ c.in-Err.stop c.func_stop.result c.func_stop.ensures c.loop-at.invariant.fault c.in-Err.ensures

pub loop-at-preserved : goal.loop-at-preserved
loop-at-preserved c = record {
  within = omega (arith, c.loop-at-test.true);
  count = c.loop-at.invariant.count;
  fault = passes (plain_module c.args.m.now) c.args.m.now.funcs.items c.args.m.now.codes.items c.loop-at.at c.index.result.now c.index.result.now c.index-code.result.now (omega (arith, c.loop-at-test.true, c.loop-at.invariant.count)) c.index.ensures (omega (arith, c.loop-at-test.true, c.loop-at.invariant.count)) c.index-code.ensures
      _ c.loop-at.invariant.fault c.in-Ok.ensures;
}

pub returns : goal.returns
returns c = none_left (plain_module c.args.m.now) c.args.m.now.funcs.items c.args.m.now.codes.items _ c.loop-at.at c.loop-at.invariant.fault (omega (arith, c.loop-at-test.false, c.loop-at.invariant.count))
