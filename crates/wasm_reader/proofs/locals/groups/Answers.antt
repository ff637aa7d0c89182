use Rattle.std.proofs.Common.{arith}
use Rattle.std.proofs.lemmas.Result.{err_from_is_err_and}
use Rattle.wasm_reader.specs.CursorPlace.{place}
use Rattle.wasm_reader.proofs.Groups.{goes_on, fails, is_done}
use Rattle.wasm_reader.proofs.locals.groups.Goals as goal

pub returns-in_err-group : goal.returns-in_err-group
returns-in_err-group c =
    let p = err_from_is_err_and c.from_residual.result c.from_residual.ensures.1 in
    rw (p.1, p.2) (fails c.loop.types.items c.args.count c.loop.counter (place c.loop.cursor) _ _ c.loop-test.true c.in_err-group.ensures.gives c.loop.invariant.read)

pub loop-preserved : goal.loop-preserved
loop-preserved c = record {
  read = goes_on c.loop.types.items c.args.count c.loop.counter (place c.loop.cursor) _ _ _ c.loop-test.true c.in_ok-group.ensures.gives c.loop.invariant.read;
  most = c.in_ok-group.ensures.most;
}

pub returns : goal.returns
returns c = is_done c.loop.types.items c.args.count c.loop.counter (place c.loop.cursor) _ (omega arith) c.loop.invariant.read
