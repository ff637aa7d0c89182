use Rattle.std.proofs.Common.{arith, map}
use Rattle.std.proofs.lemmas.List.{map-append}
use Rattle.std.proofs.lemmas.Result.{err_from_is_err_and}
use Rattle.wasm_reader.specs.CursorPlace.{place}
use Rattle.wasm_reader.proofs.Vectors.{goes_on, fails, is_done}
use Rattle.wasm_reader.proofs.element.items_into.Goals as goal

pub returns-in_err-read_at : goal.returns-in_err-read_at
returns-in_err-read_at g c =
    let p = err_from_is_err_and c.from_residual.result c.from_residual.ensures.1 in
    rw (p.1, p.2) (fails g.T.Element.reading (map g.T.Element.shown c.loop.items.items) c.args.count c.loop.counter (place c.loop.cursor) _ _ c.loop-test.true c.in_err-read_at.ensures c.loop.invariant)

pub loop-preserved : goal.loop-preserved
loop-preserved g c =
    rw (c.in_ok-push.ensures.items, map-append) (goes_on g.T.Element.reading (map g.T.Element.shown c.loop.items.items) c.args.count c.loop.counter (place c.loop.cursor) _ _ _ c.loop-test.true c.in_ok-read_at.ensures c.loop.invariant)

pub returns : goal.returns
returns g c =
    is_done g.T.Element.reading (map g.T.Element.shown c.loop.items.items) c.args.count c.loop.counter (place c.loop.cursor) _ (omega arith) c.loop.invariant
