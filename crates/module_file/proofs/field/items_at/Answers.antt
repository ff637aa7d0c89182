use Rattle.std.proofs.Common.{map}
use Rattle.std.proofs.lemmas.List.{map-append}
use Rattle.std.proofs.lemmas.Result.{err_from_is_err_and}
use Rattle.module_file.proofs.Items.{starts, goes_on, fails, is_done}
use Rattle.module_file.proofs.field.items_at.Goals as goal

pub returns-in_err-item : goal.returns-in_err-item
returns-in_err-item g c =
    let p = err_from_is_err_and c.from_residual.result c.from_residual.ensures.1 in
    rw (p.1, p.2) (fails g.T.Field.reading (map g.T.Field.shown c.loop.items.items) c.args.count c.loop.counter c.loop.rest.now _ _ c.loop-test.true c.in_err-item.ensures c.loop.invariant)

pub loop-init : goal.loop-init
loop-init g c = rw c.new-items.ensures.items (starts g.T.Field.reading c.args.count c.args.bytes.now)

pub loop-preserved : goal.loop-preserved
loop-preserved g c =
    rw (c.in_ok-push.ensures.items, map-append) (goes_on g.T.Field.reading (map g.T.Field.shown c.loop.items.items) c.args.count c.loop.counter c.loop.rest.now _ _ _ c.loop-test.true c.in_ok-item.ensures c.loop.invariant)

pub returns : goal.returns
returns g c =
    is_done g.T.Field.reading (map g.T.Field.shown c.loop.items.items) c.args.count c.loop.counter c.loop.rest.now _ c.loop-test.false c.loop.invariant
