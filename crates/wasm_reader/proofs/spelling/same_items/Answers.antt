use Rattle.std.proofs.Common.{map, take, refl, sym, ap, ◌∙◌, ◌≡◌, length}
use Rattle.std.proofs.lemmas.List.{take_all}
use Rattle.std.proofs.lemmas.Result.{err_from_is_err_and}
use Rattle.wasm_reader.specs.CursorPlace.{place}
use Rattle.wasm_reader.proofs.Vectors.{fails, is_done}
use Rattle.wasm_reader.proofs.Comparing.{same_so_far, other_item}
use Rattle.wasm_reader.proofs.spelling.same_items.Goals as goal

pub returns-in_err-read : goal.returns-in_err-read
returns-in_err-read g c =
    let p = err_from_is_err_and c.from_residual.result c.from_residual.ensures.1 in
    rw (p.1, p.2) (fails g.T.Element.reading (map g.T.Element.shown (take c.loop-item.item-index c.args.items.now)) (length c.args.items.now) c.loop-item.item-index (place c.loop-item.cursor) _ _ c.loop-item-test.true c.in_err-read.ensures c.loop-item.invariant)

pub returns-then-not-same : goal.returns-then-not-same
returns-then-not-same g c =
    other_item g.T.Element.shown g.T.Element.reading c.args.items.now c.loop-item.item-index c.item-item.result c.loop-item-test.true (place c.loop-item.cursor) _ (g.T.Element.shown c.in_ok-read.read) (place c.read_at.new.cursor) c.in_ok-read.ensures
    (λ e. let t = c.if-not-same.ensures.1 (e ∙ ap g.T.Element.shown (sym c.item-item.is)) in absurd cc) c.loop-item.invariant

pub loop-item-preserved : goal.loop-item-preserved
loop-item-preserved g c =
    same_so_far g.T.Element.shown g.T.Element.reading c.args.items.now c.loop-item.item-index c.item-item.result c.loop-item-test.true (place c.loop-item.cursor) _ (g.T.Element.shown c.in_ok-read.read) (place c.read_at.new.cursor) c.in_ok-read.ensures
    (c.if-not-same.ensures.0 refl ∙ ap g.T.Element.shown c.item-item.is) c.loop-item.invariant

pub returns : goal.returns
returns g c =
    let front : take c.loop-item.item-index c.args.items.now ≡ c.args.items.now = take_all c.loop-item.item-index c.args.items.now c.loop-item-test.false in
    rw front at (is_done g.T.Element.reading (map g.T.Element.shown (take c.loop-item.item-index c.args.items.now)) (length c.args.items.now) c.loop-item.item-index (place c.loop-item.cursor) _ c.loop-item-test.false c.loop-item.invariant)
