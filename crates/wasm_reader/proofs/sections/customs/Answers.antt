use Rattle.std.proofs.Common.{sym}
use Rattle.std.proofs.lemmas.Result.{err_from_is_err_and}
use Rattle.wasm_reader.specs.CursorPlace.{place}
use Rattle.wasm_reader.proofs.CustomLoop.{less, goes_on, fails, is_done}
use Rattle.wasm_reader.proofs.sections.customs.Goals as goal

pub loop-cursor-smaller : goal.loop-cursor-smaller
loop-cursor-smaller c = less (place c.loop-cursor.cursor) (place c.custom.new.cursor) _ c.in_ok-custom.ensures

pub loop-cursor-preserved : goal.loop-cursor-preserved
loop-cursor-preserved c = goes_on (place c.loop-cursor.cursor) (place c.custom.new.cursor) _ _ (sym c.loop-cursor-test.ensures) c.in_ok-custom.ensures c.loop-cursor.invariant

pub returns-in_err-custom : goal.returns-in_err-custom
returns-in_err-custom c =
    let p = err_from_is_err_and c.from_residual.result c.from_residual.ensures.1 in
    rw (p.1, p.2) (fails _ (place c.loop-cursor.cursor) _ (sym c.loop-cursor-test.ensures) c.in_err-custom.ensures c.loop-cursor.invariant)

pub returns : goal.returns
returns c = is_done (place c.loop-cursor.cursor) _ (sym c.loop-cursor-test.ensures) c.loop-cursor.invariant
