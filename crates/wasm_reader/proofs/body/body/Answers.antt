use Rattle.std.proofs.Common.{arith, length, reverse, ◌∷◌, []}
use Rattle.std.proofs.lemmas.List.{length-append}
use Rattle.std.proofs.lemmas.Result.{err_from_is_err_and}
use Rattle.wasm_reader.specs.CursorPlace.{place}
use Rattle.wasm_reader.proofs.Bodies.{shrinks, less, goes_on, fails, is_done}
use Rattle.wasm_reader.proofs.body.body.Goals as goal

pub returns-in_err-instr-clause-gives : goal.returns-in_err-instr-clause-gives
returns-in_err-instr-clause-gives c =
    let p = err_from_is_err_and c.from_residual.result c.from_residual.ensures.1 in
    let so_far = rw c.in-Some.is at c.loop-inner.invariant.read in
    rw (p.1, p.2) (fails c.loop-inner.instrs.items c.loop-inner.targets.items (length (place c.args.cursor.now).rest) c.in-Some.may_else (reverse c.loop-inner.outer.items) (place c.loop-inner.cursor) c.loop-inner.invariant.room _ _ c.in_err-instr.ensures so_far)

pub loop-inner-smaller : goal.loop-inner-smaller
loop-inner-smaller c =
    less c.loop-inner.instrs.items c.loop-inner.targets.items (length (place c.args.cursor.now).rest) c.in-Some.may_else (reverse c.loop-inner.outer.items) (place c.loop-inner.cursor) c.loop-inner.invariant.room
    c.in_ok-instr.instr c.instr.new.targets.items (place c.instr.new.cursor) c.in_ok-instr.ensures

pub loop-inner-preserved : goal.loop-inner-preserved
loop-inner-preserved c =
    let so_far = rw c.in-Some.is at c.loop-inner.invariant.read in
    let fewer = less c.loop-inner.instrs.items c.loop-inner.targets.items (length (place c.args.cursor.now).rest) c.in-Some.may_else (reverse c.loop-inner.outer.items) (place c.loop-inner.cursor) c.loop-inner.invariant.room c.in_ok-instr.instr c.instr.new.targets.items (place c.instr.new.cursor) c.in_ok-instr.ensures in
    let shorter = shrinks c.loop-inner.instrs.items c.loop-inner.targets.items (length (place c.args.cursor.now).rest) c.in-Some.may_else (reverse c.loop-inner.outer.items) (place c.loop-inner.cursor) c.loop-inner.invariant.room c.in_ok-instr.instr c.instr.new.targets.items (place c.instr.new.cursor) c.in_ok-instr.ensures in
    record {
      read = rw (c.in_ok-push.ensures.items, c.in_ok-inner.ensures) (goes_on c.loop-inner.instrs.items c.loop-inner.targets.items (length (place c.args.cursor.now).rest) c.in-Some.may_else (reverse c.loop-inner.outer.items) (place c.loop-inner.cursor) c.loop-inner.invariant.room
          c.in_ok-instr.instr c.instr.new.targets.items (place c.instr.new.cursor) _ c.in_ok-instr.ensures so_far);
      room = rw c.in_ok-push.ensures.items (omega (arith, fewer, c.loop-inner.invariant.room, length-append c.loop-inner.instrs.items (c.in_ok-instr.instr ∷ [])));
      labels = omega (arith, shorter, c.loop-inner.invariant.labels);
    }

pub returns-clause-gives : goal.returns-clause-gives
returns-clause-gives c = let so_far = rw c.in_default.is at c.loop-inner.invariant.read in is_done c.loop-inner.instrs.items c.loop-inner.targets.items _ (place c.loop-inner.cursor) _ so_far
