use Rattle.std.proofs.lemmas.Result.{err_from_is_err_and}
use Rattle.wasm_reader.specs.CursorPlace.{place}
use Rattle.wasm_reader.proofs.Places.{no_length, too_long, long_enough}
use Rattle.wasm_reader.proofs.cursor.Cursor.part.Goals as goal

pub returns-in_err-len-clause-gives : goal.returns-in_err-len-clause-gives
returns-in_err-len-clause-gives c =
    let p = err_from_is_err_and c.from_residual.result c.from_residual.ensures.1 in
    rw (p.1, p.2) (no_length _ (place c.args.self.now) c.in_err-len.ensures)

pub returns-then-self-len-clause-gives : goal.returns-then-self-len-clause-gives
unfolding place
returns-then-self-len-clause-gives c = too_long (place c.args.self.now) c.in_ok-len.field-0 c.index.new.self.at c.index.new.self.bytes.now c.in_ok-len.ensures c.if-self-len.true

pub returns-clause-gives : goal.returns-clause-gives
unfolding place
returns-clause-gives c = long_enough (place c.args.self.now) c.in_ok-len.field-0 c.index.new.self.at c.index.new.self.bytes.now c.in_ok-len.ensures c.if-self-len.false
