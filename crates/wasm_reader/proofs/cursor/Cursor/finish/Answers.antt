use Rattle.wasm_reader.specs.CursorPlace.{place}
use Rattle.wasm_reader.proofs.Places.{left_over, nothing_left}
use Rattle.wasm_reader.proofs.cursor.Cursor.finish.Goals as goal

pub returns-then-self : goal.returns-then-self
unfolding place
returns-then-self c = left_over c.args.self.now.bytes.now c.args.self.now.at c.if-self.true

pub returns : goal.returns
unfolding place
returns c = nothing_left c.args.self.now.bytes.now c.args.self.now.at c.if-self.false
