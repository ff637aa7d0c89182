use Rattle.std.proofs.Common.{true, false, sym}
use Rattle.wasm_reader.specs.CursorPlace.{place}
use Rattle.wasm_reader.proofs.Places.{word_found, word_missing}
use Rattle.wasm_reader.proofs.cursor.Cursor.header.Goals as goal
use Rattle.wasm_reader.proofs.cursor.Cursor.header.Goals.{then-starts_with-2, else-starts_with-2}

pub returns-then-starts_with : goal.returns-then-starts_with
unfolding place
returns-then-starts_with c =
    word_found c.args.self.now.bytes.now c.args.self.now.at (rw c.rest-rest.ensures at (sym c.if-starts_with.ensures.value))

pub returns : goal.returns
unfolding place
returns c =
    let other = rw c.rest-rest.ensures at (sym c.if-starts_with.ensures.value) in
    elim c.if-starts_with-2.branch [
      | then-starts_with-2 w ↦
          rw w.kind-is (word_missing c.args.self.now.bytes.now c.args.self.now.at true other (rw c.rest-rest.ensures at (sym w.if-starts_with-2.ensures.value)))
      | else-starts_with-2 w ↦
          rw w.kind-is (word_missing c.args.self.now.bytes.now c.args.self.now.at false other (rw c.rest-rest.ensures at (sym w.if-starts_with-2.ensures.value)))
    ]
