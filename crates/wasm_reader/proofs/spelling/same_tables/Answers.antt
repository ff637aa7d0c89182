use Rattle.std.proofs.Common.{rules}
use Rattle.std.proofs.lemmas.Slice.Eq.{slice_eq-Decides}
use Rattle.wasm_reader.specs.CursorPlace.{place}
use Rattle.wasm_reader.proofs.Comparing.{same_lists}
use Rattle.wasm_reader.proofs.spelling.same_tables.Goals as goal

pub returns : goal.returns
returns c =
    let d = slice_eq-Decides (λ a b. search rules) c.as_slice.result.now c.args.sizes.now c.eq.result c.eq.ensures in
    same_lists c.as_slice.result.now c.args.sizes.now c.eq.result (place c.tables.new.cursor) _ d (rw (← c.as_slice.ensures.value) at c.in_ok-read.ensures)
