use Rattle.std.proofs.Common.{map, ◌∙◌}
use Rattle.std.proofs.lemmas.List.{length-map}
use Rattle.wasm_reader.specs.CursorPlace.{place}
use Rattle.wasm_reader.proofs.Comparing.{other_count}
use Rattle.wasm_reader.proofs.spelling.same_vector.Goals as goal

pub returns-then-count-items : goal.returns-then-count-items
returns-then-count-items g c =
    other_count g.T.Element.reading (map g.T.Element.shown c.args.items.now) (place c.args.cursor.now) _ _ c.in_ok-count.ensures (λ e. c.if-count-items.true (e ∙ simp length-map))
