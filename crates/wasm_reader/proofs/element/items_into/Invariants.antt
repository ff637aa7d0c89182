use Rattle.std.proofs.Common.{◌≡◌, map, ◌-◌}
use Rattle.wasm_types.specs.Part.{times_read}
use Rattle.wasm_reader.specs.Gives.{with_items}
use Rattle.wasm_reader.specs.CursorPlace.{place}
use Rattle.wasm_reader.proofs.element.items_into.Given as goal

abbrev pub invariant-loop : goal.invariant-loop
invariant-loop g l =
    with_items (map g.T.Element.shown l.items.items) (times_read g.T.Element.reading (l.count - l.counter) (place l.cursor))
    ≡ with_items (map g.T.Element.shown l.fn.items.items) (times_read g.T.Element.reading l.fn.count (place l.fn.cursor))
