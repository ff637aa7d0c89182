use Rattle.std.proofs.Common.{◌≡◌, ◌-◌, length, map, take}
use Rattle.wasm_types.specs.Part.{times_read}
use Rattle.wasm_reader.specs.Gives.{with_items}
use Rattle.wasm_reader.specs.CursorPlace.{place}
use Rattle.wasm_reader.proofs.spelling.same_items.Given as goal

abbrev pub invariant-loop-item : goal.invariant-loop-item
invariant-loop-item g l =
    with_items (map g.T.Element.shown (take l.item-index l.items)) (times_read g.T.Element.reading (length l.items - l.item-index) (place l.cursor))
    ≡ times_read g.T.Element.reading (length l.fn.items) (place l.fn.cursor)
