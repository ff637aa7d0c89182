-- Not for readers of contracts: it serves the proofs of this crate alone.
-- The place at which a cursor stands.
use Rattle.wasm_types.specs.Place.{Place}
use Rattle.wasm_types.specs.Number.{place_at}
use Rattle.wasm_reader.specs.declared.cursor.Cursor.{Cursor}

unfoldable pub place : Cursor → Place
place c = place_at c.at c.bytes.now
