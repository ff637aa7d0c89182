-- The map that a sorted map of vectors is.
use Rattle.std.specs.Prelude.{map}
use Rattle.std.specs.Global.{Vec}
use Rattle.std.specs.Prelude.{ℕ}
use Rattle.std.specs.FinMap.{from_entries}
use Rattle.std.specs.BTreeMap.{BTreeMap}
use Rattle.kv_layers.specs.Bytes.{Bytes}
use Rattle.kv_layers.specs.Plain.{entry_view}

abbrev pub map_of : BTreeMap (Vec ℕ) (Vec ℕ) → Bytes
map_of entries = from_entries (map entry_view entries.entries)
