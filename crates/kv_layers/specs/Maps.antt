-- The maps that a stack of layers keeps: what lies under all of them, what there is now, and what there
-- was when each layer above the first was pushed.
use Rattle.std.specs.Prelude.{List, [], ◌∷◌}
use Rattle.kv_layers.specs.Bytes.{Bytes}

-- `saved` has the newest first
pub record Maps : Type 0 where
  pub base : Bytes
  pub current : Bytes
  pub saved : List Bytes

abbrev pub new_maps : Bytes → Maps
new_maps map = record { base = map; current = map; saved = [] }

-- with another map in the newest layer
abbrev pub changed : Maps → Bytes → Maps
changed maps map = record { base = maps.base; current = map; saved = maps.saved }

abbrev pub pushed : Maps → Maps
pushed maps = record { base = maps.base; current = maps.current; saved = maps.current ∷ maps.saved }

abbrev pub others : List Bytes → List Bytes
others [] = []
others (map ∷ maps) = maps

abbrev pub first_or : Bytes → List Bytes → Bytes
first_or map [] = map
first_or map (first ∷ maps) = first

-- the newest layer is kept: its map is that of the layer below
abbrev pub kept : Maps → Maps
kept maps = record { base = maps.base; current = maps.current; saved = others maps.saved }

-- the newest layer is dropped: the earlier map is there again
abbrev pub dropped : Maps → Maps
dropped maps = record { base = maps.base; current = first_or maps.current maps.saved; saved = others maps.saved }
