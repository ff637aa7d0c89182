-- Changes of a map: at each key a new value, or none where the key is removed, or no change.
use Rattle.std.specs.Prelude.{ℕ, ◌≡◌, ◌≢◌, List, [], ◌∷◌, Option, Some, None}
use Rattle.std.specs.Option.{option_map, option_or}
use Rattle.std.specs.Global.{Vec}
use Rattle.std.specs.FinMap.{get, insert, remove}
use Rattle.std.specs.BTreeMap.{BTreeMap}
use Rattle.kv_layers.specs.Bytes.{Bytes}
use Rattle.kv_layers.specs.Plain.{value_view}
use Rattle.kv_layers.specs.Sorted.{value_at}

-- the value after a change of it
abbrev pub after_change : Option (Option (List ℕ)) → Option (List ℕ) → Option (List ℕ)
after_change None value = value
after_change (Some value) earlier = value

-- the map with a new value at the key, or without the key
abbrev pub with_change : Bytes → List ℕ → Option (List ℕ) → Bytes
with_change map key None = remove map key
with_change map key (Some value) = insert map key value

-- the changes make the second map of the first
abbrev pub LeadsTo : Bytes → (List ℕ → Option (Option (List ℕ))) → Bytes → Type 0
LeadsTo old change new = (key : List ℕ) → get new key ≡ after_change (change key) (get old key)

-- no change gives a key what it has anyway
abbrev pub IsLeast : Bytes → (List ℕ → Option (Option (List ℕ))) → Type 0
IsLeast old change = (key : List ℕ) (value : Option (List ℕ)) → change key ≡ Some value → get old key ≢ value

-- the changes of one layer
abbrev pub Layer : Type 0
Layer = BTreeMap (Vec ℕ) (Option (Vec ℕ))

abbrev pub change_at : Layer → List ℕ → Option (Option (List ℕ))
change_at layer key = option_map value_view (value_at layer key)

-- the newest change of some layers, which are listed newest first
abbrev pub change_in : List Layer → List ℕ → Option (Option (List ℕ))
change_in [] key = None
change_in (layer ∷ layers) key = option_or (change_at layer key) (change_in layers key)
