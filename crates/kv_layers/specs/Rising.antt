-- Lists of changes whose keys rise.
use Rattle.std.specs.Prelude.{ℕ, List, Option, map}
use Rattle.std.specs.List.Sorted.{IsStrictlySortedBy, IsStrictlySortedBy-prop}
use Rattle.std.specs.Global.{Vec}
use Rattle.kv_layers.specs.Bytes.{bytes_cmp}
use Rattle.kv_layers.specs.Plain.{value_view}

abbrev pub change_view : Vec ℕ × Option (Vec ℕ) → List ℕ × Option (List ℕ)
change_view change = (change.0.items, value_view change.1)

-- each key is below those after it
abbrev pub KeysRise : List (List ℕ × Option (List ℕ)) → Type 0
KeysRise changes = IsStrictlySortedBy bytes_cmp (map (λ e. e.0) changes)

pub KeysRise-prop : (changes : List (List ℕ × Option (List ℕ))) → IsProp (KeysRise changes)
KeysRise-prop changes = IsStrictlySortedBy-prop bytes_cmp (map (λ e. e.0) changes)
