-- What calls do to layers of which each map spells a value. How a map spells one is a relation, which the caller gives.
use Rattle.kv_layers.specs.declared.layers.Layers.{Layers}
use Rattle.kv_layers.specs.Bytes.{Bytes}
use Rattle.kv_layers.specs.Layers.{Stands}
use Rattle.kv_layers.specs.Maps.{Maps, changed}

-- where the layers stood for a map that spells a value with this property, they stand for one that spells another, to which the
-- step leads
abbrev pub Becomes : {B X : Type 0} → (Bytes → X → Type 0) → (X → Type 0) → (B → Bytes → Type 0) → Layers B → Layers B → (X → X → Type 0) → Type 0
Becomes {X = X} Spelled Is S old new Step =
    (maps : Maps) (x : X) → Stands S old maps → Spelled maps.current x → Is x
    → (map : Bytes) × (y : X) × Stands S new (changed maps map) × Spelled map y × Step x y

-- whichever value the map spells, the layers stand for one that spells what the function makes of it
abbrev pub Writes : {B X : Type 0} → (Bytes → X → Type 0) → (B → Bytes → Type 0) → Layers B → Layers B → (X → X) → Type 0
Writes {X = X} Spelled S old new step =
    (maps : Maps) (x : X) → Stands S old maps → Spelled maps.current x
    → (map : Bytes) × Stands S new (changed maps map) × Spelled map (step x)
