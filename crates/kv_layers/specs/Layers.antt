-- What a stack of layers stands for.
use Rattle.std.specs.Prelude.{ℕ, ◌≡◌, List, [], ◌∷◌, reverse, length}
use Rattle.kv_layers.specs.declared.layers.Layers.{Layers}
use Rattle.kv_layers.specs.Bytes.{Bytes}
use Rattle.kv_layers.specs.Changes.{Layer, change_at, LeadsTo, IsLeast}
use Rattle.kv_layers.specs.Maps.{Maps}

-- how many layers were pushed above the first
abbrev pub depth : {B : Type 0} → Layers B → ℕ
depth layers = length layers.below.items

-- the layers, newest first
abbrev pub stack : {B : Type 0} → Layers B → List Layer
stack layers = layers.newest ∷ reverse layers.below.items

-- a layer over others, newest first, leads to the current map from the one that was there when it was
-- pushed; the lowest leads from the base, and has no change that is none
abbrev pub Piles : Bytes → Layer → List Layer → Bytes → List Bytes → Type 0
Piles base layer [] current [] = LeadsTo base (change_at layer) current × IsLeast base (change_at layer)
Piles base layer [] current (map ∷ saved) = ⊥
Piles base layer (next ∷ layers) current [] = ⊥
Piles base layer (next ∷ layers) current (map ∷ saved) = LeadsTo map (change_at layer) current × Piles base next layers map saved

-- the base stands for the first of these maps, and the layers lead to the others
pub record Stands {B : Type 0} (S : B → Bytes → Type 0) (layers : Layers B) (maps : Maps) : Type 0 where
  pub of_base : S layers.base maps.base
  pub piled : Piles maps.base layers.newest (reverse layers.below.items) maps.current maps.saved

-- a call turned the layers into others: for all maps that they stood for, they stand for what the
-- function makes of these
abbrev pub Turns : {B : Type 0} → (B → Bytes → Type 0) → Layers B → Layers B → (Maps → Maps) → Type 0
Turns S old new turn = (maps : Maps) → Stands S old maps → Stands S new (turn maps)

-- the current map of some maps that the layers stand for
abbrev pub HasCurrent : {B : Type 0} → (B → Bytes → Type 0) → Layers B → Bytes → Type 0
HasCurrent S layers map = (maps : Maps) × Stands S layers maps × (maps.current ≡ map)
