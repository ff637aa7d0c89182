-- Not for readers of contracts: it serves the proofs of this crate alone.
-- Pins one after another, in the order of their keys; ids that are given; and a code that is written.
use Rattle.std.specs.Prelude.{ℕ, ◌≡◌, ◌<◌, ◌≤◌, ◌^◌, Bool, false, List, [], ◌∷◌, Option, None, Some, nat_le, nat_lt, ◌&&◌, if◌then◌else◌}
use Rattle.std.specs.Ordering.{nat_cmp, is_le}
use Rattle.std.specs.Cmp.Lexicographic.{slice_cmp}
use Rattle.std.specs.FinMap.{get}
use Rattle.std.specs.Global.{Vec}
use Rattle.chain_records.specs.Keys.{PlainKey, key_bytes, IsKeyOf, pin}
use Rattle.chain_records.specs.Order.{kind}
use Rattle.chain_records.specs.declared.record.Counters.{Counters}
use Rattle.chain_records.specs.State.{Bytes, Code, State, Spells}
use Rattle.chain_records.specs.Changes.{with_code}
use Rattle.kv_layers.specs.declared.layers.Layers.{Layers}
use Rattle.kv_layers.specs.Layers.{Stands}
use Rattle.kv_layers.specs.Maps.{Maps, changed}

-- from these bytes on stand the keys of pins from this number on, and no keys of kinds before pins
pub record IsPlace (place : List ℕ) (from : ℕ) : Type 0 where
  pub pins : (id : ℕ) → id < 2 ^ 64 → is_le (slice_cmp nat_cmp place (key_bytes (pin id))) ≡ is_le (nat_cmp from id)
  pub kinds : (key : PlainKey) → kind key < 6 → is_le (slice_cmp nat_cmp place (key_bytes key)) ≡ false

-- the first pinned id from one on, with the bytes of its key; or nothing where there is none
abbrev pub IsNextPin : State → ℕ → Option (List ℕ × ℕ) → Type 0
IsNextPin s from None = (id : ℕ) → from ≤ id → get s.pins id ≡ None
IsNextPin s from (Some (key, id)) =
    IsKeyOf key (pin id) × (from ≤ id) × (get s.pins id ≡ Some tt)
    × ((other : ℕ) → from ≤ other → other < id → get s.pins other ≡ None)

abbrev pub found_view : Vec ℕ × ℕ → List ℕ × ℕ
found_view found = (found.0.items, found.1)

-- the id is from 1 on and below the next one
abbrev pub is_given : ℕ → ℕ → Bool
is_given next id = nat_le 1 id && nat_lt id next

-- the first id of a list that isn't
abbrev pub first_outside : ℕ → List ℕ → Option ℕ
first_outside next [] = None
first_outside next (id ∷ ids) = if is_given next id then first_outside next ids else Some id

-- whichever state with these counters the map spells, the layers then stand for a map that spells it with a code more
abbrev pub PutsCode : {B : Type 0} → (B → Bytes → Type 0) → Layers B → Layers B → Counters → Code → Type 0
PutsCode S old new given code =
    (maps : Maps) (s : State) → Stands S old maps → Spells maps.current s → given ≡ s.counters
    → (map : Bytes) × Stands S new (changed maps map) × Spells map (with_code s code)
