-- Not for readers of contracts: it serves the proofs of this crate alone.
-- One record written or removed, whichever state the map spells.
use Rattle.std.specs.Prelude.{Option}
use Rattle.kv_layers.specs.declared.layers.Layers.{Layers}
use Rattle.kv_layers.specs.Layers.{Stands}
use Rattle.kv_layers.specs.Maps.{Maps, changed}
use Rattle.chain_records.specs.Keys.{PlainKey}
use Rattle.chain_records.specs.Records.{PlainStored}
use Rattle.chain_records.specs.State.{Bytes, State, Spells, ChangesOnly}

-- the layers stand for a map that spells the state which has this under the key, and all else as before
abbrev pub Puts : {B : Type 0} → (B → Bytes → Type 0) → Layers B → Layers B → PlainKey → Option PlainStored → Type 0
Puts S old new key entry =
    (maps : Maps) (s t : State) → Stands S old maps → Spells maps.current s → ChangesOnly s t key entry
    → (map : Bytes) × Stands S new (changed maps map) × Spells map t
