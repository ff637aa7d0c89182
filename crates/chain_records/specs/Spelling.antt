-- When a map of bytes spells some state.
use Rattle.std.specs.Prelude.{ℕ, ◌≡◌, ◌<◌, ◌^◌, List, Some}
use Rattle.std.specs.Option.{is_some}
use Rattle.std.specs.FinMap.{get}
use Rattle.chain_records.specs.Keys.{PlainKey, key_bytes, IsKeyOf}
use Rattle.chain_records.specs.Keys as keys
use Rattle.chain_records.specs.Records.{PlainStored, IsRecordUnder}
use Rattle.chain_records.specs.State.{Bytes}

-- the bytes of an entry are those of a key and of a record that belongs there
pub record IsEntry (bytes found : List ℕ) : Type 0 where
  pub key : PlainKey
  pub stored : PlainStored
  pub is_key : IsKeyOf bytes key
  pub is_record : IsRecordUnder key found stored

-- something is written under the key
abbrev pub IsThere : Bytes → PlainKey → Type 0
IsThere map key = (found : List ℕ) × (get map (key_bytes key) ≡ Some found)

-- all entries are of keys and records, there are facts and counters, and a code has its info exactly where it has its bytes
pub record IsSpelling (map : Bytes) : Type 0 where
  pub entries : (bytes found : List ℕ) → get map bytes ≡ Some found → IsEntry bytes found
  pub facts : IsThere map keys.facts
  pub counters : IsThere map keys.counters
  pub codes : (id : ℕ) → id < 2 ^ 64 → is_some (get map (key_bytes (keys.code id))) ≡ is_some (get map (key_bytes (keys.code_info id)))
