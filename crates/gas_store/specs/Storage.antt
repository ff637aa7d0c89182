-- What one contract keeps: a map from its own keys to values. In the map of the chain each key stands behind the same bytes, which
-- tell that it is a contract's and whose.
use Rattle.std.specs.Prelude.{ℕ, ◌≡◌, ◌≢◌, List, [], map, filter, take, drop, length}
use Rattle.std.specs.Str.{bytes_eq}
use Rattle.std.specs.FinMap.{get, entries, from_entries}
use Rattle.chain_records.specs.Keys.{key_bytes}
use Rattle.chain_records.specs.Keys as keys
use Rattle.kv_layers.specs.Bytes.{Bytes}

-- the bytes before each key of a contract
abbrev pub prefix_of : List ℕ → List ℕ
prefix_of addr = key_bytes (keys.storage addr [])

-- the entries of a map whose keys begin with the contract's bytes, under what comes behind these
abbrev pub storage_of : Bytes → List ℕ → Bytes
storage_of m addr =
    from_entries
    (map (λ e. (drop (length (prefix_of addr)) e.0, e.1)) (filter (λ e. bytes_eq (take (length (prefix_of addr)) e.0) (prefix_of addr)) (entries m)))

-- no key of the contract is spelled so
abbrev pub IsOther : List ℕ → List ℕ → Type 0
IsOther addr place = (key : List ℕ) → place ≢ key_bytes (keys.storage addr key)

-- the second map has all that isn't the contract's as the first
abbrev pub HasOthers : List ℕ → Bytes → Bytes → Type 0
HasOthers addr old new = (place : List ℕ) → IsOther addr place → get new place ≡ get old place
