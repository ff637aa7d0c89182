-- A contract's storage in the typed state of the chain.
use Rattle.std.specs.Prelude.{ℕ, ◌≡◌, ◌≤◌, List, ◌++◌, map, filter, length, not}
use Rattle.std.specs.Str.{bytes_eq}
use Rattle.std.specs.FinMap.{entries, from_entries}
use Rattle.chain_records.specs.State.{State, Spells}
use Rattle.kv_layers.specs.Bytes.{Bytes}
use Rattle.gas_store.specs.Storage.{storage_of, HasOthers}

-- what the state has of a contract's storage
abbrev pub storage_in : State → List ℕ → Bytes
storage_in s addr = from_entries (map (λ e. (e.0.1, e.1)) (filter (λ e. bytes_eq e.0.0 addr) (entries s.storage)))

-- the state with another storage of one contract
abbrev pub with_storage : State → List ℕ → Bytes → State
with_storage s addr storage =
    record s { storage = from_entries (map (λ e. ((addr, e.0), e.1)) (entries storage) ++ filter (λ e. not (bytes_eq e.0.0 addr)) (entries s.storage)) }

-- a map that spells a state has the contract's storage of that state
abbrev pub SpellsStorage : Type 0
SpellsStorage = (m : Bytes) (s : State) (addr : List ℕ) → length addr ≤ 255 → Spells m s → storage_of m addr ≡ storage_in s addr

-- where only a contract's own keys change, the map spells the state with this storage of the contract
abbrev pub SpellsChangedStorage : Type 0
SpellsChangedStorage =
    (old new : Bytes) (s : State) (addr : List ℕ) → length addr ≤ 255 → Spells old s → HasOthers addr old new → Spells new (with_storage s addr (storage_of new addr))
