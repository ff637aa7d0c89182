-- The state of the chain as maps with typed keys, and the map of bytes that spells it.
use Rattle.std.specs.Prelude.{ℕ, ◌≡◌, ◌≢◌, List, Option, Some, None}
use Rattle.std.specs.Option.{option_map}
use Rattle.std.specs.declared.cmp.Ordering.{Ordering}
use Rattle.std.specs.Ordering.{nat_cmp, ordering_then}
use Rattle.std.specs.Cmp.Lexicographic.{slice_cmp}
use Rattle.std.specs.FinMap.{FinMap, get}
use Rattle.chain_records.specs.declared.record.Counters.{Counters}
use Rattle.chain_records.specs.Keys.{PlainKey, key_bytes, IsKey, IsKeyOf}
use Rattle.chain_records.specs.Keys as keys
use Rattle.chain_records.specs.Records.{PlainFacts, PlainCodeInfo, PlainContract, PlainStored, facts, counters, amount, code_bytes, code_info, mark, contract, value, stored_bytes, IsRecord, IsRecordUnder}

-- keys and values in the order of the keys' bytes
abbrev pub Bytes : Type 0
Bytes = FinMap (slice_cmp nat_cmp) (List ℕ)

-- an address, and a denom or a key of its own
abbrev pub Addressed : Type 0
Addressed = List ℕ × List ℕ

abbrev pub addressed_cmp : Addressed → Addressed → Ordering
addressed_cmp one other = ordering_then (slice_cmp nat_cmp one.0 other.0) (slice_cmp nat_cmp one.1 other.1)

pub record Code : Type 0 where
  pub bytes : List ℕ
  pub info : PlainCodeInfo

pub record State : Type 0 where
  pub facts : PlainFacts
  pub counters : Counters
  pub balances : FinMap addressed_cmp ℕ
  pub supplies : FinMap (slice_cmp nat_cmp) ℕ
  pub codes : FinMap nat_cmp Code
  pub pins : FinMap nat_cmp (Unit {0})
  pub contracts : FinMap (slice_cmp nat_cmp) PlainContract
  pub storage : FinMap addressed_cmp (List ℕ)

-- the record that the state has under a key
unfoldable pub entry_of : State → PlainKey → Option PlainStored
entry_of s keys.facts = Some (facts s.facts)
entry_of s keys.counters = Some (counters s.counters)
entry_of s (keys.balance addr denom) = option_map amount (get s.balances (addr, denom))
entry_of s (keys.supply denom) = option_map amount (get s.supplies denom)
entry_of s (keys.code id) = option_map (λ c. code_bytes c.bytes) (get s.codes id)
entry_of s (keys.code_info id) = option_map (λ c. code_info c.info) (get s.codes id)
entry_of s (keys.pin id) = option_map (λ pin. mark) (get s.pins id)
entry_of s (keys.contract addr) = option_map contract (get s.contracts addr)
entry_of s (keys.storage addr key) = option_map value (get s.storage (addr, key))

-- the map has the bytes of each record under the bytes of its key, and nothing else
pub record Spells (map : Bytes) (s : State) : Type 0 where
  pub well_formed : (key : PlainKey) (stored : PlainStored) → entry_of s key ≡ Some stored → IsKey key × IsRecord stored
  pub same : (key : PlainKey) → IsKey key → get map (key_bytes key) ≡ option_map stored_bytes (entry_of s key)
  pub only : (bytes found : List ℕ) → get map bytes ≡ Some found → (key : PlainKey) × IsKeyOf bytes key

-- what is found under the bytes of a key is the record that the state has there
abbrev pub IsFound : PlainKey → Option (List ℕ) → Option PlainStored → Type 0
IsFound key None entry = entry ≡ None
IsFound key (Some bytes) entry = (stored : PlainStored) × (entry ≡ Some stored) × IsRecordUnder key bytes stored

-- the second state has this under the key, and all else as the first
pub record ChangesOnly (old new : State) (key : PlainKey) (entry : Option PlainStored) : Type 0 where
  pub changed : entry_of new key ≡ entry
  pub others : (other : PlainKey) → other ≢ key → entry_of new other ≡ entry_of old other
