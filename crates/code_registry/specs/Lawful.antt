-- Which codes and pins a state of the chain may have.
use Rattle.std.specs.Prelude.{ℕ, ◌≡◌, ◌<◌, ◌≤◌, ◌^◌, ◌↔◌, List, length, All, None, Some, IfSome}
use Rattle.std.specs.FinMap.{get, keys}
use Rattle.sha2.specs.Sha256.{sha256}
use Rattle.wasm_types.specs.Gate.{gate}
use Rattle.chain_records.specs.Keys.{IsAddress}
use Rattle.chain_records.specs.State.{Bytes, Code, State}
use Rattle.chain_records.specs.Spelled.{OfSome}

-- the number is that of a code
abbrev pub IsCodeId : State → ℕ → Type 0
IsCodeId s id = (1 ≤ id) × (id < s.counters.next_code)

-- the gate takes the code, its checksum is that of its bytes, and whoever is named there has an address
pub record IsLawfulCode (caps : List (List ℕ)) (code : Code) : Type 0 where
  pub taken : gate code.bytes caps ≡ None
  pub checksum : code.info.checksum ≡ sha256 code.bytes
  pub creator : IsAddress code.info.creator
  pub allowed : IfSome code.info.allow (All IsAddress)

-- codes are numbered from 1 without a gap, up to 2^32 - 1; 64 of them at most are pinned
pub record HasLawfulCodes (s : State) : Type 0 where
  pub first : 1 ≤ s.counters.next_code
  pub few : s.counters.next_code ≤ 2 ^ 32
  pub numbered : (id : ℕ) → ((code : Code) × (get s.codes id ≡ Some code)) ↔ IsCodeId s id
  pub codes : (id : ℕ) (code : Code) → get s.codes id ≡ Some code → IsLawfulCode s.facts.caps code
  pub pinned : (id : ℕ) → get s.pins id ≡ Some tt → IsCodeId s id
  pub few_pinned : length (keys s.pins) ≤ 64

-- one of the maps spells a state with lawful codes
abbrev pub HasLawful : (Bytes → Type 0) → Type 0
HasLawful S = OfSome S HasLawfulCodes
