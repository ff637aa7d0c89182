-- Which contracts a state of the chain may have.
use Rattle.std.specs.Prelude.{◌≡◌, List, ℕ, Some, IfSome}
use Rattle.std.specs.FinMap.{get}
use Rattle.chain_records.specs.Keys.{IsAddress}
use Rattle.chain_records.specs.Records.{PlainContract}
use Rattle.chain_records.specs.State.{Bytes, Code, State}
use Rattle.chain_records.specs.Spelled.{OfSome}

-- there is a code with its id, and whoever is named there has an address
pub record IsLawfulContract (s : State) (c : PlainContract) : Type 0 where
  pub code : (code : Code) × (get s.codes c.code_id ≡ Some code)
  pub creator : IsAddress c.creator
  pub admin : IfSome c.admin IsAddress

-- each contract has a code, and all that have one or a storage have an address
pub record HasLawfulContracts (s : State) : Type 0 where
  pub contracts : (addr : List ℕ) (c : PlainContract) → get s.contracts addr ≡ Some c → IsAddress addr × IsLawfulContract s c
  pub storage : (addr key value : List ℕ) → get s.storage (addr, key) ≡ Some value → IsAddress addr

-- one of the maps spells a state with lawful contracts
abbrev pub HasLawful : (Bytes → Type 0) → Type 0
HasLawful S = OfSome S HasLawfulContracts
