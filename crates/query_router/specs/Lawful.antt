-- Which states a chain can have.
use Rattle.std.specs.Prelude.{ℕ, ◌≡◌, List, IfSome}
use Rattle.chain_addr.specs.Letters.{IsPrefix}
use Rattle.chain_records.specs.Keys.{IsAddress}
use Rattle.chain_records.specs.State.{Bytes, State}
use Rattle.chain_records.specs.Spelled.{OfSome, OfEach}
use Rattle.bank_ledger.specs.Lawful.{HasLawfulAmounts}
use Rattle.code_registry.specs.Lawful.{HasLawfulCodes}
use Rattle.contract_admin.specs.Lawful.{HasLawfulContracts}

-- of each crate that changes the state its part, and the chain's prefix and its authority
pub record IsLawful (s : State) : Type 0 where
  pub prefix : IsPrefix s.facts.prefix
  pub authority : IfSome s.facts.authority IsAddress
  pub amounts : HasLawfulAmounts s
  pub codes : HasLawfulCodes s
  pub contracts : HasLawfulContracts s

-- one of the maps spells a lawful state
abbrev pub HasLawful : (Bytes → Type 0) → Type 0
HasLawful S = OfSome S IsLawful

-- of each lawful state that one of the maps spells
abbrev pub OfEachLawful : (Bytes → Type 0) → (State → Type 0) → Type 0
OfEachLawful S P = OfEach S (λ s. IsLawful s → P s)

-- one of the maps spells a lawful state whose addresses have this prefix
abbrev pub HasLawfulUnder : List ℕ → (Bytes → Type 0) → Type 0
HasLawfulUnder prefix S = OfSome S (λ s. IsLawful s × (s.facts.prefix ≡ prefix))
