-- Which amounts a state of the chain may have.
use Rattle.std.specs.Prelude.{ℕ, ◌≡◌, ◌<◌, ◌^◌, List, Some}
use Rattle.std.specs.FinMap.{get}
use Rattle.coin_amounts.specs.Denom.{IsDenom}
use Rattle.chain_records.specs.Keys.{IsAddress}
use Rattle.chain_records.specs.State.{Bytes, State}
use Rattle.chain_records.specs.Spelled.{OfSome}
use Rattle.bank_ledger.specs.Accounts.{supply, total}

-- each supply is the sum of its balances and has 128 bits; no record is of 0, of no denom or of no address
pub record HasLawfulAmounts (s : State) : Type 0 where
  pub sums : (denom : List ℕ) → supply s denom ≡ total s denom
  pub bounded : (denom : List ℕ) → supply s denom < 2 ^ 128
  pub accounts : (addr denom : List ℕ) (n : ℕ) → get s.balances (addr, denom) ≡ Some n → (0 < n) × IsDenom denom × IsAddress addr
  pub supplies : (denom : List ℕ) (n : ℕ) → get s.supplies denom ≡ Some n → (0 < n) × IsDenom denom

-- one of the maps spells a state with lawful amounts
abbrev pub HasLawful : (Bytes → Type 0) → Type 0
HasLawful S = OfSome S HasLawfulAmounts
