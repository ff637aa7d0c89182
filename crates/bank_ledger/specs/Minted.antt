-- The state of a chain that begins, and amounts that are added to it.
use Rattle.std.specs.Prelude.{ℕ, ◌≡◌, ◌+◌, List, if◌then◌else◌}
use Rattle.std.specs.Str.{bytes_eq}
use Rattle.chain_records.specs.Keys as keys
use Rattle.chain_records.specs.Records.{PlainFacts}
use Rattle.chain_records.specs.State.{Bytes, State, Spells}
use Rattle.chain_records.specs.Changes.{bare}
use Rattle.bank_ledger.specs.Accounts.{balance, supply}
use Rattle.bank_ledger.specs.Lawful.{HasLawfulAmounts}
use Rattle.bank_ledger.specs.Amounts.{with_more}

-- a chain with these facts and nothing else; the first code and the first instance get the number 1
abbrev pub opening : PlainFacts → State
opening f = bare f (record { next_code = 1; next_instance = 1 })

-- what an account has and the supply are higher by an amount
abbrev pub minted : State → List ℕ → List ℕ → ℕ → State
minted s to denom n = with_more (with_more s (keys.balance to denom) n) (keys.supply denom) n

-- the amount was added, and all else is as it was
pub record IsMinted (s : State) (to denom : List ℕ) (n : ℕ) (t : State) : Type 0 where
  pub state : t ≡ minted s to denom n
  pub balances : (addr other : List ℕ) → balance t addr other ≡ balance s addr other + (if bytes_eq denom other then (if bytes_eq to addr then n else 0) else 0)
  pub supplies : (other : List ℕ) → supply t other ≡ supply s other + (if bytes_eq denom other then n else 0)
  pub lawful : HasLawfulAmounts t

-- the map spells a state with lawful amounts
pub record HasLawfulRecords (map : Bytes) : Type 0 where
  pub state : State
  pub spelled : Spells map state
  pub lawful : HasLawfulAmounts state
