-- What the calls of the bank do to a state with lawful amounts, and what their stops tell.
use Rattle.std.specs.Prelude.{ℕ, ◌≡◌, ◌-◌, List, Option, None, Some, string_bytes}
use Rattle.coin_amounts.specs.Plain.{Coin}
use Rattle.chain_records.specs.State.{Bytes, State}
use Rattle.kv_layers.specs.declared.layers.Layers.{Layers}
use Rattle.kv_layers.specs.Layers.{Turns}
use Rattle.bank_ledger.specs.declared.stop.BankStop.{BankStop}
use Rattle.bank_ledger.specs.declared.stop.BankStop.TheVariants.{NotEnough, NoMemory}
use Rattle.bank_ledger.specs.Balances.{amount_in, moved, lowered, Shortfall, shortfall}
use Rattle.bank_ledger.specs.Accounts.{balance, supply, total, sent, burned}
use Rattle.bank_ledger.specs.Lawful.{HasLawfulAmounts}

-- the account had enough of each coin, which are now the other's, and nothing else is changed
pub record IsSent (s : State) (from to : List ℕ) (coins : List Coin) (t : State) : Type 0 where
  pub enough : shortfall (balance s) from coins ≡ None
  pub state : t ≡ sent s from to coins
  pub balances : (addr denom : List ℕ) → balance t addr denom ≡ moved (balance s) from to coins addr denom
  pub totals : (denom : List ℕ) → total t denom ≡ total s denom
  pub lawful : HasLawfulAmounts t

-- the account had enough of each coin, which are now gone, and nothing else is changed
pub record IsBurned (s : State) (from : List ℕ) (coins : List Coin) (t : State) : Type 0 where
  pub enough : shortfall (balance s) from coins ≡ None
  pub state : t ≡ burned s from coins
  pub balances : (addr denom : List ℕ) → balance t addr denom ≡ lowered (balance s) from coins addr denom
  pub supplies : (denom : List ℕ) → supply t denom ≡ supply s denom - amount_in coins denom
  pub totals : (denom : List ℕ) → total t denom ≡ total s denom - amount_in coins denom
  pub lawful : HasLawfulAmounts t

-- the stop is that of a shortfall; want of memory says nothing
abbrev pub IsStop : BankStop → Option Shortfall → Type 0
IsStop (NotEnough denom have want) short = short ≡ Some (record { denom = string_bytes denom; have = have; want = want })
IsStop NoMemory short = Unit {0}

-- of an answer, unless memory ran out
abbrev pub UnlessNoMemory : BankStop → Type 0 → Type 0
UnlessNoMemory (NotEnough denom have want) P = P
UnlessNoMemory NoMemory P = Unit {0}

-- nothing is changed, unless memory ran out
abbrev pub Leaves : {B : Type 0} → (B → Bytes → Type 0) → Layers B → Layers B → BankStop → Type 0
Leaves S old new stop = UnlessNoMemory stop (Turns S old new (λ maps. maps))
