-- Balances and supplies of the chain's state, and the state after coins were sent or burned. An amount of 0 has no record.
use Rattle.std.specs.Prelude.{ℕ, ◌-◌, List, [], ◌∷◌, ◌++◌, map, sum_by, filter, unwrap_or, ◌==◌, if◌then◌else◌}
use Rattle.std.specs.Str.{bytes_eq}
use Rattle.std.specs.declared.cmp.Ordering.{Ordering}
use Rattle.std.specs.FinMap.{FinMap, get, empty, insert, entries, keys}
use Rattle.coin_amounts.specs.Plain.{Coin}
use Rattle.chain_records.specs.State.{Addressed, State}
use Rattle.bank_ledger.specs.Balances.{amount_in, moved, lowered}

-- what an address has of a denom
abbrev pub balance : State → List ℕ → List ℕ → ℕ
balance s addr denom = unwrap_or (get s.balances (addr, denom)) 0

-- how much there is of a denom, by its record
abbrev pub supply : State → List ℕ → ℕ
supply s denom = unwrap_or (get s.supplies denom) 0

-- what an account counts for a denom
abbrev pub counted : List ℕ → Addressed × ℕ → ℕ
counted denom account = if bytes_eq account.0.1 denom then account.1 else 0

-- the sum of all balances of a denom
abbrev pub total : State → List ℕ → ℕ
total s denom = sum_by (counted denom) (entries s.balances)

-- all that an address has: denoms rise, as they do in the map
abbrev pub held : State → List ℕ → List Coin
held s addr = map (λ account. record { denom = account.0.1; amount = account.1 }) (filter (λ account. bytes_eq account.0.0 addr) (entries s.balances))

-- the amounts under these keys that aren't 0
abbrev pub amounts_at : {K : Type 0} {R : K → K → Ordering} → (K → ℕ) → List K → FinMap R ℕ
amounts_at amount [] = empty
amounts_at amount (key ∷ keys) = if amount key == 0 then amounts_at amount keys else insert (amounts_at amount keys) key (amount key)

-- the accounts that there were, and those of the coins' denoms at one more address
abbrev pub accounts_with : State → List ℕ → List Coin → List Addressed
accounts_with s to coins = keys s.balances ++ map (λ coin. (to, coin.denom)) coins

-- coins went from one address to another: balances are moved, and all else is as it was
abbrev pub sent : State → List ℕ → List ℕ → List Coin → State
sent s from to coins = record s { balances = amounts_at (λ account. moved (balance s) from to coins account.0 account.1) (accounts_with s to coins) }

-- coins of an address are gone: its balances and the supplies are lower, and all else is as it was
abbrev pub burned : State → List ℕ → List Coin → State
burned s from coins = record s {
  balances = amounts_at (λ account. lowered (balance s) from coins account.0 account.1) (keys s.balances);
  supplies = amounts_at (λ denom. supply s denom - amount_in coins denom) (keys s.supplies);
}
