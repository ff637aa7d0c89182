-- What accounts hold, as a function of address and denom, and what moving and burning coins does to it (the bank's `send` and
-- `burn`). An account that has nothing holds 0.
use Rattle.std.specs.Prelude.{ℕ, ◌+◌, ◌-◌, List, [], ◌∷◌, Option, None, Some, sum_by, nat_le, if◌then◌else◌}
use Rattle.std.specs.Str.{bytes_eq}
use Rattle.coin_amounts.specs.Plain.{Coin}

-- what each address holds of each denom
abbrev pub Balances : Type 0
Balances = List ℕ → List ℕ → ℕ

-- what a coin has of a denom
abbrev pub share : List ℕ → Coin → ℕ
share denom coin = if bytes_eq coin.denom denom then coin.amount else 0

abbrev pub amount_in : List Coin → List ℕ → ℕ
amount_in coins denom = sum_by (share denom) coins

-- what a party gives or is given, where it is at this address
abbrev pub part : List ℕ → List ℕ → List Coin → List ℕ → ℕ
part party addr coins denom = if bytes_eq party addr then amount_in coins denom else 0

-- the one has less by the coins, and the other more; moving to oneself changes nothing
abbrev pub moved : Balances → List ℕ → List ℕ → List Coin → Balances
moved balances from to coins = λ addr denom. balances addr denom - part from addr coins denom + part to addr coins denom

-- the one has less by the coins
abbrev pub lowered : Balances → List ℕ → List Coin → Balances
lowered balances from coins = λ addr denom. balances addr denom - part from addr coins denom

-- a denom of which an account has less than is wanted
pub record Shortfall : Type 0 where
  pub denom : List ℕ
  pub have : ℕ
  pub want : ℕ

-- the first of the coins that the account has too little of
abbrev pub shortfall : Balances → List ℕ → List Coin → Option Shortfall
shortfall balances from [] = None
shortfall balances from (coin ∷ coins) =
    if nat_le coin.amount (balances from coin.denom) then shortfall balances from coins
    else Some (record { denom = coin.denom; have = balances from coin.denom; want = coin.amount })
