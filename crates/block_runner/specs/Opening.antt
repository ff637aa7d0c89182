-- The state that a genesis opens a chain with, or the first that is wrong: an address, coins, or a supply.
use Rattle.std.specs.Prelude.{ℕ, ◌^◌, ◌&&◌, Bool, true, not, List, [], ◌∷◌, zip, fold, sum_by, nat_lt, Option, None, Some, option_map, option_and_then, ok_or, Result, Ok, Err, if◌then◌else◌}
use Rattle.std.specs.List.{list_all, list_any}
use Rattle.std.specs.Result.{result_ok}
use Rattle.std.specs.Str.{bytes_eq}
use Rattle.coin_amounts.specs.Plain.{Coin}
use Rattle.coin_amounts.specs.Coins.{coins_of}
use Rattle.chain_addr.specs.Address.{address_of}
use Rattle.chain_records.specs.Records.{PlainFacts}
use Rattle.chain_records.specs.State.{State}
use Rattle.chain_msgs.specs.Plain.{Genesis}
use Rattle.bank_ledger.specs.Balances.{amount_in}
use Rattle.bank_ledger.specs.Minted.{opening, minted}

pub data Fault : Type 0 where
  bad_address : Fault
  bad_coins : Fault
  bad_supply : Fault

infixl 10 ◌>>=◌
abbrev pub ◌>>=◌ : {A B : Type 0} → Result A Fault → (A → Result B Fault) → Result B Fault
Ok x >>= f = f x
Err fault >>= f = Err fault

-- each item, if all can be read
abbrev pub all_read : {A B : Type 0} → (A → Option B) → List A → Option (List B)
all_read read [] = Some []
all_read read (x ∷ xs) = option_and_then (λ y. option_map (λ ys. y ∷ ys) (all_read read xs)) (read x)

-- the value, where it passes a test
abbrev pub only : {A : Type 0} → (A → Bool) → A → Option A
only test x = if test x then Some x else None

-- an address that may be left out
abbrev pub optional_address : List ℕ → Option (List ℕ) → Option (Option (List ℕ))
optional_address prefix None = Some None
optional_address prefix (Some text) = option_map Some (address_of prefix text)

-- no address stands twice among these
abbrev pub are_unlike : List (List ℕ) → Bool
are_unlike [] = true
are_unlike (address ∷ addresses) = not (list_any (λ other. bytes_eq address other) addresses) && are_unlike addresses

-- ---- accounts

-- an address, and the coins that it holds
abbrev pub Account : Type 0
Account = List ℕ × List Coin

abbrev pub supply_of : List Account → List ℕ → ℕ
supply_of accounts denom = sum_by (λ account. amount_in account.1 denom) accounts

-- the supply of each denom fits 128 bits
abbrev pub fits : List Account → Bool
fits accounts = list_all (λ account. list_all (λ coin. nat_lt (supply_of accounts coin.denom) (2 ^ 128)) account.1) accounts

abbrev pub credited : State → Account → State
credited s account = fold (λ t coin. minted t account.0 coin.denom coin.amount) s account.1

abbrev pub all_credited : State → List Account → State
all_credited s accounts = fold credited s accounts

-- ---- the chain

abbrev pub facts_of : Genesis → Option (List ℕ) → PlainFacts
facts_of g authority = record {
  chain_id = g.chain_id;
  prefix = g.prefix;
  authority = authority;
  caps = g.capabilities;
  query_gas = g.query_gas;
  height = 0;
  time = g.time;
}

-- Addresses are looked at first, and told apart by their bytes; then all coins, and then the supplies.
unfoldable pub opened : Genesis → Result State Fault
opened g = do
  authority ← ok_or (optional_address g.prefix g.authority) bad_address
  addresses ← ok_or (all_read (λ h. address_of g.prefix h.0) g.balances) bad_address
  _ ← ok_or (only are_unlike addresses) bad_address
  coins ← ok_or (all_read (λ h. result_ok (coins_of h.1)) g.balances) bad_coins
  _ ← ok_or (only fits (zip addresses coins)) bad_supply
  Ok (all_credited (opening (facts_of g authority)) (zip addresses coins))
