-- Not for readers of contracts: it serves the proofs of this crate alone.
-- Sends and burns coin by coin, and the coins that an address has one after another.
use Rattle.std.specs.Prelude.{ℕ, ◌≡◌, ◌+◌, ◌-◌, ◌<◌, ◌≤◌, ◌^◌, true, List, map, Option, None, Some}
use Rattle.std.specs.Ordering.{nat_cmp, is_le, is_lt}
use Rattle.std.specs.Cmp.Lexicographic.{slice_cmp}
use Rattle.std.specs.FinMap.{get}
use Rattle.std.specs.Global.{Vec}
use Rattle.coin_amounts.specs.declared.coin.Coin as coin_type
use Rattle.coin_amounts.specs.Plain.{Coin, coin_view}
use Rattle.coin_amounts.specs.Denom.{IsDenom}
use Rattle.chain_records.specs.Keys.{PlainKey, IsKey, key_bytes, IsKeyOf}
use Rattle.chain_records.specs.Keys as keys
use Rattle.chain_records.specs.Records.{amount, IsRecordUnder}
use Rattle.chain_records.specs.State.{State}
use Rattle.bank_ledger.specs.Balances.{Balances}
use Rattle.bank_ledger.specs.Accounts.{balance, supply}
use Rattle.bank_ledger.specs.Amounts.{amount_under, with_amount, with_more}

-- a key of a balance or of a supply
abbrev pub IsAmountKey : PlainKey → Type 0
IsAmountKey (keys.balance addr denom) = IsKey (keys.balance addr denom)
IsAmountKey (keys.supply denom) = IsKey (keys.supply denom)
IsAmountKey key = ⊥

abbrev pub with_less : State → PlainKey → ℕ → State
with_less s key n = with_amount s key (amount_under s key - n)

-- ---- coin by coin

-- what an account has of a coin's denom without the coin
abbrev pub left_after : Balances → List ℕ → Coin → ℕ
left_after balances from coin = balances from coin.denom - coin.amount

-- the same for each of some coins
abbrev pub amounts_left : Balances → List ℕ → List Coin → List ℕ
amounts_left balances from coins = map (left_after balances from) coins

-- an account has this much left of a coin's denom
abbrev pub leaving : State → List ℕ → Coin → ℕ → State
leaving s from coin left = with_amount s (keys.balance from coin.denom) left

-- an account has more by a coin
abbrev pub given : State → List ℕ → Coin → State
given s to coin = with_more s (keys.balance to coin.denom) coin.amount

-- the supply is lower by a coin
abbrev pub drained : State → Coin → State
drained s coin = with_less s (keys.supply coin.denom) coin.amount

abbrev pub sent_leaving : State → List ℕ → List ℕ → Coin → ℕ → State
sent_leaving s from to coin left = given (leaving s from coin left) to coin

abbrev pub burned_leaving : State → List ℕ → Coin → ℕ → State
burned_leaving s from coin left = drained (leaving s from coin left) coin

-- the other account has room for the coin, where the one has this much left
abbrev pub CanSend : List ℕ → List ℕ → Coin → ℕ → State → Type 0
CanSend from to coin left s = balance (leaving s from coin left) to coin.denom + coin.amount < 2 ^ 128

-- the supply has the coin
abbrev pub CanBurn : Coin → State → Type 0
CanBurn coin s = coin.amount ≤ supply s coin.denom

-- ---- what an address has, coin by coin

-- the first coin of an address whose denom isn't below a bound, with the bytes of its key; or nothing where there is none
abbrev pub IsNextHeld : State → List ℕ → List ℕ → Option (List ℕ × Coin) → Type 0
IsNextHeld s addr lo None = (denom : List ℕ) → is_le (slice_cmp nat_cmp lo denom) ≡ true → get s.balances (addr, denom) ≡ None
IsNextHeld s addr lo (Some (key, coin)) =
    (key ≡ key_bytes (keys.balance addr coin.denom))
    × (is_le (slice_cmp nat_cmp lo coin.denom) ≡ true) × (get s.balances (addr, coin.denom) ≡ Some coin.amount) × IsDenom coin.denom
    × ((denom : List ℕ) → is_le (slice_cmp nat_cmp lo denom) ≡ true → is_lt (slice_cmp nat_cmp denom coin.denom) ≡ true → get s.balances (addr, denom) ≡ None)

abbrev pub found_view : Vec ℕ × coin_type.Coin → List ℕ × Coin
found_view found = (found.0.items, coin_view found.1)

-- the bytes are those of the key of a balance and of an amount
pub record IsBalance (place bytes : List ℕ) (coin : Coin) : Type 0 where
  pub addr : List ℕ
  pub key : IsKeyOf place (keys.balance addr coin.denom)
  pub amount : IsRecordUnder (keys.balance addr coin.denom) bytes (amount coin.amount)
