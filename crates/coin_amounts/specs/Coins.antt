-- How a list of coins is read: the fault of its earliest place, or the coins in the order of their denoms.
use Rattle.std.specs.Prelude.{◌≡◌, ℕ, ◌^◌, ◌<◌, List, [], ◌∷◌, ◌++◌, length, map, fold, All, Option, Some, None, Result, Ok, Err, ◌==◌, if◌then◌else◌, unwrap_or, IsPermutation, bytes_eq, ⊤}
use Rattle.std.specs.Ordering.{nat_cmp, is_gt}
use Rattle.std.specs.Cmp.Lexicographic.{slice_cmp}
use Rattle.std.specs.List.{list_any}
use Rattle.coin_amounts.specs.declared.coins.Coins as coins_type
use Rattle.coin_amounts.specs.declared.read.CoinsFault.{CoinsFault}
use Rattle.coin_amounts.specs.declared.read.CoinsFault.TheVariants.{DenomBad, AmountBad, AmountZero, DenomTwice, NoMemory}
use Rattle.coin_amounts.specs.Plain.{Coin, RawCoin, coin_view}
use Rattle.coin_amounts.specs.Order.{IsRising, IsPositive}
use Rattle.coin_amounts.specs.Amount.{amount_of}
use Rattle.coin_amounts.specs.Denom.{is_denom, IsDenom}

-- the coins, in the list's order
abbrev pub coins_view : coins_type.Coins → List Coin
coins_view coins = map coin_view coins.list.items

-- the coin of a denom and the amount that was read, if one was
abbrev pub coin_with : ℕ → List ℕ → Option ℕ → Result Coin CoinsFault
coin_with place denom None = Err (AmountBad place)
coin_with place denom (Some amount) =
    if amount == 0 then Err (AmountZero place) else Ok (record { denom = denom; amount = amount })

-- the coin at a place, or what is wrong with it alone
abbrev pub coin_at : ℕ → RawCoin → Result Coin CoinsFault
coin_at place raw =
    if is_denom raw.denom then coin_with place raw.denom (amount_of raw.amount) else Err (DenomBad place)

-- the coins with one more at the end, whose denom none of them may have
abbrev pub with_coin : List Coin → Result Coin CoinsFault → Result (List Coin) CoinsFault
with_coin coins (Err fault) = Err fault
with_coin coins (Ok coin) =
    if list_any (λ other. bytes_eq coin.denom other.denom) coins then Err (DenomTwice (length coins)) else Ok (coins ++ coin ∷ [])

-- what was read so far, with the coin at the next place
abbrev pub with_next : Result (List Coin) CoinsFault → RawCoin → Result (List Coin) CoinsFault
with_next (Err fault) raw = Err fault
with_next (Ok coins) raw = with_coin coins (coin_at (length coins) raw)

-- the coins in the order of the list, or the fault of the earliest place
abbrev pub coins_in_place : List RawCoin → Result (List Coin) CoinsFault
coins_in_place raws = fold with_next (Ok []) raws

-- the coins with one more, which stands behind those with lower denoms
abbrev pub put_by_denom : List Coin → Coin → List Coin
put_by_denom [] coin = coin ∷ []
put_by_denom (other ∷ others) coin =
    if is_gt (slice_cmp nat_cmp coin.denom other.denom) then other ∷ put_by_denom others coin else coin ∷ other ∷ others

-- the coins in the order of their denoms
abbrev pub by_denom : Result (List Coin) CoinsFault → Result (List Coin) CoinsFault
by_denom (Err fault) = Err fault
by_denom (Ok coins) = Ok (fold put_by_denom [] coins)

abbrev pub coins_of : List RawCoin → Result (List Coin) CoinsFault
coins_of raws = by_denom (coins_in_place raws)

-- this fault was answered; want of memory says nothing
abbrev pub IsFaultOf : {T : Type 0} → CoinsFault → Result T CoinsFault → Type 0
IsFaultOf NoMemory outcome = ⊤
IsFaultOf (DenomBad place) outcome = outcome ≡ Err (DenomBad place)
IsFaultOf (AmountBad place) outcome = outcome ≡ Err (AmountBad place)
IsFaultOf (AmountZero place) outcome = outcome ≡ Err (AmountZero place)
IsFaultOf (DenomTwice place) outcome = outcome ≡ Err (DenomTwice place)

-- the coin that a raw coin with an amount stands for
abbrev pub coin_of : RawCoin → Coin
coin_of raw = record { denom = raw.denom; amount = unwrap_or (amount_of raw.amount) 0 }

-- what coins that were read from a list are
pub record AreLawful (raws : List RawCoin) (coins : List Coin) : Type 0 where
  pub rising : IsRising coins
  pub positive : IsPositive coins
  pub bounded : All (λ coin. coin.amount < 2 ^ 128) coins
  pub denoms : All (λ coin. IsDenom coin.denom) coins
  pub same : IsPermutation (map coin_of raws) coins

abbrev pub CoinsAreLawful : Type 0
CoinsAreLawful = (raws : List RawCoin) (coins : List Coin) → coins_of raws ≡ Ok coins → AreLawful raws coins
