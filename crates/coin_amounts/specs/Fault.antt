-- What the fault of a list of coins says: the coins before its place can be read, and what is wrong there.
use Rattle.std.specs.Prelude.{◌≡◌, ◌<◌, false, List, ◌∷◌, ◌++◌, length, Any, None, Some, IsOk, IsSomeAnd, Err}
use Rattle.coin_amounts.specs.declared.read.CoinsFault.{CoinsFault}
use Rattle.coin_amounts.specs.declared.read.CoinsFault.TheVariants.{DenomBad, AmountBad, AmountZero, DenomTwice, NoMemory}
use Rattle.coin_amounts.specs.Plain.{RawCoin}
use Rattle.coin_amounts.specs.Amount.{amount_of}
use Rattle.coin_amounts.specs.Denom.{is_denom, IsDenom}
use Rattle.coin_amounts.specs.Coins.{coins_of}

-- what is wrong with a coin that stands after others: the place is their number
abbrev pub IsWrong : List RawCoin → RawCoin → CoinsFault → Type 0
IsWrong before raw (DenomBad place) = (place ≡ length before) × (is_denom raw.denom ≡ false)
IsWrong before raw (AmountBad place) = (place ≡ length before) × IsDenom raw.denom × (amount_of raw.amount ≡ None)
IsWrong before raw (AmountZero place) = (place ≡ length before) × IsDenom raw.denom × (amount_of raw.amount ≡ Some 0)
IsWrong before raw (DenomTwice place) =
    (place ≡ length before) × IsDenom raw.denom × IsSomeAnd (amount_of raw.amount) (λ amount. 0 < amount)
    × Any (λ other. other.denom ≡ raw.denom) before
IsWrong before raw NoMemory = ⊥

-- the fault is that of the earliest place
pub record IsFirstFault (raws : List RawCoin) (fault : CoinsFault) : Type 0 where
  pub before : List RawCoin
  pub raw : RawCoin
  pub after : List RawCoin
  pub split : raws ≡ before ++ raw ∷ after
  pub read : IsOk (coins_of before)
  pub wrong : IsWrong before raw fault

abbrev pub FaultsComeFirst : Type 0
FaultsComeFirst = (raws : List RawCoin) (fault : CoinsFault) → coins_of raws ≡ Err fault → IsFirstFault raws fault
