-- What holds of each value of `Coins`: the denoms rise by their bytes, and the amounts are above 0.
use Rattle.std.specs.Prelude.{◌<◌, List, map, All}
use Rattle.std.specs.Ordering.{nat_cmp}
use Rattle.std.specs.Cmp.Lexicographic.{slice_cmp}
use Rattle.std.specs.List.Sorted.{IsStrictlySortedBy, IsStrictlySortedBy-prop}
use Rattle.coin_amounts.specs.Plain.{Coin}

abbrev pub IsRising : List Coin → Type 0
IsRising coins = IsStrictlySortedBy (slice_cmp nat_cmp) (map (λ coin. coin.denom) coins)

abbrev pub IsPositive : List Coin → Type 0
IsPositive coins = All (λ coin. 0 < coin.amount) coins

-- there is one proof at most that the denoms rise
pub IsRising-prop : (coins : List Coin) → IsProp (IsRising coins)
IsRising-prop coins = IsStrictlySortedBy-prop (slice_cmp nat_cmp) (map (λ (coin : Coin). coin.denom) coins)
