-- The plain forms of coins: a list of bytes in place of each text.
use Rattle.std.specs.Prelude.{ℕ, List, string_bytes}
use Rattle.coin_amounts.specs.declared.coin.Coin as coin_type
use Rattle.coin_amounts.specs.declared.coin.RawCoin as raw_type

pub record Coin : Type 0 where
  pub denom : List ℕ
  pub amount : ℕ

pub record RawCoin : Type 0 where
  pub denom : List ℕ
  pub amount : List ℕ

abbrev pub coin_view : coin_type.Coin → Coin
coin_view coin = record { denom = string_bytes coin.denom; amount = coin.amount }

abbrev pub raw_coin_view : raw_type.RawCoin → RawCoin
raw_coin_view coin = record { denom = string_bytes coin.denom; amount = string_bytes coin.amount }
