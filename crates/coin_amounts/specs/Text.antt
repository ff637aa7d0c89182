-- The text of coins: each coin's amount in decimal and its denom, joined by commas.
use Rattle.std.specs.Prelude.{ℕ, List, ◌++◌, map, decimal}
use Rattle.std.specs.List.{join_with_byte}
use Rattle.coin_amounts.specs.Plain.{Coin}

abbrev pub coin_text : Coin → List ℕ
coin_text coin = decimal coin.amount ++ coin.denom

-- 44 is the comma
abbrev pub coins_text : List Coin → List ℕ
coins_text coins = join_with_byte 44 (map coin_text coins)
