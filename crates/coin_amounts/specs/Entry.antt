-- Not for readers of contracts: it serves the proofs of this crate alone.
-- An entry of a map from denoms to amounts, as a coin.
use Rattle.std.specs.Prelude.{ℕ, String}
use Rattle.std.specs.declared.alloc.Global.{Global}
use Rattle.coin_amounts.specs.declared.coin.Coin.{Coin}

abbrev pub coin_from : String Global × ℕ → Coin
coin_from entry = record { denom = entry.0; amount = entry.1 }
