use Rattle.std.proofs.Common.{map}
use Rattle.coin_amounts.specs.Plain.{raw_coin_view}
use Rattle.coin_amounts.proofs.Reading.{ReadsSoFar}
use Rattle.coin_amounts.proofs.read.read_coins.Given as goal

abbrev pub invariant-loop-place : goal.invariant-loop-place
invariant-loop-place l = ReadsSoFar (map raw_coin_view l.list) l.place l.amounts.entries
