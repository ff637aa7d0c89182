use Rattle.std.specs.List.Sorted.{IsStrictlySortedBy}
use Rattle.coin_amounts.proofs.coins.Coins.new.Goals as goal

pub invariant_of-result-clause-rising : goal.invariant_of-result-clause-rising
unfolding IsStrictlySortedBy
invariant_of-result-clause-rising c = rw c.new.ensures.items tt
