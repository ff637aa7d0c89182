use Rattle.std.proofs.Common.{length}
use Rattle.kv_layers.proofs.merge.+next_change.Given as goal

abbrev pub decreases-next_change : goal.decreases-next_change
decreases-next_change l = length l.layers.now
