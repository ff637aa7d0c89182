use Rattle.std.proofs.Common.{length}
use Rattle.kv_layers.proofs.layer.+newest_change.Given as goal

abbrev pub decreases-newest_change : goal.decreases-newest_change
decreases-newest_change l = length l.layers.now
