-- No layer comes or goes.
use Rattle.std.proofs.Common.{◌≡◌}
use Rattle.kv_layers.specs.Layers.{depth}
use Rattle.bench_kernels.proofs.state.change.Given as goal

abbrev pub invariant-loop-turn : goal.invariant-loop-turn
invariant-loop-turn g l = depth l.layers ≡ depth l.fn.layers
