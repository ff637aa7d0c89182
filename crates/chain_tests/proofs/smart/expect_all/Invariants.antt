-- The layers stay lawful, and one.
use Rattle.std.proofs.Common.{◌≡◌}
use Rattle.kv_layers.specs.Layers.{HasCurrent, depth}
use Rattle.query_router.specs.Lawful.{HasLawful}
use Rattle.chain_tests.proofs.smart.expect_all.Given as goal

abbrev pub invariant-loop-path : goal.invariant-loop-path
invariant-loop-path g l = record {
  lawful : HasLawful (HasCurrent (λ plain map. plain ≡ map) l.layers);
  layers : depth l.layers ≡ 0;
}
