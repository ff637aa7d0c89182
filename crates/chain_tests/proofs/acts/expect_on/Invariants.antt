-- The layers stay lawful.
use Rattle.std.proofs.Common.{◌≡◌}
use Rattle.kv_layers.specs.Layers.{HasCurrent}
use Rattle.query_router.specs.Lawful.{HasLawful}
use Rattle.chain_tests.proofs.acts.expect_on.Given as goal

abbrev pub invariant-loop-act : goal.invariant-loop-act
invariant-loop-act g l = HasLawful (HasCurrent (λ plain map. plain ≡ map) l.layers)
