-- The layers stay lawful.
use Rattle.std.proofs.Common.{◌≡◌}
use Rattle.kv_layers.specs.Layers.{HasCurrent}
use Rattle.contract_admin.specs.Lawful.{HasLawful}
use Rattle.chain_tests.proofs.contracts.expect_all.Given as goal

abbrev pub invariant-loop-act : goal.invariant-loop-act
invariant-loop-act g l = HasLawful (HasCurrent (λ plain map. plain ≡ map) l.layers)
