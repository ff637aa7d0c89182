-- The layers stay lawful.
use Rattle.std.proofs.Common.{◌≡◌}
use Rattle.kv_layers.specs.Layers.{HasCurrent}
use Rattle.bank_ledger.specs.Lawful.{HasLawful}
use Rattle.state_tests.proofs.bank.expect_all.Given as goal

abbrev pub invariant-loop-act : goal.invariant-loop-act
invariant-loop-act g l = HasLawful (HasCurrent (λ plain map. plain ≡ map) l.layers)
