-- The map still spells a state.
use Rattle.std.proofs.Common.{◌≡◌}
use Rattle.chain_records.specs.Spelled.{HasTyped}
use Rattle.chain_tests.proofs.pins.pinned_ids_rise.Given as goal

abbrev pub invariant-loop-id : goal.invariant-loop-id
invariant-loop-id g l = HasTyped (λ map. l.plain ≡ map)
