use Rattle.std.proofs.Common.{◌≡◌}
use Rattle.chain_tests.proofs.Storing.{codes_of, after_pinned}
use Rattle.chain_tests.proofs.stored.pin_all.Goals as goal

pub pin-requires : goal.pin-requires
pin-requires c = codes_of c.requires.lawful

pub returns-clause-lawful : goal.returns-clause-lawful
returns-clause-lawful c = after_pinned (λ plain map. plain ≡ map) c.args.layers.now c.pin.new.layers _ c.args.ids.now c.in_ok-pin.ensures.pinned c.requires.lawful
