use Rattle.std.proofs.Common.{refl}
use Rattle.kv_layers.specs.Maps.{new_maps}
use Rattle.state_tests.proofs.bank.layered.Goals as goal

pub returns : goal.returns
returns c = record { map = c.args.plain; state = c.requires.state; stands = (new_maps c.args.plain, c.new.ensures.maps c.args.plain refl, refl); spelled = c.requires.spelled; holds = c.requires.lawful }
