use Rattle.std.proofs.Common.{refl}
use Rattle.kv_layers.specs.Maps.{new_maps}
use Rattle.chain_tests.proofs.chain.chain.Goals as goal

pub returns-clause-lawful : goal.returns-clause-lawful
returns-clause-lawful c = let t = c.in_ok-plain.ensures in record { map = t.map; state = t.state; stands = (new_maps t.map, c.new.ensures.maps t.map t.stands, refl); spelled = t.spelled; holds = t.holds }
