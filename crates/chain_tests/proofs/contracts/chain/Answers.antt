use Rattle.std.proofs.Common.{refl}
use Rattle.kv_layers.specs.Maps.{new_maps}
use Rattle.chain_tests.proofs.contracts.chain.Goals as goal

pub returns : goal.returns
returns c = let t = c.in_ok-put_code.ensures.lawful in record { map = t.map; state = t.state; stands = (new_maps t.map, c.new-2.ensures.maps t.map t.stands, refl); spelled = t.spelled; holds = t.holds.0 }
