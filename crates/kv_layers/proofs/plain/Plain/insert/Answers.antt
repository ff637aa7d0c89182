use Rattle.kv_layers.proofs.Maps.{map_of-insert}
use Rattle.kv_layers.proofs.plain.Plain.insert.Goals as goal

pub returns-clause-ok : goal.returns-clause-ok
returns-clause-ok c = rw (← c.self.view_is) (map_of-insert c.self.inside.entries c.insert.new.self c.args.key c.args.value c.in_ok-insert.ensures.updates)
