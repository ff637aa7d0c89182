use Rattle.std.proofs.Common.{sym, ap, subst, map}
use Rattle.kv_layers.specs.Rising.{change_view, KeysRise}
use Rattle.state_runs.proofs.Lists.{rising_none}
use Rattle.state_runs.proofs.run.Run.empty.Goals as goal

pub invariant_of-result : goal.invariant_of-result
invariant_of-result c = record { rising = subst KeysRise (sym (ap (map change_view) c.new.ensures.items)) rising_none }
