use Rattle.std.proofs.Common.{sym, ap, subst, map}
use Rattle.kv_layers.specs.Rising.{change_view, KeysRise}
use Rattle.state_runs.proofs.run.Run.fitted.Goals as goal

pub invariant_of-result : goal.invariant_of-result
invariant_of-result c = record { rising = subst KeysRise (sym (ap (map change_view) c.shrink_to_fit.ensures.items)) c.args.self.rising }

pub returns : goal.returns
returns c = ap (map change_view) c.shrink_to_fit.ensures.items
