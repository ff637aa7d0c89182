use Rattle.std.proofs.Common.{sym, ap, ◌∙◌, not}
use Rattle.kv_layers.proofs.Keys.{from-not_below}
use Rattle.kv_layers.proofs.bounds.is_from.Goals as goal

pub returns-in-Some : goal.returns-in-Some
returns-in-Some c = rw c.in-Some.is (ap not c.comes_before.ensures ∙ sym (from-not_below c.in-Some.lo.now c.args.key.now))
