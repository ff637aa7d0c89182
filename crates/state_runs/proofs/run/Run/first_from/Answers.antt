use Rattle.std.proofs.Common.{◌∙◌, map}
use Rattle.kv_layers.specs.Rising.{change_view}
use Rattle.state_runs.proofs.Places.{shown_at, shown-item, first-counted, first-all}
use Rattle.state_runs.proofs.run.Run.first_from.Goals as goal

pub returns-in-Some : goal.returns-in-Some
returns-in-Some c =
    let changes = c.args.self.now.changes.items in
    let got = rw (c.deref.ensures.value, c.count_below.ensures) at c.get.ensures.lookup in
    rw c.in-Some.is (shown-item changes _ c.get.result got ∙ first-counted c.in-Some.lo.now (map change_view changes))

pub returns-in-None : goal.returns-in-None
returns-in-None c =
    let changes = c.args.self.now.changes.items in
    let got = rw c.deref-in-None.ensures.value at c.first.ensures.value in
    rw c.in-None.is (shown_at changes 0 c.first.result got ∙ first-all (map change_view changes))
