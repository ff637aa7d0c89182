use Rattle.std.proofs.Common.{◌≡◌, suc, ◌-◌, sym, ◌∙◌, map, length, arith}
use Rattle.std.proofs.lemmas.List.{length-map}
use Rattle.kv_layers.specs.Rising.{change_view}
use Rattle.state_runs.proofs.Places.{shown_at, shown-item, last-counted, last-counted_none, last-all}
use Rattle.state_runs.proofs.run.Run.last_below.Goals as goal

pub returns-in_err-checked_sub-in-Some : goal.returns-in_err-checked_sub-in-Some
returns-in_err-checked_sub-in-Some c =
    let changes = map change_view c.args.self.now.changes.items in
    let none : c.count_below.result ≡ 0 = omega (arith, c.in_err-checked_sub-in-Some.ensures) in
    rw (c.from_residual.ensures, c.in-Some.is) (sym (last-counted_none c.in-Some.hi.now changes (sym c.count_below.ensures ∙ none)))

pub returns-in_ok-checked_sub-in-Some : goal.returns-in_ok-checked_sub-in-Some
returns-in_ok-checked_sub-in-Some c =
    let changes = c.args.self.now.changes.items in
    let place = c.in_ok-checked_sub-in-Some.field-0 in
    let got = rw c.deref.ensures.value at c.get.ensures.lookup in
    let one_less : c.count_below.result ≡ suc c.in_ok-checked_sub-in-Some.field-0 = omega (arith, c.in_ok-checked_sub-in-Some.ensures) in
    rw c.in-Some.is (shown-item changes place c.get.result got ∙ last-counted c.in-Some.hi.now (map change_view changes) place (sym c.count_below.ensures ∙ one_less))

pub returns-in-None : goal.returns-in-None
returns-in-None c =
    let changes = c.args.self.now.changes.items in
    let got = rw c.deref-in-None.ensures.value at c.last.ensures.value in
    rw c.in-None.is (shown_at changes (length changes - 1) c.last.result got ∙ last-all (map change_view changes) (length changes - 1) (simp length-map))
