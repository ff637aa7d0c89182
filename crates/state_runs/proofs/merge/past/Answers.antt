use Rattle.std.proofs.Common.{◌∷◌, cond, refl, sym, ap, ◌∙◌, map}
use Rattle.kv_layers.specs.Rising.{change_view}
use Rattle.state_runs.proofs.Copying.{none-left}
use Rattle.state_runs.proofs.merge.past.Goals as goal

pub returns-in_default : goal.returns-in_default
returns-in_default c =
    let none = none-left c.args.older.now c.in_default.ensures.cases in
    rw none refl

pub returns-then-is_at : goal.returns-then-is_at
returns-then-is_at c =
    let change = c.in-Some.change.now in
    let later = c.in-Some.later.now in
    rw (c.in-Some.ensures.cases.0) (sym (ap (λ b. cond b (map change_view later) (map change_view (change ∷ later))) (sym c.is_at.ensures ∙ c.if-is_at.true)))

pub returns-else-is_at : goal.returns-else-is_at
returns-else-is_at c =
    let change = c.in-Some.change.now in
    let later = c.in-Some.later.now in
    rw (c.in-Some.ensures.cases.0) (sym (ap (λ b. cond b (map change_view later) (map change_view (change ∷ later))) (sym c.is_at.ensures ∙ c.if-is_at.false)))
