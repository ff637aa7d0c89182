use Rattle.std.proofs.Common.{Some, None, cond, sym, ap, ◌∙◌, map}
use Rattle.kv_layers.specs.Rising.{change_view}
use Rattle.state_runs.proofs.Places.{found-first, if_at}
use Rattle.state_runs.proofs.run.Run.change.Goals as goal

pub returns-in_err-change : goal.returns-in_err-change
returns-in_err-change c =
    let self = c.args.self.now in
    rw c.from_residual.ensures (sym (found-first c.args.key.now (map change_view self.changes.items) self.rising ∙ ap (if_at c.args.key.now) (sym c.in_err-change.ensures)))

pub returns-then-is_at : goal.returns-then-is_at
returns-then-is_at c =
    let self = c.args.self.now in
    let change = change_view c.in_ok-change.change.now in
    sym (found-first c.args.key.now (map change_view self.changes.items) self.rising ∙ ap (if_at c.args.key.now) (sym c.in_ok-change.ensures)
    ∙ ap (λ b. cond b (Some change.1) None) (sym c.is_at.ensures ∙ c.if-is_at.true))

pub returns-else-is_at : goal.returns-else-is_at
returns-else-is_at c =
    let self = c.args.self.now in
    let change = change_view c.in_ok-change.change.now in
    sym (found-first c.args.key.now (map change_view self.changes.items) self.rising ∙ ap (if_at c.args.key.now) (sym c.in_ok-change.ensures)
    ∙ ap (λ b. cond b (Some change.1) None) (sym c.is_at.ensures ∙ c.if-is_at.false))
