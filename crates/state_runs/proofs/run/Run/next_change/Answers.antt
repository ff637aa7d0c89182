use Rattle.std.proofs.Common.{ℕ, List, Option, Some, None, cond, sym, ap, ◌∙◌, map, subst}
use Rattle.kv_layers.specs.Next.{IsNext, is_within}
use Rattle.kv_layers.specs.Rising.{change_view}
use Rattle.kv_layers.specs.Sorted.{lower, upper}
use Rattle.state_runs.specs.Runs.{Run}
use Rattle.state_runs.proofs.Lists.{found}
use Rattle.state_runs.proofs.Places.{IsNext-nearest}
use Rattle.state_runs.proofs.run.Run.next_change.Goals as goal

pub returns-in_err-change : goal.returns-in_err-change
returns-in_err-change c =
    let self = c.args.self.now in
    rw c.from_residual.ensures (IsNext-nearest c.args.order (lower c.args.bounds.now) (upper c.args.bounds.now) (map change_view self.changes.items) self.rising None (sym c.in_err-change.ensures))

pub returns-then-holds : goal.returns-then-holds
returns-then-holds c =
    let self = c.args.self.now in
    let changes : Run = map change_view self.changes.items in
    let change : List ℕ × Option (List ℕ) = change_view c.in_ok-change.change.now in
    let next = IsNext-nearest c.args.order (lower c.args.bounds.now) (upper c.args.bounds.now) changes self.rising (Some change) (sym c.in_ok-change.ensures) in
    let within = ap (is_within (lower c.args.bounds.now) (upper c.args.bounds.now)) (sym c.deref.ensures.value) ∙ sym c.holds.ensures ∙ c.if-holds.true in
    subst (λ b. IsNext (λ q. found q changes) (lower c.args.bounds.now) (upper c.args.bounds.now) c.args.order (cond b (Some change) None)) within next

pub returns-else-holds : goal.returns-else-holds
returns-else-holds c =
    let self = c.args.self.now in
    let changes : Run = map change_view self.changes.items in
    let change : List ℕ × Option (List ℕ) = change_view c.in_ok-change.change.now in
    let next = IsNext-nearest c.args.order (lower c.args.bounds.now) (upper c.args.bounds.now) changes self.rising (Some change) (sym c.in_ok-change.ensures) in
    let without = ap (is_within (lower c.args.bounds.now) (upper c.args.bounds.now)) (sym c.deref.ensures.value) ∙ sym c.holds.ensures ∙ c.if-holds.false in
    subst (λ b. IsNext (λ q. found q changes) (lower c.args.bounds.now) (upper c.args.bounds.now) c.args.order (cond b (Some change) None)) without next
