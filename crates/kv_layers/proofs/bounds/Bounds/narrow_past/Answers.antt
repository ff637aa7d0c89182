use Rattle.kv_layers.specs.declared.order.Order.TheVariants.{Ascending, Descending}
use Rattle.kv_layers.specs.Sorted.{lower, upper}
use Rattle.kv_layers.proofs.Keys.{within-narrowed}
use Rattle.kv_layers.proofs.bounds.Bounds.narrow_past.Goals as goal

pub returns-in_ok-push-in-Ascending-clause-past : goal.returns-in_ok-push-in-Ascending-clause-past
returns-in_ok-push-in-Ascending-clause-past c = λ w other.
    rw (c.in-Ascending.is, c.in_ok-push-in-Ascending.ensures.items) (within-narrowed Ascending (lower c.args.self.now) (upper c.args.self.now) c.args.key.items w other)

pub returns-in-Descending-clause-past : goal.returns-in-Descending-clause-past
returns-in-Descending-clause-past c = λ w other. rw c.in-Descending.is (within-narrowed Descending (lower c.args.self.now) (upper c.args.self.now) c.args.key.items w other)
