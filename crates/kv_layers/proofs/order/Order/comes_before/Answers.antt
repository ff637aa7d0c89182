use Rattle.std.proofs.Common.{ap, refl, ◌∙◌}
use Rattle.std.specs.Ordering.{is_lt, is_some_and}
use Rattle.std.specs.Cmp.Lexicographic.{lists_agrees}
use Rattle.kv_layers.proofs.order.Order.comes_before.Goals as goal

pub returns-in-Ascending : goal.returns-in-Ascending
returns-in-Ascending c = rw c.in-Ascending.is (c.lt.ensures ∙ ap (is_some_and is_lt) (lists_agrees (λ x y. refl) c.args.first.now c.args.second.now))

pub returns-in-Descending : goal.returns-in-Descending
returns-in-Descending c = rw c.in-Descending.is (c.lt-in-Descending.ensures ∙ ap (is_some_and is_lt) (lists_agrees (λ x y. refl) c.args.second.now c.args.first.now))
