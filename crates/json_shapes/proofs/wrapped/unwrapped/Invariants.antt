-- What was taken out and what is still wrapped are all that there was.
use Rattle.std.proofs.Common.{◌≡◌, ◌++◌, map}
use Rattle.std.specs.Vec.Iter.{into_iter_items}
use Rattle.json_shapes.proofs.wrapped.unwrapped.Given as goal

abbrev pub invariant-loop-item : goal.invariant-loop-item
invariant-loop-item g l = record {
  next : (goal.iterator-loop-item g).can_next l.item-iterator;
  finite : (goal.iterator-loop-item g).is_finite l.item-iterator;
  taken : map (λ x. g.W.Form.plain_view (g.W.Wrapper.around x)) l.inner.items ++ map g.W.Form.plain_view (into_iter_items l.item-iterator) ≡ map g.W.Form.plain_view l.fn.wrapped.items;
}
