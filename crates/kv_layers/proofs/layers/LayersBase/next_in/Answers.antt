use Rattle.std.proofs.Common.{◌≡◌, ◌<◌, ℕ, List, Option, Some, None, sym, ap, ◌∙◌, subst}
use denote.Ref.{Bor}
use Rattle.std.specs.FinMap.{get}
use Rattle.std.specs.Global.{Vec}
use Rattle.std.specs.Option.{option_map, option_copied, option_or}
use Rattle.std.proofs.lemmas.Result.{IfOk-weaker}
use Rattle.kv_layers.specs.Changes.{change_in}
use Rattle.kv_layers.specs.Layers.{stack}
use Rattle.kv_layers.specs.Merge.{shown_change, as_change}
use Rattle.kv_layers.specs.Next.{IsNext}
use Rattle.kv_layers.specs.Plain.{value_view, entry_view}
use Rattle.kv_layers.specs.Sorted.{lower, upper, narrowed_lower, narrowed_upper}
use Rattle.kv_layers.proofs.Keys.{AreInside-narrowed}
use Rattle.kv_layers.proofs.Merging.{Overlaid-current, IsNext-base, IsNext-value, IsNext-removed, removal_of, changes_within, changes_within-less}
use Rattle.kv_layers.proofs.layers.LayersBase.next_in.Goals as goal

pub scan-init : goal.scan-init
scan-init g c = record {
  first = λ map current found next.
      subst (λ lo. IsNext (get map) lo (option_copied c.args.hi) c.args.order found) c.in_ok-bounds.ensures.lo
      (subst (λ hi. IsNext (get map) (lower c.in_ok-bounds.bounds) hi c.args.order found) c.in_ok-bounds.ensures.hi next);
  under = λ map stands.
      let entry = option_map entry_view c.in_ok-under.under in
      subst (λ hi. IsNext (get map) (lower c.in_ok-bounds.bounds) hi c.args.order entry) (sym c.in_ok-bounds.ensures.hi)
      (subst (λ lo. IsNext (get map) lo (option_copied c.args.hi) c.args.order entry) (sym c.in_ok-bounds.ensures.lo) (c.in_ok-under.ensures map stands));
}

pub returns-in_default : goal.returns-in_default
returns-in_default g c = λ map current.
    let bounds = c.scan.bounds in
    let change = option_map shown_change c.next_change.result in
    let entry = option_map entry_view c.scan.under in
    let under = c.scan.invariant.under current.0.base current.1.of_base in
    let none = c.unless_later.ensures ∙ ap (λ (r : Option (Bor (Vec ℕ) × Bor (Option (Vec ℕ)))). option_or (option_map shown_change r) (option_map as_change entry)) c.in_default.is in
    c.scan.invariant.first map current entry
    (IsNext-base (get map) (change_in (stack c.args.self.now)) (get current.0.base) (Overlaid-current g.B.Base.stands_for c.args.self.now map current)
    (lower bounds) (upper bounds) c.args.order change entry c.next_change.ensures under none)

pub returns-in-Some-value : goal.returns-in-Some-value
returns-in-Some-value g c =
    let bounds = c.scan.bounds in
    let change = option_map shown_change c.next_change.result in
    let entry = option_map entry_view c.scan.under in
    let key = c.in-Some.key.now.items in
    let bytes = c.in-Some-value.value.items in
    let is : option_map shown_change c.unless_later.result ≡ Some (c.in-Some.key.now.items, Some c.in-Some-value.value.items) = ap (option_map shown_change) c.in-Some.is ∙ ap (λ (o : Option (Vec ℕ)). Some (c.in-Some.key.now.items, value_view o)) c.in-Some-value.is in
    let first = sym (c.unless_later.ensures ∙ ap (λ o. option_or o (option_map as_change entry)) is) in
    IfOk-weaker c.owned_entry.result _ _ (λ found e map current.
    subst (IsNext (get map) (option_copied c.args.lo) (option_copied c.args.hi) c.args.order) (sym e)
    (c.scan.invariant.first map current (Some (key, bytes))
    (IsNext-value (get map) (change_in (stack c.args.self.now)) (get current.0.base) (Overlaid-current g.B.Base.stands_for c.args.self.now map current)
    (lower bounds) (upper bounds) c.args.order change entry key bytes c.next_change.ensures (c.scan.invariant.under current.0.base current.1.of_base) first))) c.owned_entry.ensures

pub scan-smaller : goal.scan-smaller
scan-smaller g c =
    let bounds = c.scan.bounds in
    let change = option_map shown_change c.next_change.result in
    let entry = option_map entry_view c.scan.under in
    let key = c.in-Some.key.now.items in
    let is : option_map shown_change c.unless_later.result ≡ Some (c.in-Some.key.now.items, None) = ap (option_map shown_change) c.in-Some.is ∙ ap (λ (o : Option (Vec ℕ)). Some (c.in-Some.key.now.items, value_view o)) c.in-None.is in
    let first = sym (c.unless_later.ensures ∙ ap (λ o. option_or o (option_map as_change entry)) is) in
    let removal = removal_of c.args.order change entry key first in
    let next = subst (IsNext (change_in (stack c.args.self.now)) (lower bounds) (upper bounds) c.args.order) removal c.next_change.ensures in
    let copied : c.in_ok-from_slice-in-None.field-0.items ≡ c.in-Some.key.now.items = c.in_ok-from_slice-in-None.ensures.items ∙ c.deref.ensures.value in
    let fewer = changes_within-less c.args.order (lower bounds) (upper bounds) key next.0 (stack c.args.self.now) None next.1 in
    let measure = λ (lo hi : Option (List ℕ)). changes_within lo hi (stack c.args.self.now) < changes_within (lower bounds) (upper bounds) (stack c.args.self.now) in
    let new_lo = c.in_ok-narrow_past-in-None.ensures.lo ∙ ap (narrowed_lower c.args.order (lower bounds)) copied in
    let new_hi = c.in_ok-narrow_past-in-None.ensures.hi ∙ ap (narrowed_upper c.args.order (upper bounds)) copied in
    subst (λ lo. measure lo (upper c.narrow_past.new.self)) (sym new_lo)
    (subst (measure (narrowed_lower c.args.order (lower bounds) key)) (sym new_hi) fewer)

pub scan-preserved : goal.scan-preserved
scan-preserved g c =
    let bounds = c.scan.bounds in
    let change = option_map shown_change c.next_change.result in
    let entry = option_map entry_view c.scan.under in
    let key = c.in-Some.key.now.items in
    let is : option_map shown_change c.unless_later.result ≡ Some (c.in-Some.key.now.items, None) = ap (option_map shown_change) c.in-Some.is ∙ ap (λ (o : Option (Vec ℕ)). Some (c.in-Some.key.now.items, value_view o)) c.in-None.is in
    let first = sym (c.unless_later.ensures ∙ ap (λ o. option_or o (option_map as_change entry)) is) in
    let removal = removal_of c.args.order change entry key first in
    let next = subst (IsNext (change_in (stack c.args.self.now)) (lower bounds) (upper bounds) c.args.order) removal c.next_change.ensures in
    let copied : c.in_ok-from_slice-in-None.field-0.items ≡ c.in-Some.key.now.items = c.in_ok-from_slice-in-None.ensures.items ∙ c.deref.ensures.value in
    let new_lo = c.in_ok-narrow_past-in-None.ensures.lo ∙ ap (narrowed_lower c.args.order (lower bounds)) copied in
    let new_hi = c.in_ok-narrow_past-in-None.ensures.hi ∙ ap (narrowed_upper c.args.order (upper bounds)) copied in
    record {
      first = λ map current found later.
          c.scan.invariant.first map current found
          (IsNext-removed (get map) (change_in (stack c.args.self.now)) (get current.0.base) (Overlaid-current g.B.Base.stands_for c.args.self.now map current)
          (lower bounds) (upper bounds) c.args.order change entry key c.next_change.ensures (c.scan.invariant.under current.0.base current.1.of_base) first found
          (subst (λ lo. IsNext (get map) lo (narrowed_upper c.args.order (upper bounds) key) c.args.order found) new_lo
          (subst (λ hi. IsNext (get map) (lower c.narrow_past.new.self) hi c.args.order found) new_hi later)));
      under = λ map stands.
          let inside = AreInside-narrowed c.args.order (lower bounds) (upper bounds) (lower c.narrow_past.new.self) (upper c.narrow_past.new.self) key next.0 new_lo new_hi in
          c.in_ok-under-in-None.ensures map (lower bounds) (upper bounds) stands inside (c.scan.invariant.under map stands);
    }
