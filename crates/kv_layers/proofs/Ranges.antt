-- The first and the last entry of a range of a sorted map, by bytes.
use Rattle.std.proofs.Common.{◌≡◌, ℕ, true, false, cond, List, [], ◌∷◌, Option, Some, None, IsSome, refl, sym, ◌∙◌, ap, subst}
use denote.Ref.{Bor}
use Rattle.std.specs.declared.cmp.Ordering.{Ordering}
use Rattle.std.specs.declared.cmp.Ordering.TheVariants.{Less, Equal, Greater}
use Rattle.std.specs.Option.{option_map, IfSome}
use Rattle.std.specs.List.{slice_get}
use Rattle.std.proofs.Common.{true≢false}
use Rattle.std.specs.Ordering.{is_eq, is_lt, is_le, is_gt, ordering_reverse, nat_cmp}
use Rattle.std.specs.Cmp.Lexicographic.{slice_cmp}
use Rattle.std.specs.Global.{Vec}
use Rattle.std.specs.BTreeMap.{BTreeMap, get}
use Rattle.std.specs.BTreeMap.Range.{IsInRange, IsFromStart, IsUpToEnd, IsEntryInRange, IsRangeOf, IsLeBy, IsLtBy}
use Rattle.std.specs.Bound.{IsForward}
use Rattle.std.specs.Map.{lookup}
use Rattle.std.specs.Map.Iter.{TakesFirst, TakesLast, deref_pair}
use Rattle.kv_layers.specs.declared.order.Order.TheVariants.{Ascending, Descending}
use Rattle.kv_layers.specs.Bytes.{bytes_cmp}
use Rattle.kv_layers.specs.Next.{is_from, is_below, is_within, IsNext}
use Rattle.kv_layers.specs.Plain.{value_view}
use Rattle.kv_layers.specs.Sorted.{value_at, shown_entry, start_of, end_of, AreCrossed}
use Rattle.kv_layers.proofs.Keys.{less_of, is_lt_of, same_of, turned, first_of, second_of, both}

-- how the map compares its keys
abbrev pub vec_cmp : Vec ℕ → Vec ℕ → Ordering
vec_cmp a b = slice_cmp nat_cmp a.items b.items

greater_of : (r : Ordering) → r ≡ Greater → is_gt r ≡ true
greater_of r e = rw e refl

pub equal_of : (r : Ordering) → is_eq r ≡ true → r ≡ Equal
equal_of Less e = cc
equal_of Equal e = refl
equal_of Greater e = cc

is_from_start : (lo : Option (Vec ℕ)) (k : Vec ℕ) → is_from (value_view lo) k.items ≡ true → IsFromStart vec_cmp (start_of lo) k
is_from_start None k h = tt
is_from_start (Some l) k h = elim (slice_cmp nat_cmp l.items k.items) as (λ r. is_le r ≡ true → is_gt r ≡ false) [ Less ↦ λ _. refl | Equal ↦ λ _. refl | Greater ↦ λ e. cc ] h

from_is_start : (lo : Option (Vec ℕ)) (k : Vec ℕ) → IsFromStart vec_cmp (start_of lo) k → is_from (value_view lo) k.items ≡ true
from_is_start None k h = refl
from_is_start (Some l) k h = elim (slice_cmp nat_cmp l.items k.items) as (λ r. is_gt r ≡ false → is_le r ≡ true) [ Less ↦ λ _. refl | Equal ↦ λ _. refl | Greater ↦ λ e. cc ] h

is_up_to_end : (hi : Option (Vec ℕ)) (k : Vec ℕ) → is_below (value_view hi) k.items ≡ true → IsUpToEnd vec_cmp (end_of hi) k
is_up_to_end None k h = tt
is_up_to_end (Some u) k h = less_of _ h

up_to_is_end : (hi : Option (Vec ℕ)) (k : Vec ℕ) → IsUpToEnd vec_cmp (end_of hi) k → is_below (value_view hi) k.items ≡ true
up_to_is_end None k h = refl
up_to_is_end (Some u) k h = is_lt_of _ h

in_range : (lo hi : Option (Vec ℕ)) (k : Vec ℕ) → is_within (value_view lo) (value_view hi) k.items ≡ true → IsInRange vec_cmp (start_of lo) (end_of hi) k
in_range lo hi k h = (is_from_start lo k (first_of _ _ h), is_up_to_end hi k (second_of (is_from (value_view lo) k.items) _ h))

within : (lo hi : Option (Vec ℕ)) (k : Vec ℕ) → IsInRange vec_cmp (start_of lo) (end_of hi) k → is_within (value_view lo) (value_view hi) k.items ≡ true
within lo hi k h = both _ _ (from_is_start lo k h.0) (up_to_is_end hi k h.1)

module _ {X : Type 0} where
  -- a key that has a value is stored
  stored : (q : List ℕ) (es : List (Vec ℕ × X)) (x : X) → lookup (λ k. is_eq (slice_cmp nat_cmp q k.items)) es ≡ Some x → (k : Vec ℕ) × (q ≡ k.items)
  stored q [] x e = cc
  stored q (e ∷ es) x found =
      elim (is_eq (slice_cmp nat_cmp q e.0.items)) as (λ b. is_eq (slice_cmp nat_cmp q e.0.items) ≡ b → cond b (Some e.1) (lookup (λ k. is_eq (slice_cmp nat_cmp q k.items)) es) ≡ Some x → (k : Vec ℕ) × (q ≡ k.items)) [
        | true ↦ λ t _. (e.0, same_of q e.0.items (equal_of _ t))
        | false ↦ λ _ rest. stored q es x rest
      ] refl found

  -- what holds of the stored keys within the bounds holds of all bytes
  from_stored : (m : BTreeMap (Vec ℕ) X) (q : List ℕ) → ((k : Vec ℕ) → q ≡ k.items → get vec_cmp m k ≡ None) → value_at m q ≡ None
  from_stored m q none =
      elim (value_at m q) as (λ o. value_at m q ≡ o → o ≡ None) [
        | None ↦ λ _. refl
        | Some x ↦ λ e.
            let s = stored q m.entries x e in
            sym e ∙ ap (value_at m) s.1 ∙ none s.0 s.1
      ] refl

  -- an empty range
  no_entry : (lo hi : Option (Vec ℕ)) (m : BTreeMap (Vec ℕ) X) (r : List (Vec ℕ × X)) → IsRangeOf vec_cmp (start_of lo) (end_of hi) m r → r ≡ [] → (q : List ℕ) → is_within (value_view lo) (value_view hi) q ≡ true → value_at m q ≡ None
  no_entry lo hi m r range e q w = from_stored m q (λ k same. range.5 e k (in_range lo hi k (subst (λ b. is_within (value_view lo) (value_view hi) b ≡ true) same w)))

  not_some : (o : Option X) → (IsSome o → ⊥) → o ≡ None
  not_some None h = refl
  not_some (Some x) h = absurd (h refl)

  pub IsNext-first : (lo hi : Option (Vec ℕ)) (m : BTreeMap (Vec ℕ) X) (r t : List (Vec ℕ × X)) (o : Option (Bor (Vec ℕ) × Bor X)) → IsRangeOf vec_cmp (start_of lo) (end_of hi) m r → TakesFirst deref_pair r o t → IsNext (value_at m) (value_view lo) (value_view hi) Ascending (option_map shown_entry o)
  IsNext-first lo hi m r t None range taken = no_entry lo hi m r range taken.0
  IsNext-first lo hi m r t (Some e) range taken =
      let entry : IsEntryInRange vec_cmp (start_of lo) (end_of hi) m (deref_pair e) = subst (λ es. IfSome (slice_get es 0) (IsEntryInRange vec_cmp (start_of lo) (end_of hi) m)) taken range.1 in
      let none : (q : List ℕ) → is_within (value_view lo) (value_view hi) q ≡ true → is_lt (bytes_cmp q e.0.now.items) ≡ true → value_at m q ≡ None =
      (λ q w before. from_stored m q (λ k same. not_some _ (λ some.
      let le : is_gt (slice_cmp nat_cmp e.0.now.items k.items) ≡ false = subst (λ es. IfSome (slice_get es 0) (λ f. IsLeBy vec_cmp f.0 k)) taken (range.2 k (in_range lo hi k (subst (λ b. is_within (value_view lo) (value_view hi) b ≡ true) same w)) some) in
      true≢false (sym (greater_of _ (turned e.0.now.items k.items ∙ ap ordering_reverse (less_of _ (subst (λ b. is_lt (bytes_cmp b e.0.now.items) ≡ true) same before)))) ∙ le)))) in
      (within lo hi e.0.now entry.0, entry.1, none)

  pub IsNext-last : (lo hi : Option (Vec ℕ)) (m : BTreeMap (Vec ℕ) X) (r t : List (Vec ℕ × X)) (o : Option (Bor (Vec ℕ) × Bor X)) → IsRangeOf vec_cmp (start_of lo) (end_of hi) m r → TakesLast deref_pair r o t → IsNext (value_at m) (value_view lo) (value_view hi) Descending (option_map shown_entry o)
  IsNext-last lo hi m r t None range taken = no_entry lo hi m r range taken.0
  IsNext-last lo hi m r t (Some e) range taken =
      let entry = range.3 (deref_pair e) t taken in
      let none : (q : List ℕ) → is_within (value_view lo) (value_view hi) q ≡ true → is_lt (bytes_cmp e.0.now.items q) ≡ true → value_at m q ≡ None =
      (λ q w before. from_stored m q (λ k same. not_some _ (λ some.
      true≢false (sym (subst (λ b. is_lt (bytes_cmp e.0.now.items b) ≡ true) same before) ∙ range.4 (deref_pair e) t taken k (in_range lo hi k (subst (λ b. is_within (value_view lo) (value_view hi) b ≡ true) same w)) some)))) in
      (within lo hi e.0.now entry.0, entry.1, none)

pub is_forward : (lo hi : Option (Vec ℕ)) → (AreCrossed (value_view lo) (value_view hi) → ⊥) → IsForward (IsLeBy vec_cmp) (IsLtBy vec_cmp) (start_of lo) (end_of hi)
is_forward None hi h = tt
is_forward (Some lo) None h = tt
is_forward (Some lo) (Some hi) h =
    elim (slice_cmp nat_cmp lo.items hi.items) as (λ r. slice_cmp nat_cmp lo.items hi.items ≡ r → is_gt r ≡ false) [
      | Less ↦ λ _. refl
      | Equal ↦ λ _. refl
      | Greater ↦ λ e. absurd (h (turned hi.items lo.items ∙ ap ordering_reverse e))
    ] refl
