-- A sorted map whose keys are vectors of bytes, read by bytes.
use Rattle.std.specs.Prelude.{ℕ, ◌≡◌, true, List, [], ◌∷◌, ◌++◌, Option, Some, None}
use denote.Ref.{Bor}
use Rattle.std.specs.Ordering.{nat_cmp}
use Rattle.std.specs.declared.cmp.Ordering.TheVariants.{Less}
use Rattle.std.specs.Cmp.Lexicographic.{slice_cmp}
use Rattle.std.specs.declared.ops.Bound.{Bound}
use Rattle.std.specs.declared.ops.Bound.TheVariants.{Included, Excluded, Unbounded}
use Rattle.std.specs.Global.{Vec}
use Rattle.std.specs.BTreeMap.{BTreeMap, get_by}
use Rattle.kv_layers.specs.declared.bounds.Bounds.{Bounds}
use Rattle.kv_layers.specs.declared.order.Order.{Order}
use Rattle.kv_layers.specs.declared.order.Order.TheVariants.{Ascending, Descending}
use Rattle.kv_layers.specs.Bytes.{bytes_cmp}
use Rattle.kv_layers.specs.Next.{is_within}
use Rattle.kv_layers.specs.Plain.{value_view}

-- what the map has at the key
abbrev pub value_at : {X : Type 0} → BTreeMap (Vec ℕ) X → List ℕ → Option X
value_at map key = get_by (λ k. slice_cmp nat_cmp key k.items) map

-- the entry that two references show
abbrev pub shown_entry : {X : Type 0} → Bor (Vec ℕ) × Bor X → List ℕ × X
shown_entry e = (e.0.now.items, e.1.now)

abbrev pub lower : Bounds → Option (List ℕ)
lower bounds = value_view bounds.lo

abbrev pub upper : Bounds → Option (List ℕ)
upper bounds = value_view bounds.hi

-- the lower bound is above the upper one
abbrev pub AreCrossed : Option (List ℕ) → Option (List ℕ) → Type 0
AreCrossed (Some lo) (Some hi) = bytes_cmp hi lo ≡ Less
AreCrossed (Some lo) None = ⊥
AreCrossed None hi = ⊥

-- the bounds of the keys that come after a key; the next greater key has a byte 0 more
abbrev pub narrowed_lower : Order → Option (List ℕ) → List ℕ → Option (List ℕ)
narrowed_lower Ascending lo key = Some (key ++ 0 ∷ [])
narrowed_lower Descending lo key = lo

abbrev pub narrowed_upper : Order → Option (List ℕ) → List ℕ → Option (List ℕ)
narrowed_upper Ascending hi key = hi
narrowed_upper Descending hi key = Some key

-- each key within the first two bounds lies within the others
abbrev pub AreInside : Option (List ℕ) → Option (List ℕ) → Option (List ℕ) → Option (List ℕ) → Type 0
AreInside low high lo hi = (key : List ℕ) → is_within low high key ≡ true → is_within lo hi key ≡ true

-- the bounds as a range has them
abbrev pub start_of : Option (Vec ℕ) → Bound (Vec ℕ)
start_of None = Unbounded
start_of (Some lo) = Included lo

abbrev pub end_of : Option (Vec ℕ) → Bound (Vec ℕ)
end_of None = Unbounded
end_of (Some hi) = Excluded hi
