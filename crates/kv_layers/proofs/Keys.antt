-- The order of keys, and bounds.
use Rattle.std.proofs.Common.{◌≡◌, ℕ, ◌⊎◌, inl, inr, Bool, true, false, not, ◌&&◌, List, [], ◌∷◌, ◌++◌, Option, Some, None, refl, sym, ◌∙◌, ap, subst, true≢false, arith}
use Rattle.std.specs.declared.cmp.Ordering.{Ordering}
use Rattle.std.specs.declared.cmp.Ordering.TheVariants.{Less, Equal, Greater}
use Rattle.std.specs.Ordering.{is_lt, is_le, ordering_reverse, nat_cmp, ordering_then}
use Rattle.std.specs.Cmp.{tied_itself, ranked}
use Rattle.std.specs.Cmp.Lexicographic.{slice_cmp, nat_list_cmp_total}
use Rattle.std.specs.FinMap.{slice_cmp-IsAntisymmetric, nat_cmp-IsAntisymmetric}
use Rattle.kv_layers.specs.declared.order.Order.{Order}
use Rattle.kv_layers.specs.declared.order.Order.TheVariants.{Ascending, Descending}
use Rattle.kv_layers.specs.Bytes.{bytes_cmp}
use Rattle.kv_layers.specs.Next.{comes_before, is_from, is_below, is_within}
use Rattle.kv_layers.specs.Sorted.{narrowed_lower, narrowed_upper, AreCrossed, AreInside}

pub less_of : (r : Ordering) → is_lt r ≡ true → r ≡ Less
less_of Less e = refl
less_of Equal e = cc
less_of Greater e = cc

pub is_lt_of : (r : Ordering) → r ≡ Less → is_lt r ≡ true
is_lt_of r e = rw e refl

pub same_of : (a b : List ℕ) → bytes_cmp a b ≡ Equal → a ≡ b
same_of a b e = slice_cmp-IsAntisymmetric nat_cmp-IsAntisymmetric a b e

pub itself : (a : List ℕ) → bytes_cmp a a ≡ Equal
itself a = tied_itself nat_list_cmp_total a

pub turned : (a b : List ℕ) → bytes_cmp a b ≡ ordering_reverse (bytes_cmp b a)
turned a b = nat_list_cmp_total.antisymm a b

pub comes_before-trans : (order : Order) (a b c : List ℕ) → comes_before order a b ≡ true → comes_before order b c ≡ true → comes_before order a c ≡ true
comes_before-trans Ascending a b c p q = is_lt_of _ (nat_list_cmp_total.trans a b c (less_of _ p) (less_of _ q))
comes_before-trans Descending a b c p q = is_lt_of _ (nat_list_cmp_total.trans c b a (less_of _ q) (less_of _ p))

pub comes_before-self : (order : Order) (a : List ℕ) → comes_before order a a ≡ false
comes_before-self Ascending a = rw (itself a) refl
comes_before-self Descending a = rw (itself a) refl

cases_of : (a b : List ℕ) → (is_lt (bytes_cmp a b) ≡ true) ⊎ (a ≡ b) ⊎ (is_lt (bytes_cmp b a) ≡ true)
cases_of a b =
    elim (bytes_cmp a b) as (λ r. bytes_cmp a b ≡ r → (is_lt r ≡ true) ⊎ (a ≡ b) ⊎ (is_lt (bytes_cmp b a) ≡ true)) [
      | Less ↦ λ e. inl refl
      | Equal ↦ λ e. inr (inl (same_of a b e))
      | Greater ↦ λ e. inr (inr (is_lt_of _ (turned b a ∙ ap ordering_reverse e)))
    ] refl

-- of two keys one comes first, or they are the same
pub comes_before-cases : (order : Order) (a b : List ℕ) → (comes_before order a b ≡ true) ⊎ (a ≡ b) ⊎ (comes_before order b a ≡ true)
comes_before-cases Ascending a b = cases_of a b
comes_before-cases Descending a b = elim (cases_of b a) [ inl h ↦ inl h | inr (inl e) ↦ inr (inl (sym e)) | inr (inr h) ↦ inr (inr h) ]

-- a key that doesn't come later comes first or is the same
pub comes_before-false : (order : Order) (a b : List ℕ) → comes_before order b a ≡ false → (comes_before order a b ≡ true) ⊎ (a ≡ b)
comes_before-false order a b h = elim (comes_before-cases order a b) [ inl p ↦ inl p | inr (inl e) ↦ inr e | inr (inr q) ↦ cc ]

-- the key with a byte 0 more is the next greater one
after_le : (key q : List ℕ) → is_le (bytes_cmp (key ++ 0 ∷ []) q) ≡ is_lt (bytes_cmp key q)
after_le [] [] = refl
after_le [] (y ∷ ys) =
    elim (nat_cmp 0 y) as (λ r. r ≡ nat_cmp 0 y → is_le (ordering_then r (slice_cmp nat_cmp [] ys)) ≡ true) [
      | Less ↦ λ _. refl
      | Equal ↦ λ _. elim ys as (λ zs. is_le (slice_cmp nat_cmp [] zs) ≡ true) [ [] ↦ refl | (z ∷ zs) ↦ refl ]
      | Greater ↦ λ e. absurd (omega (arith, ranked 0 y Greater e))
    ] refl
after_le (x ∷ xs) [] = refl
after_le (x ∷ xs) (y ∷ ys) =
    elim (nat_cmp x y) as (λ r. is_le (ordering_then r (slice_cmp nat_cmp (xs ++ 0 ∷ []) ys)) ≡ is_lt (ordering_then r (slice_cmp nat_cmp xs ys))) [
      | Less ↦ refl
      | Equal ↦ after_le xs ys
      | Greater ↦ refl
    ]

pub both : (a b : Bool) → a ≡ true → b ≡ true → (a && b) ≡ true
both a b p q = rw (p, q) refl

pub first_of : (a b : Bool) → (a && b) ≡ true → a ≡ true
first_of true b p = refl
first_of false b p = p

pub second_of : (a b : Bool) → (a && b) ≡ true → b ≡ true
second_of true b p = p
second_of false b p = cc

le_lt : (a b c : List ℕ) → is_le (bytes_cmp a b) ≡ true → bytes_cmp b c ≡ Less → bytes_cmp a c ≡ Less
le_lt a b c le lt = elim (bytes_cmp a b) as (λ r. bytes_cmp a b ≡ r → is_le r ≡ true → bytes_cmp a c ≡ Less) [
  | Less ↦ λ e _. nat_list_cmp_total.trans a b c e lt
  | Equal ↦ λ e _. nat_list_cmp_total.congr a b c e ∙ lt
  | Greater ↦ λ e h. cc
] refl le

is_le_of : (r : Ordering) → r ≡ Less → is_le r ≡ true
is_le_of r e = rw e refl

-- a greater key is at a lower bound or above it too
pub from_later : (lo : Option (List ℕ)) (a b : List ℕ) → is_from lo a ≡ true → bytes_cmp a b ≡ Less → is_from lo b ≡ true
from_later None a b h lt = refl
from_later (Some l) a b h lt = is_le_of _ (le_lt l a b h lt)

below_earlier : (hi : Option (List ℕ)) (a b : List ℕ) → is_below hi b ≡ true → bytes_cmp a b ≡ Less → is_below hi a ≡ true
below_earlier None a b h lt = refl
below_earlier (Some u) a b h lt = is_lt_of _ (nat_list_cmp_total.trans a b u lt (less_of _ h))

-- the narrowed bounds hold of the keys within the bounds that come after the key
pub within_narrowed : (order : Order) (lo hi : Option (List ℕ)) (key q : List ℕ) → is_within lo hi key ≡ true → is_within (narrowed_lower order lo key) (narrowed_upper order hi key) q ≡ true → (is_within lo hi q ≡ true) × (comes_before order key q ≡ true)
within_narrowed Ascending lo hi key q w h =
    let lt = sym (after_le key q) ∙ first_of _ _ h in
    (both _ _ (from_later lo key q (first_of _ _ w) (less_of _ lt)) (second_of (is_le (bytes_cmp (key ++ 0 ∷ []) q)) _ h), lt)
within_narrowed Descending lo hi key q w h =
    let lt = second_of (is_from lo q) _ h in
    (both _ _ (first_of _ _ h) (below_earlier hi q key (second_of (is_from lo key) _ w) (less_of _ lt)), lt)

pub AreInside-narrowed : (order : Order) (lo hi low high : Option (List ℕ)) (key : List ℕ) → is_within lo hi key ≡ true → low ≡ narrowed_lower order lo key → high ≡ narrowed_upper order hi key → AreInside low high lo hi
AreInside-narrowed order lo hi low high key within e f q w =
    (within_narrowed order lo hi key q within
    (subst (λ h. is_within (narrowed_lower order lo key) h q ≡ true) f (subst (λ l. is_within l high q ≡ true) e w))).0

pub narrowed_within : (order : Order) (lo hi : Option (List ℕ)) (key q : List ℕ) → is_within lo hi q ≡ true → comes_before order key q ≡ true → is_within (narrowed_lower order lo key) (narrowed_upper order hi key) q ≡ true
narrowed_within Ascending lo hi key q w h = both _ _ (after_le key q ∙ h) (second_of (is_from lo q) _ w)
narrowed_within Descending lo hi key q w h = both _ _ (first_of _ _ w) h

pub crossed_holds_none : (lo hi : Option (List ℕ)) (key : List ℕ) → AreCrossed lo hi → is_within lo hi key ≡ true → ⊥
crossed_holds_none None hi key h w = h
crossed_holds_none (Some lo) None key h w = h
crossed_holds_none (Some lo) (Some hi) key h w =
    let lt = le_lt lo key hi (first_of _ _ w) (less_of _ (second_of (is_le (bytes_cmp lo key)) _ w)) in
    true≢false (sym (is_lt_of _ (nat_list_cmp_total.trans lo hi lo lt h)) ∙ comes_before-self Ascending lo)

same_bool : (a b : Bool) → (a ≡ true → b ≡ true) → (b ≡ true → a ≡ true) → a ≡ b
same_bool true true f g = refl
same_bool true false f g = sym (f refl)
same_bool false true f g = g refl
same_bool false false f g = refl

-- the keys within the narrowed bounds are just those within the bounds that come after the key
pub within-narrowed : (order : Order) (lo hi : Option (List ℕ)) (key : List ℕ) → is_within lo hi key ≡ true → (q : List ℕ) → is_within (narrowed_lower order lo key) (narrowed_upper order hi key) q ≡ (is_within lo hi q && comes_before order key q)
within-narrowed order lo hi key w q =
    same_bool _ _ (λ h. let both_hold = within_narrowed order lo hi key q w h in both _ _ both_hold.0 both_hold.1)
    (λ h. narrowed_within order lo hi key q (first_of _ _ h) (second_of (is_within lo hi q) _ h))

-- a key lies at a lower bound or above it if it doesn't lie below it
pub from-not_below : (lo key : List ℕ) → is_le (bytes_cmp lo key) ≡ not (is_lt (bytes_cmp key lo))
from-not_below lo key = rw (turned lo key) (elim (bytes_cmp key lo) as (λ r. is_le (ordering_reverse r) ≡ not (is_lt r)) [ Less ↦ refl | Equal ↦ refl | Greater ↦ refl ])
