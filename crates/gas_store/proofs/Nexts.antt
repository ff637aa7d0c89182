-- The first entry between places of a contract is the next one of its storage.
use Rattle.std.proofs.Common.{◌≡◌, ◌≢◌, ℕ, Bool, true, false, ◌&&◌, List, [], ◌∷◌, ◌++◌, drop, Option, Some, None, refl, sym, ap, ◌∙◌, subst}
use Rattle.std.specs.List.{filter}
use Rattle.std.specs.Ordering.{nat_cmp, is_le, is_lt}
use Rattle.std.specs.Cmp.Lexicographic.{slice_cmp}
use Rattle.std.specs.FinMap.{get, entries, entries_sorted, get-entries}
use Rattle.kv_layers.specs.declared.order.Order.{Order}
use Rattle.kv_layers.specs.declared.order.Order.TheVariants.{Ascending, Descending}
use Rattle.kv_layers.specs.Bytes.{Bytes}
use Rattle.kv_layers.specs.Next.{IsNext, is_from, is_below, is_within, comes_before}
use Rattle.gas_store.specs.Ends.{end_of}
use Rattle.gas_store.specs.Places.{lower_place, upper_place}
use Rattle.gas_store.specs.Scans.{Scan, Entry, next_of, first_of}
use Rattle.gas_store.specs.Storage.{prefix_of, storage_of}
use Rattle.gas_store.proofs.Firsts.{none_passes, least_passes, greatest_passes}
use Rattle.gas_store.proofs.Prefixes.{cmp-prefix, least_le, below_end, below_more, end_some}
use Rattle.gas_store.proofs.Storages.{get_storage}

-- ---- the first entry of a map

first_none : (order : Order) → first_of order [] ≡ None
first_none Ascending = refl
first_none Descending = refl

is_next : (m : Bytes) (lo hi : Option (List ℕ)) (order : Order) (found : Option Entry) → IsNext (get m) lo hi order found → first_of order (filter (λ (e : Entry). is_within lo hi e.0) (entries m)) ≡ found
is_next m lo hi order None next = ap (first_of order) (none_passes (is_within lo hi) (entries m) (λ k t. sym (get-entries m k) ∙ next k t)) ∙ first_none order
is_next m lo hi Ascending (Some e) next =
    least_passes (is_within lo hi) (entries m) e (entries_sorted m) next.0 (sym (get-entries m e.0) ∙ next.1) (λ k t lt. sym (get-entries m k) ∙ next.2 k t lt)
is_next m lo hi Descending (Some e) next =
    greatest_passes (is_within lo hi) (entries m) e (entries_sorted m) next.0 (sym (get-entries m e.0) ∙ next.1) (λ k t lt. sym (get-entries m k) ∙ next.2 k t lt)

-- ---- bounds as places

append_nothing : (xs : List ℕ) → xs ++ [] ≡ xs
append_nothing [] = refl
append_nothing (x ∷ xs) = ap (λ l. x ∷ l) (append_nothing xs)

from_place : (p : List ℕ) (lo : Option (List ℕ)) (key : List ℕ) → is_from (Some (lower_place p lo)) (p ++ key) ≡ is_from lo key
from_place p None key = ap (λ (l : List ℕ). is_le (slice_cmp nat_cmp l (p ++ key))) (sym (append_nothing p)) ∙ ap is_le (cmp-prefix p [] key) ∙ least_le key
from_place p (Some lo) key = ap is_le (cmp-prefix p lo key)

below_place : (p : List ℕ) (hi : Option (List ℕ)) (key : List ℕ) → end_of p ≢ [] → is_below (Some (upper_place p hi)) (p ++ key) ≡ is_below hi key
below_place p None key some = ap is_lt (below_end p key some)
below_place p (Some hi) key some = ap is_lt (cmp-prefix p key hi)

pub within_place : (p : List ℕ) (lo hi : Option (List ℕ)) (key : List ℕ) → end_of p ≢ [] → is_within (Some (lower_place p lo)) (Some (upper_place p hi)) (p ++ key) ≡ is_within lo hi key
within_place p lo hi key some = λ i. from_place p lo key i && below_place p hi key some i

before_place : (order : Order) (p a b : List ℕ) → comes_before order (p ++ a) (p ++ b) ≡ comes_before order a b
before_place Ascending p a b = ap is_lt (cmp-prefix p a b)
before_place Descending p a b = ap is_lt (cmp-prefix p b a)

module _ (m : Bytes) (addr : List ℕ) (lo hi : Option (List ℕ)) (order : Order) (some : end_of (prefix_of addr) ≢ []) where
  pub next_none : IsNext (get m) (Some (lower_place (prefix_of addr) lo)) (Some (upper_place (prefix_of addr) hi)) order None → IsNext (get (storage_of m addr)) lo hi order None
  next_none next key t = get_storage m addr key ∙ next (prefix_of addr ++ key) (within_place (prefix_of addr) lo hi key some ∙ t)

  pub next_some : (key value : List ℕ) → IsNext (get m) (Some (lower_place (prefix_of addr) lo)) (Some (upper_place (prefix_of addr) hi)) order (Some (prefix_of addr ++ key, value)) → IsNext (get (storage_of m addr)) lo hi order (Some (key, value))
  next_some key value next = (
    sym (within_place (prefix_of addr) lo hi key some) ∙ next.0,
    get_storage m addr key ∙ next.1,
    λ k t before. get_storage m addr k ∙ next.2 (prefix_of addr ++ k) (within_place (prefix_of addr) lo hi k some ∙ t) (before_place order (prefix_of addr) k key ∙ before),
  )

pub is_next_of : (storage : Bytes) (scan : Scan) (found : Option Entry) → IsNext (get storage) scan.lo scan.hi scan.order found → next_of storage scan ≡ found
is_next_of storage scan found next = is_next storage scan.lo scan.hi scan.order found next

-- ---- from the entry of the map to that of the storage

module _ (m : Bytes) (prefix : List ℕ) (own : prefix ≡ prefix_of (drop 2 prefix)) (scan : Scan) where
  some_end : end_of prefix ≢ []
  some_end = subst (λ (p : List ℕ). end_of p ≢ []) (sym own) (end_some (drop 2 prefix))

  on_own : (found : Option Entry) → IsNext (get m) (Some (lower_place prefix scan.lo)) (Some (upper_place prefix scan.hi)) scan.order found
      → IsNext (get m) (Some (lower_place (prefix_of (drop 2 prefix)) scan.lo)) (Some (upper_place (prefix_of (drop 2 prefix)) scan.hi)) scan.order found
  on_own found next = subst (λ (p : List ℕ). IsNext (get m) (Some (lower_place p scan.lo)) (Some (upper_place p scan.hi)) scan.order found) own next

  pub storage_none : IsNext (get m) (Some (lower_place prefix scan.lo)) (Some (upper_place prefix scan.hi)) scan.order None → next_of (storage_of m (drop 2 prefix)) scan ≡ None
  storage_none next = is_next_of (storage_of m (drop 2 prefix)) scan None (next_none m (drop 2 prefix) scan.lo scan.hi scan.order (end_some (drop 2 prefix)) (on_own None next))

  from_lower : (lo : Option (List ℕ)) (place : List ℕ) → is_from (Some (lower_place prefix lo)) place ≡ true → (l : List ℕ) × (is_le (slice_cmp nat_cmp (prefix ++ l) place) ≡ true)
  from_lower None place from = ([], ap (λ (p : List ℕ). is_le (slice_cmp nat_cmp p place)) (append_nothing prefix) ∙ from)
  from_lower (Some lo) place from = (lo, from)

  below_upper : (hi : Option (List ℕ)) (place : List ℕ) → is_below (Some (upper_place prefix hi)) place ≡ true → is_lt (slice_cmp nat_cmp place (end_of prefix)) ≡ true
  below_upper None place below = below
  below_upper (Some hi) place below = below_more prefix hi place some_end below

  first_of_both : (a b : Bool) → (a && b) ≡ true → (a ≡ true) × (b ≡ true)
  first_of_both true b e = (refl, e)
  first_of_both false b e = absurd cc

  pub storage_some : (place key value : List ℕ) → ((l : List ℕ) → is_le (slice_cmp nat_cmp (prefix ++ l) place) ≡ true → is_lt (slice_cmp nat_cmp place (end_of prefix)) ≡ true → place ≡ prefix ++ key)
      → IsNext (get m) (Some (lower_place prefix scan.lo)) (Some (upper_place prefix scan.hi)) scan.order (Some (place, value)) → next_of (storage_of m (drop 2 prefix)) scan ≡ Some (key, value)
  storage_some place key value behind next =
      let within = first_of_both _ _ next.0 in
      let from = from_lower scan.lo place within.0 in
      let at = behind from.0 from.1 (below_upper scan.hi place within.1) ∙ ap (λ (p : List ℕ). p ++ key) own in
      let found : IsNext (get m) (Some (lower_place (prefix_of (drop 2 prefix)) scan.lo)) (Some (upper_place (prefix_of (drop 2 prefix)) scan.hi)) scan.order (Some (prefix_of (drop 2 prefix) ++ key, value)) =
      subst (λ (q : List ℕ). IsNext (get m) (Some (lower_place (prefix_of (drop 2 prefix)) scan.lo)) (Some (upper_place (prefix_of (drop 2 prefix)) scan.hi)) scan.order (Some (q, value))) at (on_own (Some (place, value)) next) in
      is_next_of (storage_of m (drop 2 prefix)) scan (Some (key, value)) (next_some m (drop 2 prefix) scan.lo scan.hi scan.order (end_some (drop 2 prefix)) key value found)
