-- A layer's changes as a list, and how they are made one after another on the layer below.
use Rattle.std.proofs.Common.{◌≡◌, ℕ, true, false, cond, List, [], ◌∷◌, ◌++◌, ◌+◌, map, length, length-append, reverse, Option, Some, None, refl, sym, ◌∙◌, ap, arith}
use Rattle.std.specs.declared.cmp.Ordering.TheVariants.{Less}
use Rattle.std.specs.Option.{option_map, option_to_list}
use Rattle.std.proofs.lemmas.List.{reverse-append}
use Rattle.std.specs.Ordering.{is_eq, nat_cmp}
use Rattle.std.specs.Cmp.Lexicographic.{slice_cmp}
use Rattle.std.specs.Global.{Vec}
use Rattle.std.specs.FinMap.{get, find}
use Rattle.std.specs.List.{AllByRecursion}
use Rattle.std.specs.List.Sorted.{IsStrictlySortedBy}
use Rattle.std.specs.Map.{lookup, keys_of}
use Rattle.kv_layers.specs.Bytes.{Bytes, bytes_cmp}
use Rattle.kv_layers.specs.Changes.{Layer, after_change, with_change}
use Rattle.kv_layers.specs.Delta.{IsDelta, change_view}
use Rattle.kv_layers.specs.Layers.{Piles}
use Rattle.kv_layers.specs.Plain.{value_view}
use Rattle.kv_layers.proofs.Changes.{get-with_change}
use Rattle.kv_layers.proofs.Keys.{same_of}
use Rattle.kv_layers.proofs.Maps.{same_bytes}
use Rattle.kv_layers.proofs.Ranges.{vec_cmp, equal_of}

-- the change of a key in a list of changes
abbrev pub listed : List (Vec ℕ × Option (Vec ℕ)) → List ℕ → Option (Option (List ℕ))
listed changes key = option_map value_view (lookup (λ k. is_eq (slice_cmp nat_cmp key k.items)) changes)

-- the keys of the changes rise
abbrev pub IsRising : List (Vec ℕ × Option (Vec ℕ)) → Type 0
IsRising changes = IsStrictlySortedBy vec_cmp (keys_of changes)

-- the changes that are left lead from the map as it is now to the one wanted
abbrev pub LeftTo : List (Vec ℕ × Option (Vec ℕ)) → Bytes → Bytes → Type 0
LeftTo changes now wanted = (key : List ℕ) → get wanted key ≡ after_change (listed changes key) (get now key)

absent : (key : Vec ℕ) (changes : List (Vec ℕ × Option (Vec ℕ))) → AllByRecursion (λ y. vec_cmp key y ≡ Less) (keys_of changes) → listed changes key.items ≡ None
absent key [] h = refl
absent key (c ∷ changes) h = ap (λ b. option_map value_view (cond (is_eq b) (Some c.1) (lookup (λ k. is_eq (slice_cmp nat_cmp key.items k.items)) changes))) h.0 ∙ absent key changes h.1

pub IsRising-first : (change : Vec ℕ × Option (Vec ℕ)) (changes : List (Vec ℕ × Option (Vec ℕ))) → IsRising (change ∷ changes) → listed changes change.0.items ≡ None
unfolding IsStrictlySortedBy
IsRising-first change changes h = absent change.0 changes h.0

pub IsRising-rest : (change : Vec ℕ × Option (Vec ℕ)) (changes : List (Vec ℕ × Option (Vec ℕ))) → IsRising (change ∷ changes) → IsRising changes
unfolding IsStrictlySortedBy
IsRising-rest change changes h = h.1

listed-first : (key : Vec ℕ) (value : Option (Vec ℕ)) (changes : List (Vec ℕ × Option (Vec ℕ))) (q : List ℕ) → listed ((key, value) ∷ changes) q ≡ cond (is_eq (bytes_cmp q key.items)) (Some (value_view value)) (listed changes q)
listed-first key value changes q = elim (is_eq (bytes_cmp q key.items)) as (λ b. option_map value_view (cond b (Some value) (lookup (λ k. is_eq (slice_cmp nat_cmp q k.items)) changes)) ≡ cond b (Some (value_view value)) (listed changes q)) [ true ↦ refl | false ↦ refl ]

-- the first change is made
pub LeftTo-rest : (key : Vec ℕ) (value : Option (Vec ℕ)) (changes : List (Vec ℕ × Option (Vec ℕ))) (now wanted : Bytes) → IsRising ((key, value) ∷ changes) → LeftTo ((key, value) ∷ changes) now wanted → LeftTo changes (with_change now key.items (value_view value)) wanted
LeftTo-rest key value changes now wanted rising left q =
    left q ∙ ap (λ c. after_change c (get now q)) (listed-first key value changes q)
    ∙ elim (is_eq (bytes_cmp q key.items)) as (λ b. is_eq (bytes_cmp q key.items) ≡ b → after_change (cond b (Some (value_view value)) (listed changes q)) (get now q) ≡ after_change (listed changes q) (cond b (value_view value) (get now q))) [
      | true ↦ λ e. ap (λ c. after_change c (value_view value)) (sym (ap (listed changes) (same_of q key.items (equal_of _ e)) ∙ IsRising-first (key, value) changes rising))
      | false ↦ λ _. refl
    ] refl
    ∙ ap (after_change (listed changes q)) (sym (get-with_change now key.items (value_view value) q))

-- no change is left
pub LeftTo-end : (now wanted : Bytes) → LeftTo [] now wanted → wanted ≡ now
LeftTo-end now wanted left = same_bytes wanted now left

-- the changes of the newest layer lead from the map that was saved last
pub LeftTo-layer : (base : Bytes) (layer next : Layer) (layers : List Layer) (current : Bytes) (saved : List Bytes) → Piles base layer (next ∷ layers) current saved → (now : Bytes) × (others : List Bytes) × (saved ≡ now ∷ others) × Piles base next layers now others × LeftTo layer.entries now current
LeftTo-layer base layer next layers current [] piles = absurd piles
LeftTo-layer base layer next layers current (map ∷ saved) piles = (map, saved, refl, piles.1, piles.0)

pub rising_views : (changes : List (Vec ℕ × Option (Vec ℕ))) → IsRising changes → IsStrictlySortedBy bytes_cmp (map (λ e. e.0) (map change_view changes))
unfolding IsStrictlySortedBy
rising_views [] h = tt
rising_views (c ∷ changes) h = (below c.0 changes h.0, rising_views changes h.1)
  where
    below : (key : Vec ℕ) (changes : List (Vec ℕ × Option (Vec ℕ))) → AllByRecursion (λ y. vec_cmp key y ≡ Less) (keys_of changes) → AllByRecursion (λ y. bytes_cmp key.items y ≡ Less) (map (λ e. e.0) (map change_view changes))
    below key [] h = tt
    below key (c ∷ changes) h = (h.0, below key changes h.1)

find-listed : (q : List ℕ) (changes : List (Vec ℕ × Option (Vec ℕ))) → find (slice_cmp nat_cmp) q (map change_view changes) ≡ listed changes q
find-listed q [] = refl
find-listed q (c ∷ changes) =
    elim (is_eq (slice_cmp nat_cmp q c.0.items)) as (λ b. cond b (Some (value_view c.1)) (find (slice_cmp nat_cmp) q (map change_view changes)) ≡ option_map value_view (cond b (Some c.1) (lookup (λ k. is_eq (slice_cmp nat_cmp q k.items)) changes))) [
      | true ↦ refl
      | false ↦ find-listed q changes
    ]

-- the changes of a lone layer are the delta
pub IsDelta-layer : (base : Bytes) (layer : Layer) (layers : List Layer) (current : Bytes) (saved : List Bytes) (changes : List (Vec ℕ × Option (Vec ℕ))) → length layers ≡ 0 → changes ≡ layer.entries → IsRising layer.entries → Piles base layer layers current saved → IsDelta base (map change_view changes) current
IsDelta-layer base layer [] current [] changes none e rising piles = rw e (record {
  rising = rising_views layer.entries rising;
  leads = λ q. piles.0 q ∙ ap (λ c. after_change c (get base q)) (sym (find-listed q layer.entries));
  least = λ q value is. piles.1 q value (sym (find-listed q layer.entries) ∙ is);
})
IsDelta-layer base layer [] current (map ∷ saved) changes none e rising piles = absurd piles
IsDelta-layer base layer (next ∷ layers) current saved changes none e rising piles = absurd (omega arith)

popped : {A : Type 0} (old new : List A) (last : Option A) (x : A) → old ≡ new ++ option_to_list last → last ≡ Some x → old ≡ new ++ x ∷ []
popped old new last x e is = e ∙ ap (λ o. new ++ option_to_list o) is

-- the list without its last, from the end
pub reverse-popped : {A : Type 0} (old new : List A) (last : Option A) (x : A) → old ≡ new ++ option_to_list last → last ≡ Some x → reverse old ≡ x ∷ reverse new
reverse-popped old new last x e is = ap reverse (popped old new last x e is) ∙ reverse-append new (x ∷ [])

pub length-popped : {A : Type 0} (old new : List A) (last : Option A) (x : A) → old ≡ new ++ option_to_list last → last ≡ Some x → length new + 1 ≡ length old
length-popped old new last x e is = sym (ap length (popped old new last x e is) ∙ length-append new (x ∷ []))
