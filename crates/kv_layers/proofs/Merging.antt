-- The first change of all layers, and the first entry of the map that they lead to.
use Rattle.std.proofs.Common.{◌≡◌, ℕ, ◌+◌, ◌<◌, ◌≤◌, ◌⊎◌, inl, inr, true, false, cond, List, [], ◌∷◌, ◌++◌, reverse, Option, Some, None, refl, sym, ◌∙◌, ap, subst, arith}
use denote.Ref.{Bor}
use Rattle.std.specs.Option.{option_map, option_or}
use Rattle.std.proofs.lemmas.List.{reverse-append}
use Rattle.std.specs.Ordering.{is_eq, nat_cmp}
use Rattle.std.specs.Cmp.Lexicographic.{slice_cmp}
use Rattle.std.specs.Global.{Vec}
use Rattle.std.specs.FinMap.{get}
use Rattle.std.specs.Map.{lookup}
use Rattle.kv_layers.specs.declared.order.Order.{Order}
use Rattle.kv_layers.specs.Bytes.{Bytes}
use Rattle.kv_layers.specs.Changes.{Layer, change_at, change_in, after_change}
use Rattle.kv_layers.specs.Layers.{Piles, HasCurrent, stack}
use Rattle.kv_layers.specs.declared.layers.Layers.{Layers}
use Rattle.kv_layers.specs.Merge.{chosen, as_change, shown_change}
use Rattle.kv_layers.specs.Next.{comes_before, is_within, IsNext}
use Rattle.kv_layers.specs.Plain.{value_view}
use Rattle.kv_layers.specs.Sorted.{value_at, shown_entry, narrowed_lower, narrowed_upper}
use Rattle.kv_layers.proofs.Keys.{same_of, comes_before-trans, comes_before-self, comes_before-cases, comes_before-false, within_narrowed, narrowed_within}
use Rattle.kv_layers.proofs.Ranges.{equal_of}
use Rattle.kv_layers.proofs.Maps.{IsNext-view}

-- the first of two is the first of what has the entries of both
pub IsNext-chosen : {X : Type 0} (c b : List ℕ → Option X) (lo hi : Option (List ℕ)) (order : Order) (u l : Option (List ℕ × X)) → IsNext c lo hi order u → IsNext b lo hi order l → IsNext (λ q. option_or (c q) (b q)) lo hi order (chosen order u l)
IsNext-chosen c b lo hi order None None hu hl = λ q w. ap (λ o. option_or o (b q)) (hu q w) ∙ hl q w
IsNext-chosen c b lo hi order None (Some l) hu hl =
    (hl.0, ap (λ o. option_or o (b l.0)) (hu l.0 hl.0) ∙ hl.1, λ q w before. ap (λ o. option_or o (b q)) (hu q w) ∙ hl.2 q w before)
IsNext-chosen c b lo hi order (Some u) None hu hl =
    (hu.0, ap (λ o. option_or o (b u.0)) hu.1, λ q w before. ap (λ o. option_or o (b q)) (hu.2 q w before) ∙ hl q w)
IsNext-chosen {X} c b lo hi order (Some u) (Some l) hu hl =
    elim (comes_before order l.0 u.0) as (λ t. comes_before order l.0 u.0 ≡ t → IsNext (λ q. option_or (c q) (b q)) lo hi order (cond t (Some l) (Some u))) [
      | true ↦ λ e. (hl.0, ap (λ o. option_or o (b l.0)) (hu.2 l.0 hl.0 e) ∙ hl.1, λ q w before. ap (λ o. option_or o (b q)) (hu.2 q w (comes_before-trans order q l.0 u.0 before e)) ∙ hl.2 q w before)
      | false ↦ λ e. (hu.0, ap (λ o. option_or o (b u.0)) hu.1, λ q w before. ap (λ o. option_or o (b q)) (hu.2 q w before) ∙ hl.2 q w (earlier order q u.0 l.0 before (comes_before-false order u.0 l.0 e)))
    ] refl
  where
    earlier : (order : Order) (q k j : List ℕ) → comes_before order q k ≡ true → (comes_before order k j ≡ true) ⊎ (k ≡ j) → comes_before order q j ≡ true
    earlier order q k j before (inl h) = comes_before-trans order q k j before h
    earlier order q k j before (inr e) = subst (λ x. comes_before order q x ≡ true) e before

-- the same, of what equals the first of the two
pub IsNext-first : {X : Type 0} (c b : List ℕ → Option X) (lo hi : Option (List ℕ)) (order : Order) (u l r : Option (List ℕ × X)) → IsNext c lo hi order u → IsNext b lo hi order l → r ≡ chosen order u l → IsNext (λ q. option_or (c q) (b q)) lo hi order r
IsNext-first c b lo hi order u l r hu hl e = subst (IsNext (λ q. option_or (c q) (b q)) lo hi order) (sym e) (IsNext-chosen c b lo hi order u l hu hl)

joined : Option (Option (List ℕ)) → Option (List ℕ)
joined None = None
joined (Some value) = value

-- what there is after the changes, all entries below taken as changes
after-joined : (c : Option (Option (List ℕ))) (v : Option (List ℕ)) → after_change c v ≡ joined (option_or c (option_map Some v))
unfolding joined
after-joined None None = refl
after-joined None (Some v) = refl
after-joined (Some w) v = refl

pub after-after : (c d : Option (Option (List ℕ))) (v : Option (List ℕ)) → after_change c (after_change d v) ≡ after_change (option_or c d) v
after-after None d v = refl
after-after (Some w) d v = refl

or-none : (c : Option (Option (List ℕ))) → c ≡ option_or c None
or-none None = refl
or-none (Some w) = refl

-- the current map by the newest change of a key
pub get-piled : (base : Bytes) (layer : Layer) (layers : List Layer) (current : Bytes) (saved : List Bytes) → Piles base layer layers current saved → (q : List ℕ) → get current q ≡ after_change (change_in (layer ∷ layers) q) (get base q)
get-piled base layer [] current [] piles q = piles.0 q ∙ ap (λ c. after_change c (get base q)) (or-none (change_at layer q))
get-piled base layer [] current (map ∷ saved) piles q = absurd piles
get-piled base layer (next ∷ layers) current [] piles q = absurd piles
get-piled base layer (next ∷ layers) current (map ∷ saved) piles q =
    piles.0 q ∙ ap (after_change (change_at layer q)) (get-piled base next layers map saved piles.1 q) ∙ after-after (change_at layer q) (change_in (next ∷ layers) q) (get base q)

-- a map, the changes that lead to it, and what lies below
pub record Overlaid (now : List ℕ → Option (List ℕ)) (change : List ℕ → Option (Option (List ℕ))) (under : List ℕ → Option (List ℕ)) : Type 0 where
  pub leads : (q : List ℕ) → now q ≡ after_change (change q) (under q)

module _ (now : List ℕ → Option (List ℕ)) (change : List ℕ → Option (Option (List ℕ))) (under : List ℕ → Option (List ℕ)) (over : Overlaid now change under) where
  all : List ℕ → Option (Option (List ℕ))
  all q = option_or (change q) (option_map Some (under q))

  now-all : (q : List ℕ) → now q ≡ joined (all q)
  unfolding all
  now-all q = over.leads q ∙ after-joined (change q) (under q)

  IsNext-under : (lo hi : Option (List ℕ)) (order : Order) (r : Option (List ℕ × List ℕ)) → IsNext under lo hi order r → IsNext (λ q. option_map Some (under q)) lo hi order (option_map as_change r)
  IsNext-under lo hi order None h = λ q w. ap (option_map Some) (h q w)
  IsNext-under lo hi order (Some e) h = (h.0, ap (option_map Some) h.1, λ q w before. ap (option_map Some) (h.2 q w before))

  IsNext-all : (lo hi : Option (List ℕ)) (order : Order) (c : Option (List ℕ × Option (List ℕ))) (r : Option (List ℕ × List ℕ)) → IsNext change lo hi order c → IsNext under lo hi order r → IsNext all lo hi order (chosen order c (option_map as_change r))
  unfolding all
  IsNext-all lo hi order c r hc hr = IsNext-chosen change (λ q. option_map Some (under q)) lo hi order c (option_map as_change r) hc (IsNext-under lo hi order r hr)

  -- neither changes nor entries
  pub IsNext-none : (lo hi : Option (List ℕ)) (order : Order) (c : Option (List ℕ × Option (List ℕ))) (r : Option (List ℕ × List ℕ)) → IsNext change lo hi order c → IsNext under lo hi order r → None ≡ chosen order c (option_map as_change r) → IsNext now lo hi order None
  unfolding joined
  IsNext-none lo hi order c r hc hr e q w =
      let h : IsNext all lo hi order None = subst (IsNext all lo hi order) (sym e) (IsNext-all lo hi order c r hc hr) in
      now-all q ∙ ap joined (h q w)

  -- a value
  pub IsNext-value : (lo hi : Option (List ℕ)) (order : Order) (c : Option (List ℕ × Option (List ℕ))) (r : Option (List ℕ × List ℕ)) (key value : List ℕ) → IsNext change lo hi order c → IsNext under lo hi order r → Some (key, Some value) ≡ chosen order c (option_map as_change r) → IsNext now lo hi order (Some (key, value))
  unfolding joined
  IsNext-value lo hi order c r key value hc hr e =
      let h : IsNext all lo hi order (Some (key, Some value)) = subst (IsNext all lo hi order) (sym e) (IsNext-all lo hi order c r hc hr) in
      (h.0, now-all key ∙ ap joined h.1, λ q w before. now-all q ∙ ap joined (h.2 q w before))

  -- no change comes before what comes first below
  pub IsNext-base : (lo hi : Option (List ℕ)) (order : Order) (c : Option (List ℕ × Option (List ℕ))) (r : Option (List ℕ × List ℕ)) → IsNext change lo hi order c → IsNext under lo hi order r → chosen order c (option_map as_change r) ≡ option_map as_change r → IsNext now lo hi order r
  IsNext-base lo hi order c None hc hr e = IsNext-none lo hi order c None hc hr (sym e)
  IsNext-base lo hi order c (Some entry) hc hr e = IsNext-value lo hi order c (Some entry) entry.0 entry.1 hc hr (sym e)

  -- a removed key: the next entry is the next one after it
  pub IsNext-removed : (lo hi : Option (List ℕ)) (order : Order) (c : Option (List ℕ × Option (List ℕ))) (r : Option (List ℕ × List ℕ)) (key : List ℕ) → IsNext change lo hi order c → IsNext under lo hi order r → Some (key, None) ≡ chosen order c (option_map as_change r) → (found : Option (List ℕ × List ℕ)) → IsNext now (narrowed_lower order lo key) (narrowed_upper order hi key) order found → IsNext now lo hi order found
  unfolding joined
  IsNext-removed lo hi order c r key hc hr e found next =
      let h : IsNext all lo hi order (Some (key, None)) = subst (IsNext all lo hi order) (sym e) (IsNext-all lo hi order c r hc hr) in
      let passed : (q : List ℕ) → is_within lo hi q ≡ true → (comes_before order q key ≡ true) ⊎ (q ≡ key) ⊎ (comes_before order key q ≡ true) → (comes_before order key q ≡ true → now q ≡ None) → now q ≡ None =
      (λ q w place later. elim place [
        | inl before ↦ now-all q ∙ ap joined (h.2 q w before)
        | inr (inl same) ↦ ap now same ∙ now-all key ∙ ap joined h.1
        | inr (inr after) ↦ later after
      ]) in
      by_found found next h.0 passed
    where
      by_found : (found : Option (List ℕ × List ℕ)) → IsNext now (narrowed_lower order lo key) (narrowed_upper order hi key) order found → is_within lo hi key ≡ true
          → ((q : List ℕ) → is_within lo hi q ≡ true → (comes_before order q key ≡ true) ⊎ (q ≡ key) ⊎ (comes_before order key q ≡ true) → (comes_before order key q ≡ true → now q ≡ None) → now q ≡ None)
          → IsNext now lo hi order found
      by_found None next within passed = λ q w. passed q w (comes_before-cases order q key) (λ after. next q (narrowed_within order lo hi key q w after))
      by_found (Some e) next within passed = (
        (within_narrowed order lo hi key e.0 within next.0).0,
        next.1,
        λ q w before. passed q w (comes_before-cases order q key) (λ after. next.2 q (narrowed_within order lo hi key q w after) before),
      )

no_removal : (key : List ℕ) (entry : List ℕ × List ℕ) → Some (key, None) ≡ Some (as_change entry) → ⊥
no_removal key entry e =
    let values : Some None ≡ Some (Some entry.1) = ap (option_map (λ (p : List ℕ × Option (List ℕ)). p.1)) e in
    cc

-- a removal that comes first is one of the changes
pub removal_of : (order : Order) (c : Option (List ℕ × Option (List ℕ))) (r : Option (List ℕ × List ℕ)) (key : List ℕ) → Some (key, None) ≡ chosen order c (option_map as_change r) → c ≡ Some (key, None)
removal_of order None None key e = cc
removal_of order None (Some entry) key e = absurd (no_removal key entry e)
removal_of order (Some change) None key e = sym e
removal_of order (Some change) (Some entry) key e =
    elim (comes_before order entry.0 change.0) as (λ t. Some (key, None) ≡ cond t (Some (as_change entry)) (Some change) → Some change ≡ Some (key, None)) [
      | true ↦ λ h. absurd (no_removal key entry h)
      | false ↦ λ h. sym h
    ] e

-- how many changes of a list lie within the bounds
abbrev pub count_within : Option (List ℕ) → Option (List ℕ) → List (Vec ℕ × Option (Vec ℕ)) → ℕ
count_within lo hi [] = 0
count_within lo hi (c ∷ changes) = cond (is_within lo hi c.0.items) 1 0 + count_within lo hi changes

-- and of all layers
abbrev pub changes_within : Option (List ℕ) → Option (List ℕ) → List Layer → ℕ
changes_within lo hi [] = 0
changes_within lo hi (layer ∷ layers) = count_within lo hi layer.entries + changes_within lo hi layers

module _ (order : Order) (lo hi : Option (List ℕ)) (key : List ℕ) (within : is_within lo hi key ≡ true) where
  one : (q : List ℕ) → cond (is_within (narrowed_lower order lo key) (narrowed_upper order hi key) q) 1 0 ≤ cond (is_within lo hi q) 1 0
  one q = elim (is_within (narrowed_lower order lo key) (narrowed_upper order hi key) q) as (λ b. is_within (narrowed_lower order lo key) (narrowed_upper order hi key) q ≡ b → cond b 1 0 ≤ cond (is_within lo hi q) 1 0) [
    | true ↦ λ e. rw ((within_narrowed order lo hi key q within e).0) (omega arith)
    | false ↦ λ _. omega arith
  ] refl

  itself_out : is_within (narrowed_lower order lo key) (narrowed_upper order hi key) key ≡ false
  itself_out = elim (is_within (narrowed_lower order lo key) (narrowed_upper order hi key) key) as (λ b. is_within (narrowed_lower order lo key) (narrowed_upper order hi key) key ≡ b → b ≡ false) [
    | true ↦ λ e. sym ((within_narrowed order lo hi key key within e).1) ∙ comes_before-self order key
    | false ↦ λ _. refl
  ] refl

  fewer : (changes : List (Vec ℕ × Option (Vec ℕ))) → count_within (narrowed_lower order lo key) (narrowed_upper order hi key) changes ≤ count_within lo hi changes
  fewer [] = omega arith
  fewer (c ∷ changes) = omega (arith, one c.0.items, fewer changes)

  less : (changes : List (Vec ℕ × Option (Vec ℕ))) (value : Option (Vec ℕ)) → lookup (λ k. is_eq (slice_cmp nat_cmp key k.items)) changes ≡ Some value → count_within (narrowed_lower order lo key) (narrowed_upper order hi key) changes < count_within lo hi changes
  less [] value e = cc
  less (c ∷ changes) value e =
      elim (is_eq (slice_cmp nat_cmp key c.0.items)) as (λ b. is_eq (slice_cmp nat_cmp key c.0.items) ≡ b → cond b (Some c.1) (lookup (λ k. is_eq (slice_cmp nat_cmp key k.items)) changes) ≡ Some value → count_within (narrowed_lower order lo key) (narrowed_upper order hi key) (c ∷ changes) < count_within lo hi (c ∷ changes)) [
        | true ↦ λ t _.
            let same = same_of key c.0.items (equal_of _ t) in
            let out = subst (λ k. is_within (narrowed_lower order lo key) (narrowed_upper order hi key) k ≡ false) same itself_out in
            let was = subst (λ k. is_within lo hi k ≡ true) same within in
            let f = fewer changes in
            rw (out, was) (omega arith)
        | false ↦ λ _ rest. omega (arith, one c.0.items, less changes value rest)
      ] refl e

  fewer_all : (layers : List Layer) → changes_within (narrowed_lower order lo key) (narrowed_upper order hi key) layers ≤ changes_within lo hi layers
  fewer_all [] = omega arith
  fewer_all (layer ∷ layers) = omega (arith, fewer layer.entries, fewer_all layers)

  -- past a changed key fewer changes are left
  pub changes_within-less : (layers : List Layer) (value : Option (List ℕ)) → change_in layers key ≡ Some value → changes_within (narrowed_lower order lo key) (narrowed_upper order hi key) layers < changes_within lo hi layers
  changes_within-less [] value e = cc
  changes_within-less (layer ∷ layers) value e =
      elim (value_at layer key) as (λ o. value_at layer key ≡ o → option_or (option_map value_view o) (change_in layers key) ≡ Some value → changes_within (narrowed_lower order lo key) (narrowed_upper order hi key) (layer ∷ layers) < changes_within lo hi (layer ∷ layers)) [
        | Some v ↦ λ found _. omega (arith, less layer.entries v found, fewer_all layers)
        | None ↦ λ _ rest. omega (arith, fewer layer.entries, changes_within-less layers value rest)
      ] refl e

shown-changes : (u : Option (Bor (Vec ℕ) × Bor (Option (Vec ℕ)))) → option_map {U = List ℕ × Option (List ℕ)} (λ (e : List ℕ × Option (Vec ℕ)). (e.0, value_view e.1)) (option_map shown_entry u) ≡ option_map shown_change u
shown-changes None = refl
shown-changes (Some e) = refl

-- the first change of a layer and of those below it
pub IsNext-layers : (layer : Layer) (layers : List Layer) (lo hi : Option (List ℕ)) (order : Order) (u : Option (Bor (Vec ℕ) × Bor (Option (Vec ℕ)))) (l r : Option (List ℕ × Option (List ℕ))) → IsNext (value_at layer) lo hi order (option_map shown_entry u) → IsNext (change_in layers) lo hi order l → r ≡ chosen order (option_map shown_change u) l → IsNext (change_in (layer ∷ layers)) lo hi order r
IsNext-layers layer layers lo hi order u l r hu hl e =
    let view = IsNext-view value_view (value_at layer) (change_at layer) (λ q. refl) lo hi order (option_map shown_entry u) hu in
    let upper : IsNext (change_at layer) lo hi order (option_map shown_change u) = subst (IsNext (change_at layer) lo hi order) (shown-changes u) view in
    subst (IsNext (change_in (layer ∷ layers)) lo hi order) (sym e) (IsNext-chosen (change_at layer) (change_in layers) lo hi order (option_map shown_change u) l upper hl)

pub reverse-last : (layers below : List Layer) (newest : Layer) → layers ≡ below ++ newest ∷ [] → reverse layers ≡ newest ∷ reverse below
reverse-last layers below newest e = ap reverse e ∙ reverse-append below (newest ∷ [])

-- what the layers have at a key
pub HasCurrent-get : {B : Type 0} (S : B → Bytes → Type 0) (layers : Layers B) (map : Bytes) (current : HasCurrent S layers map) (q : List ℕ) → get map q ≡ after_change (change_in (stack layers) q) (get current.0.base q)
HasCurrent-get S layers map current q = ap (λ m. get m q) (sym current.2) ∙ get-piled current.0.base layers.newest (reverse layers.below.items) current.0.current current.0.saved current.1.piled q

pub Overlaid-current : {B : Type 0} (S : B → Bytes → Type 0) (layers : Layers B) (map : Bytes) (current : HasCurrent S layers map) → Overlaid (get map) (change_in (stack layers)) (get current.0.base)
Overlaid-current S layers map current = record { leads = HasCurrent-get S layers map current }
