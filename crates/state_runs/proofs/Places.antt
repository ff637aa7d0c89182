-- Where a key stands among changes whose keys rise, and the first change between two bounds.
use Rattle.std.proofs.Common.{◌≡◌, ℕ, suc, zero, ◌-◌, ◌<◌, ◌≤◌, inl, inr, Bool, true, false, cond, not, ◌&&◌, List, [], ◌∷◌, map, length, Option, Some, None, refl, sym, ◌∙◌, ap, subst, true≢false, arith}
use Rattle.std.specs.declared.cmp.Ordering.TheVariants.{Less}
use Rattle.std.specs.Global.{Vec}
use Rattle.std.specs.Prelude.{slice_index_or}
use Rattle.std.specs.List.{slice_get, filter, AllWithin}
use denote.Ref.{Bor}
use Rattle.std.specs.Slice.{IsItemAt}
use Rattle.std.specs.Option.{option_map, option_copied, option_or, is_some}
use Rattle.std.proofs.lemmas.Option.{same_Some, slice_get-map, slice_get-get_or, slice_get_past}
use Rattle.std.specs.Ordering.{is_eq, is_lt}
use Rattle.kv_layers.specs.declared.order.Order.{Order}
use Rattle.kv_layers.specs.declared.order.Order.TheVariants.{Ascending, Descending}
use Rattle.kv_layers.specs.Bytes.{bytes_cmp}
use Rattle.kv_layers.specs.Next.{comes_before, is_from, is_below, is_within, IsNext}
use Rattle.kv_layers.specs.Rising.{change_view, KeysRise}
use Rattle.kv_layers.proofs.Keys.{less_of, is_lt_of, first_of, second_of, both, from_later, from-not_below}
use Rattle.state_runs.specs.Runs.{Run}
use Rattle.state_runs.specs.Places.{count_below, first_from, last_below, nearest}
use Rattle.state_runs.proofs.Keys.{same_key, is_itself, less_trans, not_same-less, not_same-greater, not_less-cases, below_less}
use Rattle.state_runs.proofs.Lists.{found, Above, values_of, rising_first, rising_rest, above_less, found-other, found-same, found-above}

abbrev pub Listed : Type 0
Listed = List (Vec ℕ × Option (Vec ℕ))

pub shown-values : (changes : Listed) → map change_view (filter (λ change. is_some change.1) changes) ≡ values_of (map change_view changes)
shown-values [] = refl
shown-values ((key, None) ∷ changes) = shown-values changes
shown-values ((key, Some value) ∷ changes) = ap (λ cs. (key.items, Some value.items) ∷ cs) (shown-values changes)

-- whether a change is below the key
abbrev pub is_before : List ℕ → Vec ℕ × Option (Vec ℕ) → Bool
is_before key change = comes_before Ascending change.0.items key

above_at : (k : List ℕ) (changes : Listed) (j : ℕ) (d : Vec ℕ × Option (Vec ℕ)) → Above k (map change_view changes) → j < length changes → bytes_cmp k (slice_index_or changes j d).0.items ≡ Less
above_at k [] j d h lt = absurd (omega arith)
above_at k (c ∷ changes) zero d h lt = h.0
above_at k (c ∷ changes) (suc j) d h lt = above_at k changes j d h.1 (omega arith)

pub partitioned : (key : List ℕ) (changes : Listed) → KeysRise (map change_view changes) → (i j : ℕ) (d : Vec ℕ × Option (Vec ℕ)) → i ≤ j → j < length changes → is_before key (slice_index_or changes j d) ≡ true → is_before key (slice_index_or changes i d) ≡ true
partitioned key [] rising i j d le lt h = absurd (omega arith)
partitioned key (c ∷ changes) rising zero zero d le lt h = h
partitioned key (c ∷ changes) rising zero (suc j) d le lt h =
    is_lt_of _ (less_trans c.0.items (slice_index_or changes j d).0.items key (above_at c.0.items changes j d (rising_first (change_view c) (map change_view changes) rising) (omega arith)) (less_of _ h))
partitioned key (c ∷ changes) rising (suc i) zero d le lt h = absurd (omega arith)
partitioned key (c ∷ changes) rising (suc i) (suc j) d le lt h = partitioned key changes (rising_rest (change_view c) (map change_view changes) rising) i j d (omega arith) (omega arith) h

pub count-partition : (key : List ℕ) (changes : Listed) (i : ℕ) → i ≤ length changes → AllWithin (λ c. is_before key c ≡ true) changes 0 i → AllWithin (λ c. is_before key c ≡ false) changes i (length changes) → i ≡ count_below key (map change_view changes)
count-partition key [] i le low high = omega arith
count-partition key (c ∷ changes) zero le low high = sym (ap (λ b. cond b (suc (count_below key (map change_view changes))) 0) (high 0 c (omega arith) (omega arith)))
count-partition key (c ∷ changes) (suc i) le low high =
    ap suc (count-partition key changes i (omega arith) (λ k d p q. low (suc k) d (omega arith) (omega arith)) (λ k d p q. high (suc k) d (omega arith) (omega arith)))
    ∙ sym (ap (λ b. cond b (suc (count_below key (map change_view changes))) 0) (low 0 c (omega arith) (omega arith)))

item_at : (changes : Listed) (i : ℕ) (r : Option (Bor (Vec ℕ × Option (Vec ℕ)))) → IsItemAt changes i r → option_copied r ≡ slice_get changes i
item_at changes i None h = sym (slice_get_past changes i h.3)
item_at changes i (Some x) h = ap Some (h.3.1 x.now) ∙ sym (slice_get-get_or changes i x.now h.3.0)

pub shown_at : (changes : Listed) (i : ℕ) (r : Option (Bor (Vec ℕ × Option (Vec ℕ)))) → option_copied r ≡ slice_get changes i → option_map change_view (option_copied r) ≡ slice_get (map change_view changes) i
shown_at changes i r e = ap (option_map change_view) e ∙ sym (slice_get-map change_view changes i)

pub shown-item : (changes : Listed) (i : ℕ) (r : Option (Bor (Vec ℕ × Option (Vec ℕ)))) → IsItemAt changes i r → option_map change_view (option_copied r) ≡ slice_get (map change_view changes) i
shown-item changes i r h = shown_at changes i r (item_at changes i r h)

pub first-counted : (lo : List ℕ) (cs : Run) → slice_get cs (count_below lo cs) ≡ first_from (Some lo) cs
first-counted lo [] = refl
first-counted lo (c ∷ cs) =
    elim (is_lt (bytes_cmp c.0 lo)) as (λ b. slice_get (c ∷ cs) (cond b (suc (count_below lo cs)) 0) ≡ cond (not b) (Some c) (first_from (Some lo) cs)) [
      | true ↦ first-counted lo cs
      | false ↦ refl
    ]
    ∙ ap (λ b. cond b (Some c) (first_from (Some lo) cs)) (sym (from-not_below lo c.0))

pub first-all : (cs : Run) → slice_get cs 0 ≡ first_from None cs
first-all [] = refl
first-all (c ∷ cs) = refl

pub last-counted_none : (hi : List ℕ) (cs : Run) → count_below hi cs ≡ 0 → last_below (Some hi) cs ≡ None
last-counted_none hi [] e = refl
last-counted_none hi (c ∷ cs) e =
    elim (is_lt (bytes_cmp c.0 hi)) as (λ b. cond b (suc (count_below hi cs)) 0 ≡ 0 → cond b (option_or (last_below (Some hi) cs) (Some c)) None ≡ None) [
      | true ↦ λ h. absurd (omega arith)
      | false ↦ λ _. refl
    ] e

-- what both of two look-ups give
abbrev Gives : Option (List ℕ × Option (List ℕ)) → Option (List ℕ × Option (List ℕ)) → Type 0
Gives a b = (c : List ℕ × Option (List ℕ)) × (a ≡ Some c) × (b ≡ Some c)

last-counted_some : (hi : List ℕ) (cs : Run) (n : ℕ) → count_below hi cs ≡ suc n → Gives (slice_get cs n) (last_below (Some hi) cs)
last-counted_some hi [] n e = absurd (omega arith)
last-counted_some hi (c ∷ cs) n e =
    elim (is_lt (bytes_cmp c.0 hi)) as (λ b. cond b (suc (count_below hi cs)) 0 ≡ suc n → Gives (slice_get (c ∷ cs) n) (cond b (option_or (last_below (Some hi) cs) (Some c)) None)) [
      | true ↦ λ h. at (last-counted_some hi cs) (count_below hi cs) refl n (omega arith)
      | false ↦ λ h. absurd (omega arith)
    ] e
  where
    at : ((m : ℕ) → count_below hi cs ≡ suc m → Gives (slice_get cs m) (last_below (Some hi) cs)) → (m : ℕ) → count_below hi cs ≡ m → (n : ℕ) → n ≡ m → Gives (slice_get (c ∷ cs) n) (option_or (last_below (Some hi) cs) (Some c))
    at earlier zero e n same = (c, ap (slice_get (c ∷ cs)) same, ap (λ o. option_or o (Some c)) (last-counted_none hi cs e))
    at earlier (suc m) e n same =
        let later = earlier m e in
        (later.0, ap (slice_get (c ∷ cs)) same ∙ later.1, ap (λ o. option_or o (Some c)) later.2)

pub last-counted : (hi : List ℕ) (cs : Run) (n : ℕ) → count_below hi cs ≡ suc n → slice_get cs n ≡ last_below (Some hi) cs
last-counted hi cs n e = let h = last-counted_some hi cs n e in h.1 ∙ sym h.2

last-all_some : (c : List ℕ × Option (List ℕ)) (cs : Run) → Gives (slice_get (c ∷ cs) (length cs)) (last_below None (c ∷ cs))
last-all_some c [] = (c, refl, refl)
last-all_some c (d ∷ cs) =
    let later = last-all_some d cs in
    (later.0, later.1, ap (λ o. option_or o (Some c)) later.2)

pub last-all : (cs : Run) (n : ℕ) → n ≡ length cs - 1 → slice_get cs n ≡ last_below None cs
last-all [] n e = refl
last-all (c ∷ cs) n e =
    let h = last-all_some c cs in
    let same : n ≡ length cs = omega arith in
    ap (slice_get (c ∷ cs)) same ∙ h.1 ∙ sym h.2

-- a change only if it lies within the bounds
abbrev pub if_within : Option (List ℕ) → Option (List ℕ) → Option (List ℕ × Option (List ℕ)) → Option (List ℕ × Option (List ℕ))
if_within lo hi None = None
if_within lo hi (Some change) = cond (is_within lo hi change.0) (Some change) None

not_both : (a b : Bool) → (a && b) ≡ false → a ≡ true → b ≡ false
not_both true b h e = h
not_both false b h e = absurd (true≢false (sym e))

-- what has the same at all keys within the bounds has the same first entry
pub IsNext-agree : (f g : List ℕ → Option (Option (List ℕ))) (order : Order) (lo hi : Option (List ℕ)) (r : Option (List ℕ × Option (List ℕ))) → ((q : List ℕ) → is_within lo hi q ≡ true → g q ≡ f q) → IsNext f lo hi order r → IsNext g lo hi order r
IsNext-agree f g order lo hi None agree h = λ q w. agree q w ∙ h q w
IsNext-agree f g order lo hi (Some e) agree h = (h.0, agree e.0 h.0 ∙ h.1, λ q w before. agree q w ∙ h.2 q w before)

-- no key is below that of the first change
found-before : (q : List ℕ) (c : List ℕ × Option (List ℕ)) (cs : Run) → KeysRise (c ∷ cs) → bytes_cmp q c.0 ≡ Less → found q (c ∷ cs) ≡ None
found-before q c cs rising lt = found-above q (c ∷ cs) (lt, above_less q c.0 cs lt (rising_first c cs rising))

-- a key that passes a test which another fails is another
other_by : (test : List ℕ → Bool) (a b : List ℕ) → test a ≡ true → test b ≡ false → is_eq (bytes_cmp a b) ≡ false
other_by test a b p q = elim (is_eq (bytes_cmp a b)) as (λ t. is_eq (bytes_cmp a b) ≡ t → t ≡ false) [
  | true ↦ λ e. absurd (true≢false (sym p ∙ ap test (same_key a b e) ∙ q))
  | false ↦ λ _. refl
] refl

pub IsNext-ascending : (lo hi : Option (List ℕ)) (cs : Run) → KeysRise cs → IsNext (λ q. found q cs) lo hi Ascending (if_within lo hi (first_from lo cs))
IsNext-ascending lo hi [] rising = λ q w. refl
IsNext-ascending lo hi (c ∷ cs) rising =
    elim (is_from lo c.0) as (λ b. is_from lo c.0 ≡ b → IsNext (λ q. found q (c ∷ cs)) lo hi Ascending (if_within lo hi (cond b (Some c) (first_from lo cs)))) [
      | true ↦ λ at. elim (is_within lo hi c.0) as (λ b. is_within lo hi c.0 ≡ b → IsNext (λ q. found q (c ∷ cs)) lo hi Ascending (cond b (Some c) None)) [
        | true ↦ λ w. (w, found-same c.0 c cs (is_itself c.0), λ q _ before. found-before q c cs rising (less_of _ before))
        | false ↦ λ out q w. found-before q c cs rising (below_less hi q c.0 (second_of (is_from lo q) _ w) (not_both (is_from lo c.0) _ out at))
      ] refl
      | false ↦ λ out. IsNext-agree (λ q. found q cs) (λ q. found q (c ∷ cs)) Ascending lo hi (if_within lo hi (first_from lo cs))
          (λ q w. found-other q c cs (other_by (is_from lo) q c.0 (first_of _ _ w) out)) (IsNext-ascending lo hi cs (rising_rest c cs rising))
    ] refl

last_below-below : (hi : Option (List ℕ)) (cs : Run) (e : List ℕ × Option (List ℕ)) → last_below hi cs ≡ Some e → is_below hi e.0 ≡ true
last_below-below hi [] e is = cc
last_below-below hi (c ∷ cs) e is =
    elim (is_below hi c.0) as (λ b. is_below hi c.0 ≡ b → cond b (option_or (last_below hi cs) (Some c)) None ≡ Some e → is_below hi e.0 ≡ true) [
      | true ↦ λ t h. elim (last_below hi cs) as (λ o. last_below hi cs ≡ o → option_or o (Some c) ≡ Some e → is_below hi e.0 ≡ true) [
        | None ↦ λ _ same. subst (λ (x : List ℕ × Option (List ℕ)). is_below hi x.0 ≡ true) (same_Some c e same) t
        | Some x ↦ λ later same. last_below-below hi cs e (later ∙ same)
      ] refl h
      | false ↦ λ _ h. cc
    ] refl is

last_below-above : (k : List ℕ) (hi : Option (List ℕ)) (cs : Run) (e : List ℕ × Option (List ℕ)) → Above k cs → last_below hi cs ≡ Some e → bytes_cmp k e.0 ≡ Less
last_below-above k hi [] e above is = cc
last_below-above k hi (c ∷ cs) e above is =
    elim (is_below hi c.0) as (λ b. cond b (option_or (last_below hi cs) (Some c)) None ≡ Some e → bytes_cmp k e.0 ≡ Less) [
      | true ↦ λ h. elim (last_below hi cs) as (λ o. last_below hi cs ≡ o → option_or o (Some c) ≡ Some e → bytes_cmp k e.0 ≡ Less) [
        | None ↦ λ _ same. subst (λ (x : List ℕ × Option (List ℕ)). bytes_cmp k x.0 ≡ Less) (same_Some c e same) above.0
        | Some x ↦ λ later same. last_below-above k hi cs e above.1 (later ∙ same)
      ] refl h
      | false ↦ λ h. cc
    ] is

-- the last change of the later ones is the last one of all
last-later : (lo hi : Option (List ℕ)) (c : List ℕ × Option (List ℕ)) (cs : Run) (e : List ℕ × Option (List ℕ)) → Above c.0 cs → last_below hi cs ≡ Some e → IsNext (λ q. found q cs) lo hi Descending (if_within lo hi (Some e)) → IsNext (λ q. found q (c ∷ cs)) lo hi Descending (if_within lo hi (Some e))
last-later lo hi c cs e above is h =
    let less = last_below-above c.0 hi cs e above is in
    elim (is_within lo hi e.0) as (λ b. is_within lo hi e.0 ≡ b → IsNext (λ q. found q cs) lo hi Descending (cond b (Some e) None) → IsNext (λ q. found q (c ∷ cs)) lo hi Descending (cond b (Some e) None)) [
      | true ↦ λ _ next. (next.0, found-other e.0 c cs (not_same-greater e.0 c.0 less) ∙ next.1, λ q w after. found-other q c cs (not_same-greater q c.0 (less_trans c.0 e.0 q less (less_of _ after))) ∙ next.2 q w after)
      | false ↦ λ out next q w. found-other q c cs (not_first out q w less) ∙ next q w
    ] refl h
  where
    not_first : is_within lo hi e.0 ≡ false → (q : List ℕ) → is_within lo hi q ≡ true → bytes_cmp c.0 e.0 ≡ Less → is_eq (bytes_cmp q c.0) ≡ false
    not_first out q w less =
        elim (is_eq (bytes_cmp q c.0)) as (λ t. is_eq (bytes_cmp q c.0) ≡ t → t ≡ false) [
          | true ↦ λ t.
              let from = from_later lo c.0 e.0 (subst (λ x. is_from lo x ≡ true) (same_key q c.0 t) (first_of _ _ w)) less in
              absurd (true≢false (sym (both _ _ from (last_below-below hi cs e is)) ∙ out))
          | false ↦ λ _. refl
        ] refl

pub IsNext-descending : (lo hi : Option (List ℕ)) (cs : Run) → KeysRise cs → IsNext (λ q. found q cs) lo hi Descending (if_within lo hi (last_below hi cs))
IsNext-descending lo hi [] rising = λ q w. refl
IsNext-descending lo hi (c ∷ cs) rising =
    elim (is_below hi c.0) as (λ b. is_below hi c.0 ≡ b → IsNext (λ q. found q (c ∷ cs)) lo hi Descending (if_within lo hi (cond b (option_or (last_below hi cs) (Some c)) None))) [
      | true ↦ λ _. elim (last_below hi cs) as (λ o. last_below hi cs ≡ o → IsNext (λ q. found q cs) lo hi Descending (if_within lo hi o) → IsNext (λ q. found q (c ∷ cs)) lo hi Descending (if_within lo hi (option_or o (Some c)))) [
        | None ↦ λ _ none. elim (is_within lo hi c.0) as (λ b. is_within lo hi c.0 ≡ b → IsNext (λ q. found q (c ∷ cs)) lo hi Descending (cond b (Some c) None)) [
          | true ↦ λ w. (w, found-same c.0 c cs (is_itself c.0), λ q v after. found-other q c cs (not_same-greater q c.0 (less_of _ after)) ∙ none q v)
          | false ↦ λ out q w. found-other q c cs (other_by (is_within lo hi) q c.0 w out) ∙ none q w
        ] refl
        | Some e ↦ λ is next. last-later lo hi c cs e (rising_first c cs rising) is next
      ] refl (IsNext-descending lo hi cs (rising_rest c cs rising))
      | false ↦ λ out q w. found-before q c cs rising (below_less hi q c.0 (second_of (is_from lo q) _ w) out)
    ] refl

pub IsNext-nearest : (order : Order) (lo hi : Option (List ℕ)) (cs : Run) → KeysRise cs → (o : Option (List ℕ × Option (List ℕ))) → nearest order lo hi cs ≡ o → IsNext (λ q. found q cs) lo hi order (if_within lo hi o)
IsNext-nearest Ascending lo hi cs rising o is = subst (λ r. IsNext (λ q. found q cs) lo hi Ascending (if_within lo hi r)) is (IsNext-ascending lo hi cs rising)
IsNext-nearest Descending lo hi cs rising o is = subst (λ r. IsNext (λ q. found q cs) lo hi Descending (if_within lo hi r)) is (IsNext-descending lo hi cs rising)

-- the change of a key, if this one is at it
abbrev pub if_at : List ℕ → Option (List ℕ × Option (List ℕ)) → Option (Option (List ℕ))
if_at key None = None
if_at key (Some change) = cond (is_eq (bytes_cmp key change.0)) (Some change.1) None

pub found-first : (q : List ℕ) (cs : Run) → KeysRise cs → found q cs ≡ if_at q (first_from (Some q) cs)
found-first q [] rising = refl
found-first q (c ∷ cs) rising =
    elim (is_lt (bytes_cmp c.0 q)) as (λ b. is_lt (bytes_cmp c.0 q) ≡ b → found q (c ∷ cs) ≡ if_at q (cond (not b) (Some c) (first_from (Some q) cs))) [
      | true ↦ λ e. found-other q c cs (not_same-greater q c.0 (less_of _ e)) ∙ found-first q cs (rising_rest c cs rising)
      | false ↦ λ e. elim (not_less-cases c.0 q e) [
        | inl same ↦
            let is = subst (λ x. is_eq (bytes_cmp x c.0) ≡ true) same (is_itself c.0) in
            found-same q c cs is ∙ sym (ap (λ b. cond b (Some c.1) None) is)
        | inr lt ↦ found-before q c cs rising lt ∙ sym (ap (λ b. cond b (Some c.1) None) (not_same-less q c.0 lt))
      ]
    ] refl
    ∙ ap (λ b. if_at q (cond b (Some c) (first_from (Some q) cs))) (sym (from-not_below q c.0))
