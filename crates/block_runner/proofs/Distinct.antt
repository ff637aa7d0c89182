-- Addresses met one by one are distinct where none is met again.
use Rattle.std.proofs.Common.{◌≡◌, ℕ, ◌+◌, ◌<◌, Bool, true, false, cond, not, ◌||◌, ◌&&◌, List, [], ◌∷◌, ◌++◌, length, map, take, drop, get_or, refl, sym, ap, ◌∙◌, bytes_eq}
use Rattle.std.proofs.lemmas.List.{take_more, drop_more, map-append}
use Rattle.std.proofs.lemmas.List.Folds.{list_any-append}
use Rattle.std.proofs.lemmas.Map.Text.{is_eq-slice_cmp}
use Rattle.std.proofs.lemmas.Slice.Eq.{bytes_eq-Decides}
use Rattle.std.specs.declared.cmp.Ordering.{Ordering}
use Rattle.std.specs.BTreeSet.{BTreeSet, UpdatesBy, contains_by}
use Rattle.std.specs.Cmp.{eq_by_cmp_equiv}
use Rattle.std.specs.Cmp.Lexicographic.{slice_cmp, nat_list_cmp_total}
use Rattle.std.specs.Global.{Vec}
use Rattle.std.specs.List.{list_all, list_any}
use Rattle.std.specs.Map.{IsKeyTest, AreApart}
use Rattle.std.specs.Ordering.{nat_cmp, is_eq}
use Rattle.std.specs.Set.{KeepsOthers}
use Rattle.chain_records.specs.Records.{bytes_view}
use Rattle.block_runner.specs.Opening.{are_unlike}

abbrev pub names : List (Vec ℕ) → List (List ℕ)
names addresses = map bytes_view addresses

-- whether an address is among these
abbrev pub is_met : List (List ℕ) → List ℕ → Bool
is_met before address = list_any (λ other. bytes_eq other address) before

-- those left are unlike each other, and none is among those before
abbrev pub are_new : List (List ℕ) → List (List ℕ) → Bool
are_new before [] = true
are_new before (address ∷ addresses) = not (is_met before address) && are_new (before ++ address ∷ []) addresses

abbrev unmet : List (List ℕ) → List (List ℕ) → Bool
unmet before left = list_all (λ address. not (is_met before address)) left

met_last : (m e a n : Bool) → (not (m || (e || false)) && (a && not n)) ≡ ((not m && a) && not (e || n))
met_last true e a n = refl
met_last false true true n = refl
met_last false true false n = refl
met_last false false a n = refl

unmet_more : (before : List (List ℕ)) (x : List ℕ) (left : List (List ℕ)) → unmet (before ++ x ∷ []) left ≡ (unmet before left && not (list_any (λ other. bytes_eq x other) left))
unmet_more before x [] = refl
unmet_more before x (y ∷ left) =
    ap (λ m. not m && unmet (before ++ x ∷ []) left) (list_any-append (λ other. bytes_eq other y) before (x ∷ []))
    ∙ ap (λ u. not (is_met before y || (bytes_eq x y || false)) && u) (unmet_more before x left)
    ∙ met_last (is_met before y) (bytes_eq x y) (unmet before left) (list_any (λ other. bytes_eq x other) left)

and_shift : (a b c d : Bool) → (a && ((b && c) && d)) ≡ ((a && b) && (c && d))
and_shift false b c d = refl
and_shift true false c d = refl
and_shift true true c d = refl

new_is : (before left : List (List ℕ)) → are_new before left ≡ (unmet before left && are_unlike left)
new_is before [] = refl
new_is before (x ∷ left) =
    let others = not (list_any (λ other. bytes_eq x other) left) in
    ap (λ n. not (is_met before x) && n) (new_is (before ++ x ∷ []) left ∙ ap (λ u. u && are_unlike left) (unmet_more before x left))
    ∙ and_shift (not (is_met before x)) (unmet before left) others (are_unlike left)

unmet_none : (left : List (List ℕ)) → unmet [] left ≡ true
unmet_none [] = refl
unmet_none (x ∷ left) = unmet_none left

pub new_all : (left : List (List ℕ)) → are_new [] left ≡ are_unlike left
new_all left = new_is [] left ∙ ap (λ u. u && are_unlike left) (unmet_none left)

names_push : (all : List (Vec ℕ)) (a : Vec ℕ) → names (all ++ a ∷ []) ≡ names all ++ a.items ∷ []
names_push all a = map-append bytes_view all (a ∷ [])

names_more : (all : List (Vec ℕ)) (i : ℕ) (a : Vec ℕ) → i < length all → a ≡ get_or all i a → names (take (i + 1) all) ≡ names (take i all) ++ a.items ∷ []
names_more all i a within is =
    ap names (take_more all i a within ∙ ap (λ x. take i all ++ x ∷ []) (sym is)) ∙ names_push (take i all) a

names_left : (all : List (Vec ℕ)) (i : ℕ) (a : Vec ℕ) → i < length all → a ≡ get_or all i a → names (drop i all) ≡ a.items ∷ names (drop (i + 1) all)
names_left all i a within is = ap names (drop_more all i a within ∙ ap (λ x. x ∷ drop (i + 1) all) (sym is))

or_cond : (b c : Bool) → cond b true c ≡ (c || (b || false))
or_cond true true = refl
or_cond true false = refl
or_cond false true = refl
or_cond false false = refl

pub met_more : (all : List (Vec ℕ)) (i : ℕ) (a : Vec ℕ) → i < length all → a ≡ get_or all i a → (address : List ℕ)
    → cond (bytes_eq a.items address) true (is_met (names (take i all)) address) ≡ is_met (names (take (i + 1) all)) address
met_more all i a within is address =
    or_cond (bytes_eq a.items address) (is_met (names (take i all)) address)
    ∙ sym (list_any-append (λ other. bytes_eq other address) (names (take i all)) (a.items ∷ []))
    ∙ ap (λ l. is_met l address) (sym (names_more all i a within is))

new_first : (before : List (List ℕ)) (a : List ℕ) (left : List (List ℕ)) → is_met before a ≡ false → are_new before (a ∷ left) ≡ are_new (before ++ a ∷ []) left
new_first before a left new = rw new refl

pub new_step : (all : List (Vec ℕ)) (i : ℕ) (a : Vec ℕ) → i < length all → a ≡ get_or all i a → is_met (names (take i all)) a.items ≡ false
    → are_new (names (take (i + 1) all)) (names (drop (i + 1) all)) ≡ are_new (names (take i all)) (names (drop i all))
new_step all i a within is new =
    ap (λ x. are_new x (names (drop (i + 1) all))) (names_more all i a within is)
    ∙ sym (new_first (names (take i all)) a.items (names (drop (i + 1) all)) new)
    ∙ ap (are_new (names (take i all))) (sym (names_left all i a within is))

pub not_true : (b c : Bool) → b ≡ not c → b ≡ true → c ≡ false
not_true b true is added = cc
not_true b false is added = refl

-- ---- a set of addresses

abbrev pub vec_cmp : Vec ℕ → Vec ℕ → Ordering
vec_cmp a b = slice_cmp nat_cmp a.items b.items

-- whether the set has these bytes
abbrev pub has_bytes : BTreeSet (Vec ℕ) → List ℕ → Bool
has_bytes set bytes = contains_by (λ k. slice_cmp nat_cmp bytes k.items) set

others_stay : (eq : Vec ℕ → Vec ℕ → Bool) (test : Vec ℕ → Bool) (old new : List (Vec ℕ)) → KeepsOthers eq test old new → (other : Vec ℕ → Bool) → IsKeyTest eq other → AreApart test other → list_any other new ≡ list_any other old
unfolding KeepsOthers
others_stay eq test old new h = h

apart : (bs cs : List ℕ) → bytes_eq bs cs ≡ false → (k : Vec ℕ) → is_eq (slice_cmp nat_cmp bs k.items) ≡ true → is_eq (slice_cmp nat_cmp cs k.items) ≡ false
apart bs cs differs k same = is_eq-slice_cmp cs k.items ∙ go (bytes_eq cs k.items) refl
  where
    go : (b : Bool) → bytes_eq cs k.items ≡ b → b ≡ false
    go true e =
        let one : bs ≡ k.items = (bytes_eq-Decides bs k.items).0 (sym (is_eq-slice_cmp bs k.items) ∙ same) in
        let two : cs ≡ k.items = (bytes_eq-Decides cs k.items).0 e in
        sym ((bytes_eq-Decides bs cs).1 (one ∙ sym two)) ∙ differs
    go false e = refl

pub set_changed : (set new : BTreeSet (Vec ℕ)) (bs : List ℕ) (b : Bool) → UpdatesBy vec_cmp (λ k. slice_cmp nat_cmp bs k.items) set new b → (cs : List ℕ) → has_bytes new cs ≡ cond (bytes_eq bs cs) b (has_bytes set cs)
set_changed set new bs b h cs = go (bytes_eq bs cs) refl
  where
    go : (same : Bool) → bytes_eq bs cs ≡ same → has_bytes new cs ≡ cond same b (has_bytes set cs)
    go true e = ap (has_bytes new) (sym ((bytes_eq-Decides bs cs).0 e)) ∙ h.1
    go false e = others_stay _ _ _ _ h.3 _ (λ x y. (eq_by_cmp_equiv nat_list_cmp_total).congr cs x.items y.items) (apart bs cs e)
