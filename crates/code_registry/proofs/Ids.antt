-- The pinned ids from one number on.
use Rattle.std.proofs.Common.{◌≡◌, ℕ, ◌+◌, ◌<◌, ◌≤◌, Bool, true, false, cond, leb, ◌&&◌, List, [], ◌∷◌, ◌++◌, map, Option, Some, None, refl, sym, ap, ◌∙◌, arith, append_assoc, length, length-append}
use lib.Dec.{T}
use Rattle.std.proofs.lemmas.Bool.Decides.{nat_tests}
use Rattle.std.specs.declared.cmp.Ordering.{Ordering}
use Rattle.std.specs.declared.cmp.Ordering.TheVariants.{Less, Equal, Greater}
use Rattle.std.specs.Ordering.{nat_cmp, is_lt, eq_by_cmp, MatchOrdering}
use Rattle.std.specs.Cmp.{ranked}
use Rattle.std.specs.FinMap.{entries, entries_sorted, get-entries, keys}
use Rattle.std.specs.FinMap.Entries.{find, is_sorted, below_all}
use Rattle.chain_records.specs.State.{State}
use Rattle.code_registry.specs.Steps.{IsNextPin}

abbrev Entry : Type 0
Entry = ℕ × Unit {0}

-- the numbers of entries from one on
pub rest_of : ℕ → List Entry → List ℕ
rest_of from [] = []
rest_of from (e ∷ es) = cond (leb from e.0) (e.0 ∷ rest_of from es) (rest_of from es)

first_of : (a b : Bool) → T (a && b) → T a
first_of true b p = tt
first_of false b p = p

second_of : (a b : Bool) → T (a && b) → T b
second_of true b p = p
second_of false b p = absurd p

all_from_zero : (es : List Entry) → rest_of 0 es ≡ map (λ e. e.0) es
unfolding rest_of
all_from_zero [] = refl
all_from_zero (e ∷ es) = let here : leb 0 e.0 ≡ true = grind (arith, nat_tests) in ap (λ b. cond b (e.0 ∷ rest_of 0 es) (rest_of 0 es)) here ∙ ap (λ (ids : List ℕ). e.0 ∷ ids) (all_from_zero es)

found_here : (id : ℕ) (e : Entry) (es : List Entry) → id ≡ e.0 → find nat_cmp id (e ∷ es) ≡ Some e.1
found_here id e es same = let equal : eq_by_cmp nat_cmp id e.0 ≡ true = grind (arith, nat_tests) in ap (λ b. cond b (Some e.1) (find nat_cmp id es)) equal

found_behind : (id : ℕ) (e : Entry) (es : List Entry) → (id ≡ e.0 → ⊥) → find nat_cmp id (e ∷ es) ≡ find nat_cmp id es
found_behind id e es other = go (eq_by_cmp nat_cmp id e.0) refl
  where
    go : (b : Bool) → eq_by_cmp nat_cmp id e.0 ≡ b → cond b (Some e.1) (find nat_cmp id es) ≡ find nat_cmp id es
    go true is = absurd (other (grind (arith, nat_tests)))
    go false is = refl

some_none : {X : Type 0} (o : Option X) (x : X) → o ≡ Some x → o ≡ None → ⊥
some_none o x some none = let both = sym some ∙ none in absurd cc

rest_none : {X : Type 0} (b : Bool) (x : X) (rest : Option X) → cond b (Some x) rest ≡ None → rest ≡ None
rest_none true x rest e = absurd cc
rest_none false x rest e = e

none_left : (from : ℕ) (es : List Entry) → ((id : ℕ) → from ≤ id → find nat_cmp id es ≡ None) → rest_of from es ≡ []
unfolding rest_of
none_left from [] none = refl
none_left from (e ∷ es) none = go (leb from e.0) refl (none_left from es (λ id le. rest_none _ _ _ (none id le)))
  where
    go : (b : Bool) → leb from e.0 ≡ b → rest_of from es ≡ [] → cond b (e.0 ∷ rest_of from es) (rest_of from es) ≡ []
    go true le rest = absurd (some_none _ e.1 (found_here e.0 e es refl) (none e.0 (grind (arith, nat_tests))))
    go false le rest = rest

less_of : (a b : ℕ) → T (is_lt (nat_cmp a b)) → a < b
less_of a b p = go (is_lt (nat_cmp a b)) refl p
  where
    go : (t : Bool) → is_lt (nat_cmp a b) ≡ t → T t → a < b
    go true is p = grind (arith, nat_tests)
    go false is p = absurd p

-- where all entries stand above two numbers, both leave the same
same_above : (k from other : ℕ) (es : List Entry) → from ≤ k + 1 → other ≤ k + 1 → T (below_all nat_cmp k es) → rest_of from es ≡ rest_of other es
unfolding rest_of
same_above k from other [] le also above = refl
same_above k from other (e ∷ es) le also above =
    let higher = less_of k e.0 (first_of _ _ above) in
    let one : leb from e.0 ≡ true = grind (arith, nat_tests) in
    let two : leb other e.0 ≡ true = grind (arith, nat_tests) in
    let rest = same_above k from other es le also (second_of _ _ above) in
    ap (λ b. cond b (e.0 ∷ rest_of from es) (rest_of from es)) one
    ∙ ap (λ (ids : List ℕ). e.0 ∷ ids) rest
    ∙ ap (λ b. cond b (e.0 ∷ rest_of other es) (rest_of other es)) (sym two)

found_above : (k id : ℕ) (u : Unit {0}) (es : List Entry) → T (below_all nat_cmp k es) → find nat_cmp id es ≡ Some u → k < id
found_above k id u [] above found = absurd cc
found_above k id u (e ∷ es) above found = go (eq_by_cmp nat_cmp id e.0) refl found (found_above k id u es (second_of _ _ above))
  where
    go : (b : Bool) → eq_by_cmp nat_cmp id e.0 ≡ b → cond b (Some e.1) (find nat_cmp id es) ≡ Some u → (find nat_cmp id es ≡ Some u → k < id) → k < id
    go true is f rest = let higher = less_of k e.0 (first_of _ _ above) in grind (arith, nat_tests)
    go false is f rest = rest f

module _ (from id : ℕ) (u : Unit {0}) (le : from ≤ id) where
  first_left : (es : List Entry) → T (is_sorted nat_cmp es) → find nat_cmp id es ≡ Some u
      → ((other : ℕ) → from ≤ other → other < id → find nat_cmp other es ≡ None)
      → rest_of from es ≡ id ∷ rest_of (id + 1) es
  unfolding rest_of
  first_left [] sorted found before = absurd cc
  first_left (e ∷ es) sorted found before = go (nat_cmp id e.0) (ranked id e.0 _ refl) (λ f. first_left es (second_of _ _ sorted) f (λ other a b. rest_none _ _ _ (before other a b)))
    where
      above : T (below_all nat_cmp e.0 es)
      above = first_of _ _ sorted

      go : (r : Ordering) → MatchOrdering r (id < e.0) (id ≡ e.0) (e.0 < id) → (find nat_cmp id es ≡ Some u → rest_of from es ≡ id ∷ rest_of (id + 1) es)
          → cond (leb from e.0) (e.0 ∷ rest_of from es) (rest_of from es) ≡ id ∷ cond (leb (id + 1) e.0) (e.0 ∷ rest_of (id + 1) es) (rest_of (id + 1) es)
      go Less less rest =
          let there = found_above e.0 id u es above (sym (found_behind id e es (λ same. absurd (omega (arith, less, same)))) ∙ found) in
          absurd (omega (arith, less, there))
      go Equal same rest =
          let taken : leb from e.0 ≡ true = grind (arith, nat_tests) in
          let past : leb (id + 1) e.0 ≡ false = grind (arith, nat_tests) in
          let later = same_above e.0 from (id + 1) es (omega (arith, le, same)) (omega (arith, same)) above in
          ap (λ b. cond b (e.0 ∷ rest_of from es) (rest_of from es)) taken
          ∙ (λ i. sym same i ∷ later i)
          ∙ ap (λ b. id ∷ cond b (e.0 ∷ rest_of (id + 1) es) (rest_of (id + 1) es)) (sym past)
      go Greater greater rest = dropped (leb from e.0) refl
        where
          past : leb (id + 1) e.0 ≡ false
          past = grind (arith, nat_tests)

          dropped : (b : Bool) → leb from e.0 ≡ b → cond b (e.0 ∷ rest_of from es) (rest_of from es) ≡ id ∷ cond (leb (id + 1) e.0) (e.0 ∷ rest_of (id + 1) es) (rest_of (id + 1) es)
          dropped true is = absurd (some_none _ e.1 (found_here e.0 e es refl) (before e.0 (grind (arith, nat_tests)) greater))
          dropped false is =
              rest (sym (found_behind id e es (λ same. absurd (omega (arith, greater, same)))) ∙ found)
              ∙ ap (λ b. id ∷ cond b (e.0 ∷ rest_of (id + 1) es) (rest_of (id + 1) es)) (sym past)

-- ---- one step of reading them

pub all_left : (s : State) → keys s.pins ≡ rest_of 0 (entries s.pins)
all_left s = sym (all_from_zero (entries s.pins))

pub pin_next : (s : State) (from id : ℕ) (key done : List ℕ) → IsNextPin s from (Some (key, id)) → keys s.pins ≡ done ++ rest_of from (entries s.pins)
    → keys s.pins ≡ (done ++ id ∷ []) ++ rest_of (id + 1) (entries s.pins)
pin_next s from id key done next so =
    so
    ∙ ap (λ (rest : List ℕ). done ++ rest)
    (first_left from id tt next.1 (entries s.pins) (entries_sorted s.pins) (sym (get-entries s.pins id) ∙ next.2) (λ other le less. sym (get-entries s.pins other) ∙ next.3 other le less))
    ∙ sym (append_assoc done (id ∷ []) (rest_of (id + 1) (entries s.pins)))

append_nothing : (xs : List ℕ) → xs ++ [] ≡ xs
append_nothing [] = refl
append_nothing (x ∷ xs) = ap (λ l. x ∷ l) (append_nothing xs)

pub pin_none : (s : State) (from : ℕ) (done : List ℕ) → IsNextPin s from None → keys s.pins ≡ done ++ rest_of from (entries s.pins) → keys s.pins ≡ done
pin_none s from done next so =
    so ∙ ap (λ (rest : List ℕ). done ++ rest) (none_left from (entries s.pins) (λ id le. sym (get-entries s.pins id) ∙ next id le)) ∙ append_nothing done

pub length_pushed : (done : List ℕ) (id : ℕ) (more : List ℕ) → more ≡ done ++ id ∷ [] → length more ≡ length done + 1
length_pushed done id more is = ap length is ∙ length-append done (id ∷ [])
