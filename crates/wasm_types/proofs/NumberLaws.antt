-- A number that is read is spelled, a spelling is read again whatever follows it, and where none is read the bytes end within
-- one exactly where the test says so.
use Rattle.std.proofs.Common.{◌≡◌, ℕ, ◌+◌, ◌-◌, ◌*◌, ◌<◌, ◌≤◌, Bool, true, false, ltb, leb, List, [], ◌∷◌, ◌++◌, length, get_or, take, drop, Option, Some, None, refl, sym, ap, subst, ◌∙◌, arith, inl, inr, IsTrue, ◌↔◌, add-one, drop-cons}
use Rattle.std.specs.Prelude.{option_map, slice_range, ◌&&◌}
use Rattle.std.proofs.lemmas.Bool.{lt-ltb, le-ltb, cases_lt, ltb-true, leb-true, le-leb, lt-leb}
use Rattle.std.proofs.lemmas.List.{take_at, take-append-drop, length-append, drop_all}
use Rattle.std.proofs.Math.Pow.{pow_pos}
use Rattle.wasm_types.specs.Place.{Place}
use Rattle.wasm_types.specs.Number.{last_of, number_at, place_at, IsNumber, IsCutNumber, is_cut_number, StandsAt, NoneStandsAt}

-- what was read from a place
pub record IsRead (signed : Bool) (bits : ℕ) (start : Place) (n : ℕ) (after : Place) : Type 0 where
  pub text : List ℕ
  pub cut : start.rest ≡ text ++ after.rest
  pub place : after.at ≡ start.at + length text
  pub spelled : IsNumber signed bits text n

pub mapped : {A B : Type 0} (f : A → B) (o : Option A) (y : B) → option_map f o ≡ Some y → (x : A) × (o ≡ Some x) × (f x ≡ y)
mapped f (Some x) y e = (x, refl, cc)
mapped f None y e = absurd cc

both_true : (a b : Bool) → (a && b) ≡ true → (a ≡ true) × (b ≡ true)
both_true true b e = (refl, e)
both_true false b e = absurd cc

-- one byte more in front
longer : (signed : Bool) (bits b : ℕ) (text : List ℕ) (n high : ℕ) → 128 ≤ b → 7 < bits → n + 128 ≡ b + 128 * high → IsNumber signed (bits - 7) text high → IsNumber signed bits (b ∷ text) n
longer signed bits b [] n high large more e h = absurd h
longer signed bits b (c ∷ text) n high large more e h = (large, more, high, e, h)

-- what stands behind a first byte that isn't the last
pub record IsLonger (signed : Bool) (bits b : ℕ) (text : List ℕ) : Type 0 where
  pub large : 128 ≤ b
  pub more : 7 < bits
  pub high : ℕ
  pub rest : IsNumber signed (bits - 7) text high

shorter : (signed : Bool) (bits b : ℕ) (text : List ℕ) (n : ℕ) → 0 < length text → IsNumber signed bits (b ∷ text) n → IsLonger signed bits b text
shorter signed bits b [] n some h = absurd (omega arith)
shorter signed bits b (c ∷ text) n some h = record { large = h.0; more = h.1; high = h.2; rest = h.4 }

-- ---- what is read is spelled

pub number_sound : (signed : Bool) (bits at : ℕ) (rest : List ℕ) (n : ℕ) (after : Place) → number_at signed bits at rest ≡ Some (n, after) → IsRead signed bits (record { at = at; rest = rest }) n after
unfolding number_at
number_sound signed bits at [] n after e = absurd cc
number_sound signed bits at (b ∷ bytes) n after e =
    elim (cases_lt b 128) [
      | inl small ↦
          let e1 = rw (lt-ltb _ _ small) at e in
          let m = mapped (λ (k : ℕ). (k, next)) (last_of signed bits b) (n, after) e1 in
          subst (λ (p : ℕ × Place). IsRead signed bits start p.0 p.1) m.2 (record { text = b ∷ []; cut = refl; place = refl; spelled = (small, m.1) })
      | inr large ↦
          elim (cases_lt 7 bits) [
            | inl more ↦
                let e1 = rw (le-ltb _ _ large, lt-ltb _ _ more) at e in
                let m = mapped (λ (x : ℕ × Place). (b - 128 + 128 * x.0, x.1)) (number_at signed (bits - 7) (at + 1) bytes) (n, after) e1 in
                let ih = number_sound signed (bits - 7) (at + 1) bytes m.0.0 m.0.1 m.1 in
                subst (λ (p : ℕ × Place). IsRead signed bits start p.0 p.1) m.2 (record {
                  text = b ∷ ih.text;
                  cut = ap (λ (t : List ℕ). b ∷ t) ih.cut;
                  place = omega (arith, ih.place);
                  spelled = longer signed bits b ih.text (b - 128 + 128 * m.0.0) m.0.0 large more (omega arith) ih.spelled;
                })
            | inr few ↦ let e1 = rw (le-ltb _ _ large, le-ltb _ _ few) at e in absurd cc
          ]
    ]
  where
    next : Place
    next = record { at = at + 1; rest = bytes }

    start : Place
    start = record { at = at; rest = b ∷ bytes }

-- ---- what is spelled is read

abbrev found : ℕ → ℕ → List ℕ → Option (ℕ × Place)
found n at rest = Some (n, record { at = at; rest = rest })

same_found : (m n a b : ℕ) (rest : List ℕ) → m ≡ n → a ≡ b → found m a rest ≡ found n b rest
same_found m n a b rest e f = cc

pub number_again : (signed : Bool) (bits at : ℕ) (text : List ℕ) (n : ℕ) (rest : List ℕ) → IsNumber signed bits text n → number_at signed bits at (text ++ rest) ≡ Some (n, record { at = at + length text; rest = rest })
unfolding number_at
number_again signed bits at [] n rest h = absurd h
number_again signed bits at (b ∷ []) n rest h = rw (lt-ltb _ _ h.0, h.1) refl
number_again signed bits at (b ∷ c ∷ text) n rest h =
    let ih = number_again signed (bits - 7) (at + 1) (c ∷ text) h.2 rest h.4 in
    rw (le-ltb _ _ h.0, lt-ltb _ _ h.1, ih) (same_found (b - 128 + 128 * h.2) n (at + 1 + length (c ∷ text)) (at + length (b ∷ c ∷ text)) rest (omega (arith, h.3)) (omega arith))

-- ---- a number that is cut

zero_last : (signed : Bool) (bits : ℕ) → last_of signed bits 0 ≡ Some 0
zero_last false bits = rw (lt-ltb _ _ (pow_pos bits)) refl
zero_last true bits = rw (lt-ltb _ _ (pow_pos (bits - 1))) refl

completed : (signed : Bool) (bits : ℕ) (bytes : List ℕ) → is_cut_number bits bytes ≡ true → (n : ℕ) × IsNumber signed bits (bytes ++ 0 ∷ []) n
unfolding is_cut_number
completed signed bits [] e = (0, (omega arith, zero_last signed bits))
completed signed bits (b ∷ bytes) e =
    let one = both_true (leb 128 b) (ltb 7 bits && is_cut_number (bits - 7) bytes) e in
    let two = both_true (ltb 7 bits) (is_cut_number (bits - 7) bytes) one.1 in
    let ih = completed signed (bits - 7) bytes two.1 in
    let large : 128 ≤ b = leb-true _ _ one.0 in
    (b - 128 + 128 * ih.0, longer signed bits b (bytes ++ 0 ∷ []) (b - 128 + 128 * ih.0) ih.0 large (ltb-true _ _ two.0) (omega arith) ih.1)

goes_on : (signed : Bool) (bits : ℕ) (bytes more : List ℕ) (n : ℕ) → 0 < length more → IsNumber signed bits (bytes ++ more) n → is_cut_number bits bytes ≡ true
unfolding is_cut_number
goes_on signed bits [] more n some h = refl
goes_on signed bits (b ∷ bytes) more n some h =
    let s = shorter signed bits b (bytes ++ more) n (omega (arith, length-append bytes more)) h in
    let ih = goes_on signed (bits - 7) bytes more s.high some s.rest in
    rw (le-leb _ _ s.large, lt-ltb _ _ s.more, ih) refl

pub cut_is : (signed : Bool) (bits : ℕ) (bytes : List ℕ) (cut : Bool) → cut ≡ is_cut_number bits bytes → IsTrue cut ↔ IsCutNumber signed bits bytes
cut_is signed bits bytes cut e = (
  (λ t. let c = completed signed bits bytes (sym e ∙ t) in (0 ∷ [], c.0, (omega arith), c.1)),
  (λ c. e ∙ goes_on signed bits bytes c.0 c.1 c.2 c.3),
)

-- ---- at a place of a whole input

pub stands : (signed : Bool) (bits : ℕ) (bytes : List ℕ) (at after n : ℕ) → number_at signed bits at (drop at bytes) ≡ Some (n, place_at after bytes) → after ≤ length bytes → StandsAt signed bits bytes at after n
stands signed bits bytes at after n e le =
    let r = number_sound signed bits at (drop at bytes) n (place_at after bytes) e in
    let text-is : slice_range bytes at after ≡ r.text = ap (λ (l : List ℕ). take (after - at) l) r.cut ∙ take_at r.text (drop after bytes) (after - at) (omega (arith, r.place)) in
    record { ordered = omega (arith, r.place, not_empty signed bits r.text n r.spelled); in_range = le; spelled = rw text-is r.spelled }
  where
    not_empty : (signed : Bool) (bits : ℕ) (text : List ℕ) (n : ℕ) → IsNumber signed bits text n → 0 < length text
    not_empty signed bits [] n h = absurd h
    not_empty signed bits (b ∷ text) n h = omega arith

pub none_stands : (signed : Bool) (bits : ℕ) (bytes : List ℕ) (at : ℕ) → number_at signed bits at (drop at bytes) ≡ None → NoneStandsAt signed bits bytes at
none_stands signed bits bytes at e after n s =
    let parts : slice_range bytes at after ++ drop (after - at) (drop at bytes) ≡ drop at bytes = take-append-drop (after - at) (drop at bytes) in
    let again = number_again signed bits at (slice_range bytes at after) n (drop (after - at) (drop at bytes)) s.spelled in
    let again2 = rw parts at again in
    absurd cc

cut_here : (bits : ℕ) (bytes : List ℕ) (at : ℕ) → at < length bytes → drop at bytes ≡ get_or bytes at 0 ∷ drop (at + 1) bytes
cut_here bits bytes at lt = rw (add-one, drop-cons bytes at 0) refl

module _ (bits : ℕ) (bytes : List ℕ) (at : ℕ) where
  pub cut_end : length bytes ≤ at → true ≡ is_cut_number bits (drop at bytes)
  unfolding is_cut_number
  cut_end le = rw (drop_all at bytes le) refl

  pub cut_small : at < length bytes → get_or bytes at 0 < 128 → false ≡ is_cut_number bits (drop at bytes)
  unfolding is_cut_number
  cut_small lt small = rw (cut_here bits bytes at lt, lt-leb _ _ small) refl

  pub cut_few : at < length bytes → 128 ≤ get_or bytes at 0 → bits ≤ 7 → false ≡ is_cut_number bits (drop at bytes)
  unfolding is_cut_number
  cut_few lt large few = rw (cut_here bits bytes at lt, le-leb _ _ large, le-ltb _ _ few) refl

  pub cut_more : at < length bytes → 128 ≤ get_or bytes at 0 → 7 < bits → is_cut_number (bits - 7) (drop (at + 1) bytes) ≡ is_cut_number bits (drop at bytes)
  unfolding is_cut_number
  cut_more lt large more = rw (cut_here bits bytes at lt, le-leb _ _ large, lt-ltb _ _ more) refl
