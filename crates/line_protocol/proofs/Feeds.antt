-- The first line feed among gathered bytes, and the lines of bytes whose first line feed is known.
use Rattle.std.proofs.Common.{Option, inl, inr, append_assoc, ◌≡◌, ◌≢◌, ℕ, zero, suc, ◌+◌, ◌-◌, ◌<◌, ◌≤◌, true, List, [], ◌∷◌, ◌++◌, length, get_or, take, drop, eqb, refl, sym, ap, ◌∙◌, arith, get_or-drop, length-drop, length-append, add-one}
use Rattle.std.proofs.lemmas.Bool.Decides.{nat_tests, Decides-eqb}
use Rattle.memchr.specs.Find.{Passes, is_byte, Nowhere}
use Rattle.std.proofs.KnownBytes.{Consumes-trans}
use Rattle.std.proofs.lemmas.Bool.{cases_lt}
use Rattle.std.proofs.lemmas.List.{get_or_append_left}
use Rattle.line_protocol.specs.Gathering.{IsUnfed, Draws}
use Rattle.line_protocol.specs.Lines.{Raw, raws_of, with_first, after_byte}

passes_there : (bytes : List ℕ) (seen k : ℕ) → seen ≤ k → get_or bytes k 0 ≡ 10 → eqb (get_or (drop seen bytes) (k - seen) 0) 10 ≡ true
passes_there bytes seen k above is = rw (get_or-drop) (grind (arith, nat_tests))

-- a search from a place on leaves no line feed before what it found
pub unfed_before : (bytes hay : List ℕ) (seen at : ℕ) → hay ≡ drop seen bytes → Nowhere (Passes (is_byte 10) hay) 0 at → IsUnfed bytes seen (seen + at)
unfed_before bytes hay seen at is none k low high fed =
    let here = rw (sym is) at (passes_there bytes seen k low fed) in
    none (k - seen) (omega arith) (omega arith) here

-- so it leaves none at all where it found nothing
pub unfed_all : (bytes hay : List ℕ) (seen : ℕ) → seen ≤ length bytes → hay ≡ drop seen bytes → Nowhere (Passes (is_byte 10) hay) 0 (length hay) → IsUnfed bytes seen (length bytes)
unfed_all bytes hay seen within is none k low high fed =
    let size : length hay ≡ length bytes - seen = ap length is ∙ length-drop seen bytes in
    unfed_before bytes hay seen (length hay) is none k low (omega arith) fed

-- what a search found is a line feed
pub fed_at : (bytes hay : List ℕ) (seen at : ℕ) → hay ≡ drop seen bytes → at < length hay → Passes (is_byte 10) hay at
    → (seen + at < length bytes) × (get_or bytes (seen + at) 0 ≡ 10)
fed_at bytes hay seen at is within passes =
    let size : length hay ≡ length bytes - seen = ap length is ∙ length-drop seen bytes in
    let here : get_or hay at 0 ≡ 10 = (Decides-eqb _ _).0 passes in
    let there : get_or (drop seen bytes) at 0 ≡ 10 = rw is at here in
    (omega arith, rw get_or-drop at there)

pub unfed_tail : (b : ℕ) (bytes : List ℕ) (n : ℕ) → IsUnfed (b ∷ bytes) 0 (suc n) → IsUnfed bytes 0 n
unfed_tail b bytes n unfed k low high fed = unfed (suc k) (omega arith) (omega arith) fed

pub after_other : (b : ℕ) (raws : List Raw) → b ≢ 10 → after_byte b raws ≡ with_first b raws
after_other b raws other = grind (arith, nat_tests)

-- the bytes up to a first line feed are a line
pub raws-fed : (bytes left : List ℕ) (at : ℕ) → at < length bytes → get_or bytes at 0 ≡ 10 → IsUnfed bytes 0 at
    → raws_of (bytes ++ left) ≡ record { text = take at bytes; size = suc at } ∷ raws_of (drop (suc at) bytes ++ left)
unfolding raws_of
raws-fed [] left at within fed unfed = absurd (omega arith)
raws-fed (b ∷ bytes) left zero within fed unfed = rw fed refl
raws-fed (b ∷ bytes) left (suc at) within fed unfed =
    let later = raws-fed bytes left at (omega arith) fed (unfed_tail b bytes at unfed) in
    after_other b (raws_of (bytes ++ left)) (unfed zero (omega arith) (omega arith)) ∙ rw later (rw add-one refl)

-- bytes with no line feed, up to the end, are one line
pub raws-rest : (bytes : List ℕ) → 0 < length bytes → IsUnfed bytes 0 (length bytes) → raws_of bytes ≡ record { text = bytes; size = length bytes } ∷ []
unfolding raws_of
raws-rest [] some unfed = absurd (omega arith)
raws-rest (b ∷ []) some unfed = after_other b [] (unfed zero (omega arith) (omega arith))
raws-rest (b ∷ c ∷ bytes) some unfed =
    let later = raws-rest (c ∷ bytes) (omega arith) (unfed_tail b (c ∷ bytes) (length (c ∷ bytes)) unfed) in
    after_other b (raws_of (c ∷ bytes)) (unfed zero (omega arith) (omega arith)) ∙ rw later (rw add-one refl)

-- bytes taken after bytes taken
pub Draws-trans : (a b c : Option (List ℕ)) (x y z : List ℕ) → Draws a b x y → Draws b c y z → Draws a c x z
Draws-trans a b c x y z first second = record {
  taken = first.taken ++ second.taken;
  from = Consumes-trans a b c first.taken second.taken first.from second.from;
  onto = second.onto ∙ ap (λ l. l ++ second.taken) first.onto ∙ append_assoc x first.taken second.taken;
}

unfed_front : (front more : List ℕ) → IsUnfed front 0 (length front) → IsUnfed (front ++ more) 0 (length front)
unfed_front front more unfed k low high fed = unfed k low high (sym (get_or_append_left front more 0 k high) ∙ fed)

-- what has no line feed has none once bytes stand behind it
pub unfed_drawn : (a b : Option (List ℕ)) (x y : List ℕ) → Draws a b x y → IsUnfed x 0 (length x) → IsUnfed y 0 (length x)
unfed_drawn a b x y drawn unfed = rw drawn.onto (unfed_front x drawn.taken unfed)

-- where no line feed was found, the bytes before had none
pub never_fed : (a b : Option (List ℕ)) (x y : List ℕ) (k : ℕ) → Draws a b x y → IsUnfed y 0 (length y) → k < length x → get_or x k 0 ≡ 10 → ⊥
never_fed a b x y k drawn unfed within fed =
    let long : length y ≡ length x + length drawn.taken = ap length drawn.onto ∙ length-append x drawn.taken in
    unfed k (omega arith) (omega (arith, long)) (ap (λ l. get_or l k 0) drawn.onto ∙ get_or_append_left x drawn.taken 0 k within ∙ fed)

pub unfed_join : (bytes : List ℕ) (i j : ℕ) → IsUnfed bytes 0 i → IsUnfed bytes i j → IsUnfed bytes 0 j
unfed_join bytes i j front back k low high fed = elim (cases_lt k i) [ inl h ↦ front k low h fed | inr h ↦ back k h high fed ]

pub unfed_len : (bytes : List ℕ) (n m : ℕ) → n ≡ m → IsUnfed bytes 0 m → IsUnfed bytes 0 n
unfed_len bytes n m same unfed = rw same unfed
