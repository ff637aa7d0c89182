-- The bytes of a line that was handed out, and the bytes of the lines that a line feed ends.
use Rattle.std.proofs.Common.{◌≡◌, ◌≢◌, ◌+◌, ◌++◌, ◌∷◌, [], ℕ, suc, Bool, true, false, List, length, eqb, map, if◌then◌else◌, refl, sym, ap, ◌∙◌, subst, arith}
use Rattle.std.proofs.lemmas.Bool.Decides.{nat_tests}
use Rattle.std.specs.List.{concat, list_any}
use Rattle.line_protocol.specs.Gathering.{IsUnfed}
use Rattle.line_protocol.specs.Lines.{Raw, raws_of, with_first, after_byte}
use Rattle.wasmnode.specs.Statuses.{finished}

abbrev raw : List ℕ → ℕ → Raw
raw text size = record { text = text; size = size }

-- ---- the bytes that lines take

-- a line's bytes, with its line feed where it has one
abbrev spelled : Raw → List ℕ
spelled r = if eqb r.size (length r.text) then r.text else r.text ++ 10 ∷ []

abbrev joined : List Raw → List ℕ
joined raws = concat (map spelled raws)

-- a byte before a line is one of it
spelled_first : (b size : ℕ) (text : List ℕ) (is : Bool) → eqb size (length text) ≡ is → spelled (raw (b ∷ text) (size + 1)) ≡ b ∷ spelled (raw text size)
spelled_first b size text true is =
    let same : eqb (size + 1) (length (b ∷ text)) ≡ true = grind (arith, nat_tests) in
    rw (same, is) refl
spelled_first b size text false is =
    let other : eqb (size + 1) (length (b ∷ text)) ≡ false = grind (arith, nat_tests) in
    rw (other, is) refl

joined_first : (b : ℕ) (raws : List Raw) → joined (with_first b raws) ≡ b ∷ joined raws
joined_first b [] = refl
joined_first b (r ∷ raws) = ap (λ l. l ++ joined raws) (spelled_first b r.size r.text (eqb r.size (length r.text)) refl)

joined_after : (b : ℕ) (raws : List Raw) (is : Bool) → eqb b 10 ≡ is → joined (after_byte b raws) ≡ b ∷ joined raws
joined_after b raws true is =
    let here : b ≡ 10 = grind (arith, nat_tests) in
    rw here refl
joined_after b raws false is = rw is (joined_first b raws)

-- the lines of bytes take just these bytes
pub lines_join : (bytes : List ℕ) → joined (raws_of bytes) ≡ bytes
unfolding raws_of
lines_join [] = refl
lines_join (b ∷ bytes) = joined_after b (raws_of bytes) (eqb b 10) refl ∙ ap (λ l. b ∷ l) (lines_join bytes)

pub same_bytes : (xs ys : List ℕ) → raws_of xs ≡ raws_of ys → xs ≡ ys
same_bytes xs ys same = sym (lines_join xs) ∙ ap joined same ∙ lines_join ys

-- ---- a first line

-- where a line feed ends it, it is a line before whatever follows; else nothing follows
pub record IsFirst (bytes : List ℕ) (r : Raw) (after : List ℕ) : Type 0 where
  pub takes : r.size ≡ length r.text + 1 → bytes ≡ r.text ++ 10 ∷ after
  pub again : r.size ≡ length r.text + 1 → (more : List ℕ) → raws_of (r.text ++ 10 ∷ more) ≡ r ∷ raws_of more
  pub all : r.size ≡ length r.text → (bytes ≡ r.text) × (after ≡ [])

-- a line that a line feed ended right away
first_feed : (bytes after : List ℕ) (r : Raw) → raw [] 1 ∷ raws_of bytes ≡ r ∷ raws_of after → IsFirst (10 ∷ bytes) r after
unfolding raws_of
first_feed bytes after r is =
    let here : raw [] 1 ≡ r = cc in
    let there : raws_of bytes ≡ raws_of after = cc in
    let rest = same_bytes bytes after there in
    rw (sym here) record {
      takes = λ _. ap (λ l. 10 ∷ l) rest;
      again = λ _ more. refl;
      all = λ none. absurd (omega (arith, none));
    }

-- a line that the input ended right away
first_alone : (b : ℕ) (bytes after : List ℕ) (r : Raw) → raws_of bytes ≡ [] → raw (b ∷ []) 1 ∷ [] ≡ r ∷ raws_of after → IsFirst (b ∷ bytes) r after
unfolding raws_of
first_alone b bytes after r none is =
    let here : raw (b ∷ []) 1 ≡ r = cc in
    let there : raws_of after ≡ [] = cc in
    let rest : after ≡ [] = same_bytes after [] there in
    let empty : bytes ≡ [] = same_bytes bytes [] none in
    rw (sym here) record {
      takes = λ feed. absurd (omega (arith, feed));
      again = λ feed more. absurd (omega (arith, feed));
      all = λ _. (ap (λ l. b ∷ l) empty, rest);
    }

first_longer : (b : ℕ) (bytes after : List ℕ) (q r : Raw) → eqb b 10 ≡ false → raw (b ∷ q.text) (q.size + 1) ≡ r → IsFirst bytes q after → IsFirst (b ∷ bytes) r after
unfolding raws_of
first_longer b bytes after q r other here first =
    rw (sym here) record {
      takes = λ feed. ap (λ l. b ∷ l) (first.takes (omega (arith, feed)));
      again = λ feed more. rw (other, first.again (omega (arith, feed)) more) refl;
      all = λ none. let rest = first.all (omega (arith, none)) in (ap (λ l. b ∷ l) rest.0, rest.1);
    }

first_byte : (b : ℕ) (bytes after : List ℕ) (r : Raw) (raws : List Raw) (is : Bool) → eqb b 10 ≡ is → raws_of bytes ≡ raws → after_byte b raws ≡ r ∷ raws_of after
    → ((q : Raw) → raws_of bytes ≡ q ∷ raws_of after → IsFirst bytes q after) → IsFirst (b ∷ bytes) r after
first_byte b bytes after r raws true is same all later =
    let here : b ≡ 10 = grind (arith, nat_tests) in
    let feed : raw [] 1 ∷ raws_of bytes ≡ r ∷ raws_of after = ap (λ l. raw [] 1 ∷ l) same ∙ rw here at all in
    subst (λ c. IsFirst (c ∷ bytes) r after) (sym here) (first_feed bytes after r feed)
first_byte b bytes after r [] false is same all later = first_alone b bytes after r same (rw is at all)
first_byte b bytes after r (q ∷ raws) false is same all later =
    let whole : raw (b ∷ q.text) (q.size + 1) ∷ raws ≡ r ∷ raws_of after = rw is at all in
    let here : raw (b ∷ q.text) (q.size + 1) ≡ r = cc in
    let rest : raws ≡ raws_of after = cc in
    first_longer b bytes after q r is here (later q (same ∙ ap (λ l. q ∷ l) rest))

pub first_is : (bytes after : List ℕ) (r : Raw) → raws_of bytes ≡ r ∷ raws_of after → IsFirst bytes r after
unfolding raws_of
first_is [] after r is = absurd (grind (arith, is))
first_is (b ∷ bytes) after r is = first_byte b bytes after r (raws_of bytes) (eqb b 10) refl refl is (λ q here. first_is bytes after q here)

-- ---- finished lines

pub finished_unfed : (bytes : List ℕ) → list_any (λ c. eqb c 10) bytes ≡ false → finished bytes ≡ []
finished_unfed [] unfed = refl
finished_unfed (b ∷ bytes) unfed = rw unfed refl

any_fed : (front more : List ℕ) → list_any (λ c. eqb c 10) (front ++ 10 ∷ more) ≡ true
any_fed [] more = refl
any_fed (b ∷ front) more = rw (any_fed front more) grind arith

pub finished_fed : (front more : List ℕ) → list_any (λ c. eqb c 10) more ≡ false → finished (front ++ 10 ∷ more) ≡ front ++ 10 ∷ []
finished_fed [] more unfed = ap (λ l. 10 ∷ l) (finished_unfed more unfed)
finished_fed (b ∷ front) more unfed = rw (any_fed (b ∷ front) more) (ap (λ l. b ∷ l) (finished_fed front more unfed))

pub unfed_any : (bytes : List ℕ) → IsUnfed bytes 0 (length bytes) → list_any (λ c. eqb c 10) bytes ≡ false
unfed_any [] unfed = refl
unfed_any (b ∷ bytes) unfed =
    let other : b ≢ 10 = unfed 0 (omega arith) (omega arith) in
    let here : eqb b 10 ≡ false = grind (arith, nat_tests) in
    rw (here, unfed_any bytes (λ k low high fed. unfed (suc k) (omega arith) (omega arith) fed)) refl
