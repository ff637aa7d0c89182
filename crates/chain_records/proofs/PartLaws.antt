-- Each part of a record that is read is what was written, and what was written is read again.
use Rattle.std.proofs.Common.{◌≡◌, ℕ, zero, suc, ◌+◌, ◌*◌, ◌/◌, ◌%◌, ◌^◌, ◌<◌, List, [], ◌∷◌, ◌++◌, length, Option, Some, None, refl, sym, ap, subst, ◌∙◌, append_assoc, arith}
use Rattle.std.specs.List.{flat_map, AllByRecursion}
use Rattle.std.proofs.lemmas.List.Concat.{flat_map-cons}
use Rattle.chain_records.specs.Pieces.{be8, be16, after_length, listed, optional, IsNumber, HasLength, IsText, AreListed, IsOptional}
use Rattle.chain_records.specs.Reading.{◌>>=◌, front_at, number_at, bytes_at, text_of, text_at, items_at, list_at, optional_at}
use Rattle.chain_records.specs.RecordReading.{amount_at}
use Rattle.chain_records.proofs.Texts.{text_is}
use Rattle.chain_records.proofs.Halves.{be16-halves}
use Rattle.chain_records.proofs.Pieces.{AreBytes, bytes-rest, bind_some, some_is, Takes, takes_both, front_takes, front_again, number_takes, number_again, text_is_utf8}

-- what is read of the front is there and can be written so, and what was written is read again
pub record Inverse {A : Type 0} (Is : A → Type 0) (written : A → List ℕ) (read : List ℕ → Option (A × List ℕ)) : Type 0 where
  pub takes : (bytes : List ℕ) (x : A × List ℕ) → AreBytes bytes → read bytes ≡ Some x → Takes bytes (written x.0) x.1 × Is x.0
  pub again : (a : A) (rest : List ℕ) → Is a → read (written a ++ rest) ≡ Some (a, rest)

pub inverse_number : Inverse IsNumber be8 number_at
inverse_number = record { takes = number_takes; again = number_again }

-- ---- bytes and texts

bytes_take : (bytes : List ℕ) (x : List ℕ × List ℕ) → AreBytes bytes → bytes_at bytes ≡ Some x → Takes bytes (after_length x.0) x.1 × HasLength x.0
unfolding bytes_at
bytes_take bytes x h e =
    let n = bind_some (number_at bytes) (λ count. front_at count.0 count.1) x e in
    let t = number_takes bytes n.0 h n.1 in
    let f = front_takes n.0.0 n.0.1 x t.0.are_bytes n.2 in
    let both = takes_both bytes (be8 n.0.0) n.0.1 x.0 x.1 t.0 f.0 in
    (subst (λ (k : ℕ). Takes bytes (be8 k ++ x.0) x.1) (sym f.1) both, omega (arith, f.1, t.1))

bytes_again : (text rest : List ℕ) → HasLength text → bytes_at (after_length text ++ rest) ≡ Some (text, rest)
unfolding bytes_at
bytes_again text rest lt = rw (number_again (length text) (text ++ rest) lt, front_again (length text) text rest refl) refl

pub inverse_bytes : Inverse HasLength after_length bytes_at
inverse_bytes = record { takes = bytes_take; again = bytes_again }

text_takes : (bytes : List ℕ) (x : List ℕ × List ℕ) → AreBytes bytes → text_at bytes ≡ Some x → Takes bytes (after_length x.0) x.1 × IsText x.0
unfolding text_at
text_takes bytes x h e =
    let f = bind_some (bytes_at bytes) (λ front. text_of front.0 >>= λ text. Some (text, front.1)) x e in
    let u = bind_some (text_of f.0.0) (λ text. Some (text, f.0.1)) x f.2 in
    let t = bytes_take bytes f.0 h f.1 in
    let is = text_is_utf8 f.0.0 u.0 u.1 in
    let front = subst (λ (text : List ℕ). Takes bytes (after_length text) f.0.1 × HasLength text) is.0 t in
    subst (λ (y : List ℕ × List ℕ). Takes bytes (after_length y.0) y.1 × IsText y.0) (some_is (u.0, f.0.1) x u.2) (front.0, (front.1, is.1))

text_again : (text rest : List ℕ) → IsText text → text_at (after_length text ++ rest) ≡ Some (text, rest)
unfolding text_at
text_again text rest h = rw (bytes_again text rest h.0, text_is text h.1) refl

pub inverse_text : Inverse IsText after_length text_at
inverse_text = record { takes = text_takes; again = text_again }

-- ---- lists and optional values

module _ {A : Type 0} {Is : A → Type 0} {written : A → List ℕ} {read : List ℕ → Option (A × List ℕ)} (p : Inverse Is written read) where
  items_take : (n : ℕ) (bytes : List ℕ) (x : List A × List ℕ) → AreBytes bytes → items_at read n bytes ≡ Some x → Takes bytes (flat_map written x.0) x.1 × (length x.0 ≡ n) × AllByRecursion Is x.0
  unfolding items_at
  items_take zero bytes x h e =
      subst (λ (y : List A × List ℕ). Takes bytes (flat_map written y.0) y.1 × (length y.0 ≡ 0) × AllByRecursion Is y.0) (some_is ([], bytes) x e) (record { parts = refl; are_bytes = h }, refl, tt)
  items_take (suc n) bytes x h e =
      let a = bind_some (read bytes) (λ first. items_at read n first.1 >>= λ others. Some (first.0 ∷ others.0, others.1)) x e in
      let b = bind_some (items_at read n a.0.1) (λ others. Some (a.0.0 ∷ others.0, others.1)) x a.2 in
      let one = p.takes bytes a.0 h a.1 in
      let two = items_take n a.0.1 b.0 one.0.are_bytes b.1 in
      let both = takes_both bytes (written a.0.0) a.0.1 (flat_map written b.0.0) b.0.1 one.0 two.0 in
      subst (λ (y : List A × List ℕ). Takes bytes (flat_map written y.0) y.1 × (length y.0 ≡ suc n) × AllByRecursion Is y.0) (some_is (a.0.0 ∷ b.0.0, b.0.1) x b.2)
      (rw flat_map-cons both, ap suc two.1, (one.1, two.2))

  items_again : (items : List A) (rest : List ℕ) → AllByRecursion Is items → items_at read (length items) (flat_map written items ++ rest) ≡ Some (items, rest)
  unfolding items_at
  items_again [] rest h = refl
  items_again (a ∷ items) rest h =
      let regrouped : flat_map written (a ∷ items) ++ rest ≡ written a ++ (flat_map written items ++ rest) = ap (λ (t : List ℕ). t ++ rest) (flat_map-cons written a items) ∙ append_assoc (written a) (flat_map written items) rest in
      ap (items_at read (suc (length items))) regrouped ∙ rw (p.again a (flat_map written items ++ rest) h.0, items_again items rest h.1) refl

  list_takes : (bytes : List ℕ) (x : List A × List ℕ) → AreBytes bytes → list_at read bytes ≡ Some x → Takes bytes (listed written x.0) x.1 × AreListed Is x.0
  unfolding list_at listed
  list_takes bytes x h e =
      let n = bind_some (number_at bytes) (λ count. items_at read count.0 count.1) x e in
      let t = number_takes bytes n.0 h n.1 in
      let i = items_take n.0.0 n.0.1 x t.0.are_bytes n.2 in
      let both = takes_both bytes (be8 n.0.0) n.0.1 (flat_map written x.0) x.1 t.0 i.0 in
      (subst (λ (k : ℕ). Takes bytes (be8 k ++ flat_map written x.0) x.1) (sym i.1) both, (omega (arith, i.1, t.1), i.2))

  list_again : (items : List A) (rest : List ℕ) → AreListed Is items → list_at read (listed written items ++ rest) ≡ Some (items, rest)
  unfolding list_at listed
  list_again items rest h = rw (number_again (length items) (flat_map written items ++ rest) h.0, items_again items rest h.1) refl

  pub inverse_list : Inverse (AreListed Is) (listed written) (list_at read)
  inverse_list = record { takes = list_takes; again = list_again }

  optional_takes : (bytes : List ℕ) (x : Option A × List ℕ) → AreBytes bytes → optional_at read bytes ≡ Some x → Takes bytes (optional written x.0) x.1 × IsOptional Is x.0
  unfolding optional_at optional
  optional_takes [] x h e = absurd cc
  optional_takes (zero ∷ bytes) x h e =
      subst (λ (y : Option A × List ℕ). Takes (0 ∷ bytes) (optional written y.0) y.1 × IsOptional Is y.0) (some_is (None, bytes) x e) (record { parts = refl; are_bytes = bytes-rest 0 bytes h }, tt)
  optional_takes (suc zero ∷ bytes) x h e =
      let a = bind_some (read bytes) (λ a. Some (Some a.0, a.1)) x e in
      let t = p.takes bytes a.0 (bytes-rest 1 bytes h) a.1 in
      subst (λ (y : Option A × List ℕ). Takes (1 ∷ bytes) (optional written y.0) y.1 × IsOptional Is y.0) (some_is (Some a.0.0, a.0.1) x a.2)
      (record { parts = ap (λ (t : List ℕ). 1 ∷ t) t.0.parts; are_bytes = t.0.are_bytes }, t.1)
  optional_takes (suc (suc b) ∷ bytes) x h e = absurd cc

  optional_again : (o : Option A) (rest : List ℕ) → IsOptional Is o → optional_at read (optional written o ++ rest) ≡ Some (o, rest)
  unfolding optional_at optional
  optional_again None rest h = refl
  optional_again (Some a) rest h = rw (p.again a rest h) refl

  pub inverse_optional : Inverse (IsOptional Is) (optional written) (optional_at read)
  inverse_optional = record { takes = optional_takes; again = optional_again }

-- ---- amounts

abbrev pub IsAmount : ℕ → Type 0
IsAmount n = n < 2 ^ 128

amount_takes : (bytes : List ℕ) (x : ℕ × List ℕ) → AreBytes bytes → amount_at bytes ≡ Some x → Takes bytes (be16 x.0) x.1 × IsAmount x.0
unfolding amount_at
amount_takes bytes x h e =
    let a = bind_some (number_at bytes) (λ high. number_at high.1 >>= λ low. Some (high.0 * 2 ^ 64 + low.0, low.1)) x e in
    let b = bind_some (number_at a.0.1) (λ low. Some (a.0.0 * 2 ^ 64 + low.0, low.1)) x a.2 in
    let one = number_takes bytes a.0 h a.1 in
    let two = number_takes a.0.1 b.0 one.0.are_bytes b.1 in
    let both = takes_both bytes (be8 a.0.0) a.0.1 (be8 b.0.0) b.0.1 one.0 two.0 in
    let whole : Takes bytes (be16 (a.0.0 * 2 ^ 64 + b.0.0)) b.0.1 = subst (λ (t : List ℕ). Takes bytes t b.0.1) (sym (be16-halves a.0.0 b.0.0 two.1)) both in
    let small : a.0.0 * 2 ^ 64 + b.0.0 < 2 ^ 128 = omega (arith, one.1, two.1) in
    subst (λ (y : ℕ × List ℕ). Takes bytes (be16 y.0) y.1 × IsAmount y.0) (some_is (a.0.0 * 2 ^ 64 + b.0.0, b.0.1) x b.2) (whole, small)

halves_again : (h l : ℕ) (rest : List ℕ) → h < 2 ^ 64 → l < 2 ^ 64 → amount_at ((be8 h ++ be8 l) ++ rest) ≡ Some (h * 2 ^ 64 + l, rest)
unfolding amount_at
halves_again h l rest hh hl = rw (number_again h (be8 l ++ rest) hh, number_again l rest hl) refl

amount_again : (n : ℕ) (rest : List ℕ) → IsAmount n → amount_at (be16 n ++ rest) ≡ Some (n, rest)
amount_again n rest lt =
    let is : n ≡ (n / 2 ^ 64) * 2 ^ 64 + n % 2 ^ 64 = omega arith in
    let high : n / 2 ^ 64 < 2 ^ 64 = omega arith in
    let low : n % 2 ^ 64 < 2 ^ 64 = omega arith in
    let text : be16 n ≡ be8 (n / 2 ^ 64) ++ be8 (n % 2 ^ 64) = ap be16 is ∙ be16-halves (n / 2 ^ 64) (n % 2 ^ 64) low in
    ap (λ (t : List ℕ). amount_at (t ++ rest)) text ∙ halves_again (n / 2 ^ 64) (n % 2 ^ 64) rest high low ∙ ap (λ (k : ℕ). Some (k, rest)) (sym is)

pub inverse_amount : Inverse IsAmount be16 amount_at
inverse_amount = record { takes = amount_takes; again = amount_again }
