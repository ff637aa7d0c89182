-- What is read from the front of bytes is what was written there, and what was written is read again.
use Rattle.std.proofs.Common.{◌≡◌, ℕ, suc, ◌+◌, ◌^◌, ◌<◌, ◌≤◌, Bool, true, false, cond, ltb, List, [], ◌∷◌, ◌++◌, length, get_or, take, drop, Option, Some, None, refl, sym, ap, subst, ◌∙◌, append_assoc, arith, inl, inr}
use Rattle.std.specs.Int.{w64, from_be_bytes}
use Rattle.std.specs.Str.{is_utf8, IsUtf8}
use Rattle.std.proofs.lemmas.Bool.{cases_lt, ltb-false, le-ltb}
use Rattle.std.proofs.lemmas.List.{take_at, drop_at, take-append-drop, length-append, length-take, get_or-drop, get_or-take, get_or_past, append-nil}
use Rattle.std.proofs.lemmas.Nat.{be_bytes_8, from_be_bytes-to_be_bytes_8}
use Rattle.std.proofs.lemmas.Str.{IsUtf8-from_is_utf8}
use Rattle.chain_records.specs.Pieces.{be8}
use Rattle.chain_records.specs.Reading.{◌>>=◌, ended, front_at, number_at, number_of, text_of}

-- ---- bytes

abbrev pub AreBytes : List ℕ → Type 0
AreBytes bytes = (i : ℕ) → get_or bytes i 0 < 256

pub bytes-drop : (n : ℕ) (bytes : List ℕ) → AreBytes bytes → AreBytes (drop n bytes)
bytes-drop n bytes h i = rw get_or-drop (h (n + i))

pub bytes-take : (n : ℕ) (bytes : List ℕ) → AreBytes bytes → AreBytes (take n bytes)
bytes-take n bytes h i =
    elim (cases_lt i n) [
      | inl lt ↦ rw (get_or-take n bytes i 0 lt) (h i)
      | inr le ↦ rw (get_or_past (take n bytes) i 0 (omega (arith, length-take n bytes))) (omega arith)
    ]

pub bytes-rest : (b : ℕ) (bytes : List ℕ) → AreBytes (b ∷ bytes) → AreBytes bytes
bytes-rest b bytes h i = h (suc i)

-- ---- steps that did not fail

pub bind_some : {A B : Type 0} (r : Option A) (f : A → Option B) (y : B) → (r >>= f) ≡ Some y → (x : A) × (r ≡ Some x) × (f x ≡ Some y)
bind_some (Some x) f y e = (x, refl, e)
bind_some None f y e = absurd cc

abbrev pub made : {A : Type 0} → A → Option A
made x = Some x

pub some_is : {A : Type 0} (x y : A) → made x ≡ made y → x ≡ y
some_is x y e = cc

-- a test that did not fail
pub guard_some : {A : Type 0} (b : Bool) (x y : A) → cond b None (Some x) ≡ Some y → (b ≡ false) × (x ≡ y)
guard_some true x y e = absurd cc
guard_some false x y e = (refl, cc)

pub passed_some : {A : Type 0} (b : Bool) (x y : A) → cond b (Some x) None ≡ Some y → (b ≡ true) × (x ≡ y)
passed_some true x y e = (refl, cc)
passed_some false x y e = absurd cc

pub ended_some : {A : Type 0} (a b : A) (bytes : List ℕ) → ended a bytes ≡ Some b → (bytes ≡ []) × (a ≡ b)
ended_some a b [] e = (refl, some_is a b e)
ended_some a b (x ∷ bytes) e = absurd cc

-- ---- what a reader took from the front

pub record Takes (bytes text rest : List ℕ) : Type 0 where
  pub parts : bytes ≡ text ++ rest
  pub are_bytes : AreBytes rest

pub takes_both : (a x b y c : List ℕ) → Takes a x b → Takes b y c → Takes a (x ++ y) c
takes_both a x b y c p q = record { parts = p.parts ∙ ap (λ (t : List ℕ). x ++ t) q.parts ∙ sym (append_assoc x y c); are_bytes = q.are_bytes }

pub front_takes : (n : ℕ) (bytes : List ℕ) (x : List ℕ × List ℕ) → AreBytes bytes → front_at n bytes ≡ Some x → Takes bytes x.0 x.1 × (length x.0 ≡ n) × (x.0 ≡ take n bytes)
unfolding front_at
front_takes n bytes x h e =
    let g = guard_some (ltb (length bytes) n) (take n bytes, drop n bytes) x e in
    let long : n ≤ length bytes = ltb-false _ _ g.0 in
    subst (λ (y : List ℕ × List ℕ). Takes bytes y.0 y.1 × (length y.0 ≡ n) × (y.0 ≡ take n bytes)) g.1
    (record { parts = sym (take-append-drop n bytes); are_bytes = bytes-drop n bytes h }, omega (arith, length-take n bytes), refl)

pub front_again : (n : ℕ) (text rest : List ℕ) → length text ≡ n → front_at n (text ++ rest) ≡ Some (text, rest)
unfolding front_at
front_again n text rest e =
    let long : ltb (length (text ++ rest)) n ≡ false = le-ltb _ _ (omega (arith, length-append text rest)) in
    rw (long, take_at text rest n e, drop_at text rest n e) refl

-- ---- numbers

be8_below : (bytes : List ℕ) → AreBytes bytes → from_be_bytes w64 bytes < 2 ^ 64
be8_below bytes h = omega (arith, h 0, h 1, h 2, h 3, h 4, h 5, h 6, h 7)

takes_number : (bytes front rest : List ℕ) → Takes bytes front rest → length front ≡ 8 → AreBytes front → Takes bytes (be8 (from_be_bytes w64 front)) rest × (from_be_bytes w64 front < 2 ^ 64)
takes_number bytes front rest t long are =
    (record { parts = t.parts ∙ ap (λ (f : List ℕ). f ++ rest) (sym (be_bytes_8 front _ long are refl)); are_bytes = t.are_bytes }, be8_below front are)

pub number_takes : (bytes : List ℕ) (x : ℕ × List ℕ) → AreBytes bytes → number_at bytes ≡ Some x → Takes bytes (be8 x.0) x.1 × (x.0 < 2 ^ 64)
unfolding number_at
number_takes bytes x h e =
    let b = bind_some (front_at 8 bytes) (λ front. Some (from_be_bytes w64 front.0, front.1)) x e in
    let t = front_takes 8 bytes b.0 h b.1 in
    let are : AreBytes b.0.0 = rw t.2 (bytes-take 8 bytes h) in
    subst (λ (y : ℕ × List ℕ). Takes bytes (be8 y.0) y.1 × (y.0 < 2 ^ 64)) (some_is (from_be_bytes w64 b.0.0, b.0.1) x b.2) (takes_number bytes b.0.0 b.0.1 t.0 t.1 are)

pub number_again : (n : ℕ) (rest : List ℕ) → n < 2 ^ 64 → number_at (be8 n ++ rest) ≡ Some (n, rest)
unfolding number_at
number_again n rest lt = rw (front_again 8 (be8 n) rest refl, from_be_bytes-to_be_bytes_8 n lt) refl

pub number_is : (bytes : List ℕ) (n : ℕ) → AreBytes bytes → number_of bytes ≡ Some n → (bytes ≡ be8 n) × (n < 2 ^ 64)
number_is bytes n h e =
    let b = bind_some (number_at bytes) (λ x. ended x.0 x.1) n e in
    let t = number_takes bytes b.0 h b.1 in
    let g = ended_some b.0.0 n b.0.1 b.2 in
    rw (← g.1) (t.0.parts ∙ ap (λ (r : List ℕ). be8 b.0.0 ++ r) g.0 ∙ append-nil (be8 b.0.0), t.1)

pub number_is_again : (n : ℕ) → n < 2 ^ 64 → number_of (be8 n) ≡ Some n
number_is_again n lt =
    let one : number_at (be8 n) ≡ Some (n, []) = ap number_at (sym (append-nil (be8 n))) ∙ number_again n [] lt in
    rw one refl

-- ---- texts

pub text_is_utf8 : (bytes text : List ℕ) → text_of bytes ≡ Some text → (bytes ≡ text) × IsUtf8 text
unfolding text_of
text_is_utf8 bytes text e =
    let g = passed_some (is_utf8 bytes) bytes text e in
    (g.1, rw (← g.1) (IsUtf8-from_is_utf8 bytes g.0))
