-- Steps of a reading that did not fail, and what they took from the front of the bytes.
use Rattle.std.proofs.Common.{◌≡◌, ℕ, suc, ◌+◌, ◌<◌, ◌≤◌, Bool, true, false, cond, ltb, List, ◌∷◌, ◌++◌, length, get_or, take, drop, Option, Some, None, refl, sym, ap, subst, ◌∙◌, append_assoc, arith, inl, inr}
use Rattle.std.specs.Prelude.{if◌then◌else◌}
use Rattle.std.proofs.lemmas.Bool.{cases_lt, ltb-false, le-ltb}
use Rattle.std.proofs.lemmas.List.{take_at, drop_at, take-append-drop, length-append, length-take, get_or-drop, get_or-take, get_or_past}
use Rattle.module_file.specs.Form.{Reading, then_read, known, front_read}

-- ---- bytes

abbrev pub AreBytes : List ℕ → Type 0
AreBytes bytes = (i : ℕ) → get_or bytes i 0 < 256

pub bytes-drop : (n : ℕ) (bytes : List ℕ) → AreBytes bytes → AreBytes (drop n bytes)
bytes-drop n bytes h i = rw get_or-drop (h (n + i))

pub bytes-take : (n : ℕ) (bytes : List ℕ) → AreBytes bytes → AreBytes (take n bytes)
bytes-take n bytes h i =
    elim (cases_lt i n) [
      | inl lt ↦ rw (get_or-take n bytes i 0 lt) (h i)
      | inr le ↦ rw (get_or_past (take n bytes) i 0 (omega (arith, length-take n bytes))) (omega arith)
    ]

pub bytes-rest : (b : ℕ) (bytes : List ℕ) → AreBytes (b ∷ bytes) → AreBytes bytes
bytes-rest b bytes h i = h (suc i)

-- ---- steps that did not fail

abbrev pub made : {A : Type 0} → A → Option A
made a = Some a

pub some_is : {A : Type 0} (a b : A) → made a ≡ made b → a ≡ b
some_is a b e = cc

pub then_some : {A B : Type 0} (r : Reading A) (f : A → List ℕ → Reading B) (y : B × List ℕ) → then_read r f ≡ Some y → (x : A × List ℕ) × (r ≡ Some x) × (f x.0 x.1 ≡ Some y)
then_some (Some x) f y e = (x, refl, e)
then_some None f y e = absurd cc

pub known_some : {A : Type 0} (o : Option A) (bytes rest : List ℕ) (a : A) → known o bytes ≡ Some (a, rest) → (o ≡ Some a) × (bytes ≡ rest)
known_some (Some b) bytes rest a e = let same = some_is (b, bytes) (a, rest) e in (ap (λ x. Some x.0) same, ap (λ x. x.1) same)
known_some None bytes rest a e = absurd cc

-- a test that did not fail
pub guard_some : {A : Type 0} (b : Bool) (x y : A) → cond b None (Some x) ≡ Some y → (b ≡ false) × (x ≡ y)
guard_some true x y e = absurd cc
guard_some false x y e = (refl, cc)

pub passed_some : {A : Type 0} (b : Bool) (x y : A) → cond b (Some x) None ≡ Some y → (b ≡ true) × (x ≡ y)
passed_some true x y e = (refl, cc)
passed_some false x y e = absurd cc

pub either : {A : Type 0} (P : A → Type 0) (c : Bool) (x y : A) → (c ≡ true → P x) → (c ≡ false → P y) → P (if c then x else y)
either P true x y f g = f refl
either P false x y f g = g refl

-- ---- what was taken from the front

pub record Takes (bytes text rest : List ℕ) : Type 0 where
  pub parts : bytes ≡ text ++ rest
  pub are_bytes : AreBytes rest

pub takes_both : (a x b y c : List ℕ) → Takes a x b → Takes b y c → Takes a (x ++ y) c
takes_both a x b y c p q = record { parts = p.parts ∙ ap (λ (t : List ℕ). x ++ t) q.parts ∙ sym (append_assoc x y c); are_bytes = q.are_bytes }

-- ---- so many bytes

pub front_takes : (n : ℕ) (bytes : List ℕ) (x : List ℕ × List ℕ) → AreBytes bytes → front_read n bytes ≡ Some x → Takes bytes x.0 x.1 × (length x.0 ≡ n) × (x.0 ≡ take n bytes)
unfolding front_read
front_takes n bytes x h e =
    let g = guard_some (ltb (length bytes) n) (take n bytes, drop n bytes) x e in
    let long : n ≤ length bytes = ltb-false _ _ g.0 in
    subst (λ (y : List ℕ × List ℕ). Takes bytes y.0 y.1 × (length y.0 ≡ n) × (y.0 ≡ take n bytes)) g.1
    (record { parts = sym (take-append-drop n bytes); are_bytes = bytes-drop n bytes h }, omega (arith, length-take n bytes), refl)

pub front_again : (n : ℕ) (text rest : List ℕ) → length text ≡ n → front_read n (text ++ rest) ≡ Some (text, rest)
unfolding front_read
front_again n text rest e =
    let long : ltb (length (text ++ rest)) n ≡ false = le-ltb _ _ (omega (arith, length-append text rest)) in
    rw (long, take_at text rest n e, drop_at text rest n e) refl
