-- What it is that a text is a shortest spelling of a value of a part, and how such texts join.
use Rattle.std.proofs.Common.{◌≡◌, ℕ, zero, suc, ◌≤◌, ◌<◌, Bool, List, [], ◌∷◌, ◌++◌, length, Result, Ok, refl, sym, ap, subst, ◌∙◌, arith}
use Rattle.std.specs.List.{flat_map}
use Rattle.std.proofs.lemmas.List.{append-nil, length-append}
use Rattle.wasm_types.specs.declared.kind.ReadKind.{ReadKind}
use Rattle.wasm_types.specs.Part.{Part, done, ◌>>=◌, judged, byte_or, anything, IsRepeated, times}
use Rattle.wasm_types.specs.ModuleText.{AreBytes}

-- ---- bytes

abbrev pub Bytes : List ℕ → Type 0
Bytes [] = Unit {0}
Bytes (b ∷ text) = (b < 256) × Bytes text

pub bytes_of : (text : List ℕ) → AreBytes text → Bytes text
bytes_of [] h = tt
bytes_of (b ∷ text) h = (h 0 0 (omega arith), bytes_of text (λ k d lt. h (suc k) d (omega arith)))

pub are_bytes : (text : List ℕ) → Bytes text → AreBytes text
are_bytes [] h k d lt = absurd (omega arith)
are_bytes (b ∷ text) h zero d lt = h.0
are_bytes (b ∷ text) h (suc k) d lt = are_bytes text h.1 k d (omega arith)

pub front_bytes : (a b : List ℕ) → Bytes (a ++ b) → Bytes a
front_bytes [] b h = tt
front_bytes (x ∷ a) b h = (h.0, front_bytes a b h.1)

pub back_bytes : (a b : List ℕ) → Bytes (a ++ b) → Bytes b
back_bytes [] b h = h
back_bytes (x ∷ a) b h = back_bytes a b h.1

pub both_bytes : (a b : List ℕ) → Bytes a → Bytes b → Bytes (a ++ b)
both_bytes [] b h k = k
both_bytes (x ∷ a) b h k = (h.0, both_bytes a b h.1 k)

-- ---- a text that is spelled, and isn't longer than another

pub record Shorter (Spells : List ℕ → Type 0) (other text : List ℕ) : Type 0 where
  pub bytes : Bytes text
  pub spelled : Spells text
  pub short : length text ≤ length other

pub record Least {A : Type 0} (p : Part A) (text : A → List ℕ) : Type 0 where
  pub holds : (a : A) (other : List ℕ) → Bytes other → p.Spells other a → Shorter (λ t. p.Spells t a) other (text a)

pub itself : (Spells : List ℕ → Type 0) (other text : List ℕ) → Bytes other → Spells other → text ≡ other → Shorter Spells other text
itself Spells other text bytes spelled e =
    subst (λ (t : List ℕ). Shorter Spells other t) (sym e) (record { bytes = bytes; spelled = spelled; short = omega arith })

pub renamed : (Spells : List ℕ → Type 0) (other text same : List ℕ) → same ≡ text → Shorter Spells other text → Shorter Spells other same
renamed Spells other text same e s = subst (λ (t : List ℕ). Shorter Spells other t) (sym e) s

-- ---- joining

pub least_done : {A : Type 0} {t : A → List ℕ} (x : A) → t x ≡ [] → Least (done x) t
least_done {A} {t} x same = record {
  holds = λ a other bytes s. renamed (λ u. (done x).Spells u a) other [] (t a) (ap t s.1 ∙ same) (record { bytes = tt; spelled = (refl, s.1); short = omega arith });
}

pub least_made : {A B : Type 0} {p : Part A} {t1 : A → List ℕ} {t : B → List ℕ} → Least p t1 → (g : A → B) → ((a : A) → t (g a) ≡ t1 a) → Least (p >>= (λ a. done (g a))) t
least_made {A} {B} {p} {t1} {t} l g same = record { holds = holds }
  where
    made : (a : A) (other front : List ℕ) → length front ≤ length other → Shorter (λ u. p.Spells u a) front (t1 a) → Shorter (λ u. (p >>= (λ a. done (g a))).Spells u (g a)) other (t (g a))
    made a other front le one =
        subst (λ (x : List ℕ). Shorter (λ u. (p >>= (λ a. done (g a))).Spells u (g a)) other x) (sym (same a)) (record {
          bytes = one.bytes;
          spelled = record { front = t1 a; back = []; value = a; cut = sym (append-nil (t1 a)); first = one.spelled; second = (refl, refl) };
          short = omega (arith, one.short);
        })

    holds : (b : B) (other : List ℕ) → Bytes other → (p >>= (λ a. done (g a))).Spells other b → Shorter (λ u. (p >>= (λ a. done (g a))).Spells u b) other (t b)
    holds b other bytes s =
        let all = subst (λ (x : List ℕ). Bytes x) s.cut bytes in
        subst (λ (c : B). Shorter (λ u. (p >>= (λ a. done (g a))).Spells u c) other (t c)) (sym s.second.1)
        (made s.value other s.front (omega (arith, ap length s.cut, length-append s.front s.back)) (l.holds s.value s.front (front_bytes s.front s.back all) s.first))

pub least_join : {A B : Type 0} {p : Part A} {q : A → Part B} {t1 : A → List ℕ} {t2 : A → B → List ℕ} {t : B → List ℕ} → Least p t1 → ((a : A) → Least (q a) (t2 a)) → ((a : A) (b : B) (front rest : List ℕ) → p.Spells front a → (q a).Spells rest b → t b ≡ t1 a ++ t2 a b) → Least (p >>= q) t
least_join {A} {B} {p} {q} {t1} {t2} {t} first second same = record { holds = holds }
  where
    holds : (b : B) (other : List ℕ) → Bytes other → (p >>= q).Spells other b → Shorter (λ u. (p >>= q).Spells u b) other (t b)
    holds b other bytes s =
        let all = subst (λ (x : List ℕ). Bytes x) s.cut bytes in
        let one = first.holds s.value s.front (front_bytes s.front s.back all) s.first in
        let two = (second s.value).holds b s.back (back_bytes s.front s.back all) s.second in
        subst (λ (x : List ℕ). Shorter (λ u. (p >>= q).Spells u b) other x) (sym (same s.value b s.front s.back s.first s.second)) (record {
          bytes = both_bytes (t1 s.value) (t2 s.value b) one.bytes two.bytes;
          spelled = record { front = t1 s.value; back = t2 s.value b; value = s.value; cut = refl; first = one.spelled; second = two.spelled };
          short = omega (arith, one.short, two.short, ap length s.cut, length-append s.front s.back, length-append (t1 s.value) (t2 s.value b));
        })

-- another name for the same texts
pub least_named : {A : Type 0} {p : Part A} {t u : A → List ℕ} → Least p t → ((a : A) → u a ≡ t a) → Least p u
least_named {A} {p} {t} {u} l same = record { holds = λ a other bytes s. subst (λ (x : List ℕ). Shorter (λ v. p.Spells v a) other x) (sym (same a)) (l.holds a other bytes s) }

-- ---- bytes, and tests

pub least_byte : {A : Type 0} (why : ReadKind) (value_of : ℕ → Result A ReadKind) (byte_of : A → ℕ) → ((b : ℕ) (a : A) → b < 256 → value_of b ≡ Ok a → byte_of a ≡ b) → Least (byte_or why value_of) (λ a. byte_of a ∷ [])
least_byte {A} why value_of byte_of same = record {
  holds = λ a other bytes s.
      let all = subst (λ (x : List ℕ). Bytes x) s.1 bytes in
      itself (λ t. (byte_or why value_of).Spells t a) other (byte_of a ∷ []) bytes s (ap (λ (b : ℕ). b ∷ []) (same s.0 a all.0 s.2) ∙ sym s.1);
}

pub least_judged : {A : Type 0} {p : Part A} {t : A → List ℕ} (why : ReadKind) (test : A → Bool) → Least p t → Least (judged why test p) t
least_judged why test l = record {
  holds = λ a other bytes s. let one = l.holds a other bytes s.0 in record { bytes = one.bytes; spelled = (one.spelled, s.1); short = one.short };
}

pub least_anything : Least anything (λ a. a)
least_anything = record { holds = λ a other bytes s. itself (λ t. a ≡ t) other a bytes s s }

-- ---- lists

pub repeated_len : {A : Type 0} (Spells : List ℕ → A → Type 0) (n : ℕ) (text : List ℕ) (items : List A) → IsRepeated Spells n text items → length items ≡ n
repeated_len Spells zero text items s = ap length s.1
repeated_len Spells (suc n) text items s =
    ap length s.second.second.1 ∙ ap suc (repeated_len Spells n s.second.front s.second.value s.second.first)

pub least_times : {A : Type 0} {p : Part A} {t : A → List ℕ} → Least p t → (n : ℕ) → Least (times n p) (flat_map t)
least_times {A} {p} {t} l n = record { holds = holds n }
  where
    holds : (n : ℕ) (items : List A) (other : List ℕ) → Bytes other → IsRepeated p.Spells n other items → Shorter (λ u. IsRepeated p.Spells n u items) other (flat_map t items)
    holds zero items other bytes s =
        subst (λ (x : List A). Shorter (λ u. IsRepeated p.Spells zero u x) other (flat_map t x)) (sym s.1) (record { bytes = tt; spelled = (refl, refl); short = omega arith })
    holds (suc n) items other bytes s =
        let r = s.second in
        let back-is : s.back ≡ r.front = r.cut ∙ ap (λ (x : List ℕ). r.front ++ x) r.second.0 ∙ append-nil r.front in
        let all = subst (λ (x : List ℕ). Bytes x) (s.cut ∙ ap (λ (x : List ℕ). s.front ++ x) back-is) bytes in
        let one = l.holds s.value s.front (front_bytes s.front r.front all) s.first in
        let two = holds n r.value r.front (back_bytes s.front r.front all) r.first in
        subst (λ (x : List A). Shorter (λ u. IsRepeated p.Spells (suc n) u x) other (flat_map t x)) (sym r.second.1) (record {
          bytes = both_bytes (t s.value) (flat_map t r.value) one.bytes two.bytes;
          spelled = record {
            front = t s.value;
            back = flat_map t r.value;
            value = s.value;
            cut = refl;
            first = one.spelled;
            second = record { front = flat_map t r.value; back = []; value = r.value; cut = sym (append-nil (flat_map t r.value)); first = two.spelled; second = (refl, refl) };
          };
          short = omega (arith, one.short, two.short, ap length s.cut, ap length back-is, length-append s.front s.back, length-append (t s.value) (flat_map t r.value));
        })
