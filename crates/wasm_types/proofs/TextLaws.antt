-- The laws of what bytes spell and where they break.
use Rattle.std.proofs.Common.{◌≡◌, ℕ, ◌+◌, ◌<◌, ◌↔◌, Bool, true, false, cond, List, [], ◌∷◌, ◌++◌, length, drop, Option, Some, None, Ok, Err, refl, sym, ap, subst, ◌∙◌, arith}
use Rattle.std.specs.Prelude.{nat_eq}
use Rattle.std.specs.List.{starts_with}
use Rattle.std.proofs.lemmas.Bool.{lt-ltb, ne_eqb}
use Rattle.std.proofs.lemmas.Bool.Decides.{Decides-eqb}
use Rattle.std.proofs.lemmas.List.{append-nil}
use Rattle.std.proofs.lemmas.Slice.Eq.{starts_is}
use Rattle.wasm_types.specs.declared.kind.ReadKind.{ReadKind}
use Rattle.wasm_types.specs.declared.kind.ReadKind.TheVariants.{Cut, Magic, Leb}
use Rattle.wasm_types.specs.Plain.{PlainModule}
use Rattle.wasm_types.specs.Place.{Place, Broken, Reading, breaks}
use Rattle.wasm_types.specs.Number.{IsCutNumber, number_at, number_read, number_or, is_cut_number}
use Rattle.wasm_types.specs.Part.{next_read, length_read, word_read}
use Rattle.wasm_types.specs.Body.{opcode}
use Rattle.wasm_types.specs.ModuleText.{header, end_read, AreBytes, IsModule, module_part, module_in, broken_in, reading_of}
use Rattle.wasm_types.specs.Laws.{SpellsOnce, IsTheSpelled, BreaksOrSpells, IsProperFront, WantsInstruction, WantsSameCount, CutsNumber, CutsHeader, CutsByte, CutsLength}
use Rattle.wasm_types.proofs.Lawful.{here, ok_is, read_of}
use Rattle.wasm_types.proofs.NumberLaws.{cut_is}
use Rattle.wasm_types.proofs.ModuleLaws.{whole_module}

-- ---- modules

pub is_read : (bytes : List ℕ) (m : PlainModule) → IsModule bytes m → reading_of bytes ≡ Ok (m, here (length bytes) [])
is_read bytes m s =
    let r = whole_module.lawful.again 0 bytes [] m s.1 refl in
    let e : 0 + length bytes ≡ length bytes = omega arith in
    rw (append-nil bytes, e) at r

pub is_spelled : (bytes : List ℕ) (m : PlainModule) (after : Place) → AreBytes bytes → reading_of bytes ≡ Ok (m, after) → IsModule bytes m
is_spelled bytes m after fits e =
    let t = whole_module.lawful.sound (here 0 bytes) m after e in
    let nothing = whole_module.ends (here 0 bytes) m after e in
    let all : bytes ≡ t.text = t.cut ∙ ap (λ (r : List ℕ). t.text ++ r) nothing ∙ append-nil t.text in
    (fits, subst (λ (r : List ℕ). module_part.Spells r m) (sym all) t.spelled)

pub spells_once : SpellsOnce
spells_once bytes m n s t = ap (λ (p : PlainModule × Place). p.0) (ok_is (m, here (length bytes) []) (n, here (length bytes) []) (sym (is_read bytes m s) ∙ is_read bytes n t))

pub is_the_spelled : IsTheSpelled
is_the_spelled bytes m fits = (λ e. go (reading_of bytes) refl e, λ s. rw (is_read bytes m s) refl)
  where
    go : (r : Reading PlainModule) → reading_of bytes ≡ r → module_in r ≡ Some m → IsModule bytes m
    go (Ok x) h e = is_spelled bytes m x.1 fits (h ∙ ap (λ (n : PlainModule). read_of (n, x.1)) cc)
    go (Err f) h e = absurd cc

pub breaks_or_spells : BreaksOrSpells
breaks_or_spells bytes fits = (λ e. go (reading_of bytes) refl e, λ s. rw (is_read bytes s.0 s.1) refl)
  where
    go : (r : Reading PlainModule) → reading_of bytes ≡ r → broken_in r ≡ None → (m : PlainModule) × IsModule bytes m
    go (Ok x) h e = (x.0, is_spelled bytes x.0 x.1 fits h)
    go (Err f) h e = absurd cc

-- ---- the order of the kinds

pub wants_instruction : WantsInstruction
unfolding opcode next_read
wants_instruction may_else at = refl

pub wants_same_count : WantsSameCount
unfolding end_read
wants_same_count funcs codes at differ = rw (ne_eqb funcs codes differ) refl

abbrev failed : {A : Type 0} → Broken → Reading A
failed f = Err f

err_is : (A : Type 0) (f g : Broken) → failed {A = A} f ≡ failed g → f ≡ g
err_is A f g e = cc

-- a kind is Cut exactly where the test says so
cut_kind : (b : Bool) (other : ReadKind) → (other ≡ Cut → ⊥) → (cond b Cut other ≡ Cut) ↔ (b ≡ true)
cut_kind true other h = (λ _. refl, λ _. refl)
cut_kind false other h = (λ e. absurd (h e), λ e. absurd cc)

pub cuts_number : CutsNumber
unfolding number_read
cuts_number signed bits start fault e = go (number_at signed bits start.at start.rest) e
  where
    go : (o : Option (ℕ × Place)) → number_or bits start o ≡ Err fault → (fault.at ≡ start.at) × ((fault.kind ≡ Cut) ↔ IsCutNumber signed bits start.rest)
    go (Some x) e = absurd cc
    go None e =
        let same = err_is ℕ (record { at = start.at; kind = cond (is_cut_number bits start.rest) Cut Leb }) fault e in
        let law = cut_is signed bits start.rest (is_cut_number bits start.rest) refl in
        let k = cut_kind (is_cut_number bits start.rest) Leb (λ e. cc) in
        subst (λ (f : Broken). (f.at ≡ start.at) × ((f.kind ≡ Cut) ↔ IsCutNumber signed bits start.rest)) same (refl, (λ c. law.0 (k.0 c), λ c. k.1 (law.1 c)))

abbrev header_or : Place → Bool → Reading (Unit {0})
header_or start b = cond b (Ok (tt, here (start.at + length header) (drop (length header) start.rest))) (breaks start.at (cond (starts_with nat_eq header start.rest) Cut Magic))

pub cuts_header : CutsHeader
unfolding word_read
cuts_header start fault e = go (starts_with nat_eq start.rest header) refl e
  where
    go : (b : Bool) → starts_with nat_eq start.rest header ≡ b → header_or start b ≡ Err fault → (fault.at ≡ start.at) × ((fault.kind ≡ Cut) ↔ IsProperFront start.rest header)
    go true h e = absurd cc
    go false h e =
        let same = err_is (Unit {0}) (record { at = start.at; kind = cond (starts_with nat_eq header start.rest) Cut Magic }) fault e in
        let k = cut_kind (starts_with nat_eq header start.rest) Magic (λ e. cc) in
        let front = starts_is Decides-eqb header start.rest (starts_with nat_eq header start.rest) refl in
        let whole = starts_is Decides-eqb start.rest header (starts_with nat_eq start.rest header) refl in
        subst (λ (f : Broken). (f.at ≡ start.at) × ((f.kind ≡ Cut) ↔ IsProperFront start.rest header)) same
        (refl, (λ c. let w = front.0 (k.0 c) in (drop (length start.rest) header, some (drop (length start.rest) header) w, w), λ p. k.1 (front.1 p.0 p.2)))
      where
        some : (more : List ℕ) → header ≡ start.rest ++ more → 0 < length more
        some [] w =
            let all : start.rest ≡ header ++ [] = sym (w ∙ append-nil start.rest) ∙ sym (append-nil header) in
            let found = (starts_is Decides-eqb start.rest header (starts_with nat_eq start.rest header) refl).1 [] all in
            absurd cc
        some (b ∷ more) w = omega arith

pub cuts_byte : CutsByte
unfolding next_read
cuts_byte at = refl

pub cuts_length : CutsLength
unfolding length_read
cuts_length start after n e lt = rw (e, lt-ltb _ _ lt) refl
