-- Each part breaks exactly where, and as, its own parts do, and never outside what holds it.
use Rattle.std.proofs.Common.{◌≡◌, ℕ, zero, suc, ◌+◌, ◌-◌, ◌≤◌, ◌<◌, ◌⊎◌, Bool, true, false, cond, ltb, List, [], ◌∷◌, length, take, drop, Option, Some, None, Result, Ok, Err, refl, sym, ap, subst, ◌∙◌, arith, inl, inr}
use Rattle.std.specs.Prelude.{nat_eq}
use Rattle.std.specs.List.{starts_with}
use Rattle.std.proofs.lemmas.Bool.{lt-ltb, ltb-true, ltb-false}
use Rattle.std.proofs.lemmas.Bool.Decides.{Decides-eqb}
use Rattle.std.proofs.lemmas.List.{length-append, length-take, length-drop}
use Rattle.std.proofs.lemmas.Slice.Eq.{starts_is}
use Rattle.wasm_types.specs.declared.kind.ReadKind.{ReadKind}
use Rattle.wasm_types.specs.declared.kind.ReadKind.TheVariants.{Cut, Leb, Size}
use Rattle.wasm_types.specs.Place.{Place, Broken, Reading, then_read, breaks}
use Rattle.wasm_types.specs.Number.{IsCutNumber, is_cut_number, number_at, number_read, number_or, number_kind}
use Rattle.wasm_types.specs.Part.{Part, IsFault, IsCutOr, BreaksBehind, done, ◌>>=◌, judged, passing, next_of, next_read, known, IsNoByte, byte_or, IsNoNumber, number, index, word_read, IsFrontOf, IsNoWord, exactly, anything, times_read, BreaksInList, times, vector, long_enough, length_read, IsNoLength, inside, behind, part_read, used_up, used_up_read, HasMore, BreaksInSized, sized_read, sized}
use Rattle.wasm_types.proofs.Lawful.{here, ok_is, read_of, bind_ok}
use Rattle.wasm_types.proofs.NumberLaws.{number_sound, number_again, cut_is}

abbrev pub failed : {A : Type 0} → Broken → Reading A
failed fault = Err fault

pub err_is : (A : Type 0) (f g : Broken) → failed {A = A} f ≡ failed g → f ≡ g
err_is A f g e = cc

-- a fault does not depend on what would have been read
pub err_as : (A B : Type 0) (f g : Broken) → failed {A = A} f ≡ failed g → failed {A = B} f ≡ failed g
err_as A B f g e = ap failed (err_is A f g e)

pub bind_err : {A B : Type 0} (r : Reading A) (f : A → Place → Reading B) (fault : Broken) → then_read r f ≡ failed fault → (r ≡ failed fault) ⊎ BreaksBehind r (λ a after. f a after ≡ failed fault)
bind_err (Ok x) f fault e = inr (x.0, x.1, refl, e)
bind_err {A} {B} (Err g) f fault e = inl (err_as B A g fault e)

pub then_err : {A B : Type 0} (r : Reading A) (f : A → Place → Reading B) (fault : Broken) → r ≡ failed fault → then_read r f ≡ failed fault
then_err r f fault e = rw e refl

pub then_behind : {A B : Type 0} (r : Reading A) (f : A → Place → Reading B) (fault : Broken) → BreaksBehind r (λ a after. f a after ≡ failed fault) → then_read r f ≡ failed fault
then_behind r f fault b = rw b.2 b.3

abbrev pub IsNear : Place → Broken → Type 0
IsNear start fault = (start.at ≤ fault.at) × (fault.at ≤ start.at + length start.rest)

abbrev pub Moves : Place → Place → Type 0
Moves start after = (start.at ≤ after.at) × (after.at + length after.rest ≤ start.at + length start.rest)

pub record Exact {A : Type 0} (p : Part A) : Type 0 where
  pub found : (start : Place) (fault : Broken) → p.read start ≡ failed fault → p.BreaksAt start fault
  pub again : (start : Place) (fault : Broken) → p.BreaksAt start fault → p.read start ≡ failed fault
  pub near : (start : Place) (fault : Broken) → p.BreaksAt start fault → IsNear start fault
  pub moves : (start : Place) (a : A) (after : Place) → p.read start ≡ Ok (a, after) → Moves start after

-- ---- joining

stays : {A : Type 0} (start : Place) (a b : A) (after : Place) → read_of (a, start) ≡ Ok (b, after) → Moves start after
stays start a b after e = subst (Moves start) (ap (λ p. p.1) (ok_is (a, start) (b, after) e)) (omega arith, omega arith)

pub exact_done : {A : Type 0} (a : A) → Exact (done a)
exact_done a = record {
  found = λ start fault e. absurd cc;
  again = λ start fault b. absurd b;
  near = λ start fault b. absurd b;
  moves = λ start b after e. stays start a b after e;
}

pub near_behind : (start after : Place) (fault : Broken) → Moves start after → IsNear after fault → IsNear start fault
near_behind start after fault m n = (omega (arith, m.0, n.0), omega (arith, m.1, n.1))

pub exact_bind : {A B : Type 0} {p : Part A} {q : A → Part B} → Exact p → ((a : A) → Exact (q a)) → Exact (p >>= q)
exact_bind {A} {B} {p} {q} one two = record {
  found = λ start fault e. found start fault (bind_err (p.read start) (λ a. (q a).read) fault e);
  again = again;
  near = near;
  moves = λ start b after e.
      let x = bind_ok (p.read start) (λ a. (q a).read) (b, after) e in
      let m = one.moves start x.0.0 x.0.1 x.1 in
      let n = (two x.0.0).moves x.0.1 b after x.2 in
      (omega (arith, m.0, n.0), omega (arith, m.1, n.1));
}
  where
    found : (start : Place) (fault : Broken) → (p.read start ≡ failed fault) ⊎ BreaksBehind (p.read start) (λ a after. (q a).read after ≡ failed fault) → (p >>= q).BreaksAt start fault
    found start fault (inl e) = inl (one.found start fault e)
    found start fault (inr b) = inr (b.0, b.1, b.2, (two b.0).found b.1 fault b.3)

    again : (start : Place) (fault : Broken) → (p >>= q).BreaksAt start fault → (p >>= q).read start ≡ failed fault
    again start fault (inl b) = then_err (p.read start) (λ a. (q a).read) fault (one.again start fault b)
    again start fault (inr b) = then_behind (p.read start) (λ a. (q a).read) fault (b.0, b.1, b.2, (two b.0).again b.1 fault b.3)

    near : (start : Place) (fault : Broken) → (p >>= q).BreaksAt start fault → IsNear start fault
    near start fault (inl b) = one.near start fault b
    near start fault (inr b) = near_behind start b.1 fault (one.moves start b.0 b.1 b.2) ((two b.0).near b.1 fault b.3)

-- a fault of this kind at the place itself
here_near : (start : Place) (kind : ReadKind) (fault : Broken) → IsFault start.at kind fault → IsNear start fault
here_near start kind fault e = (omega (arith, ap (λ (f : Broken). f.at) e), omega (arith, ap (λ (f : Broken). f.at) e))

passing_err : {A : Type 0} (b : Bool) (why : ReadKind) (a : A) (start after : Place) (fault : Broken) → passing b why a start after ≡ failed fault → (b ≡ false) × IsFault start.at why fault
passing_err true why a start after fault e = absurd cc
passing_err {A} false why a start after fault e = (refl, sym (err_is A (record { at = start.at; kind = why }) fault e))

passing_ok : {A : Type 0} (b : Bool) (why : ReadKind) (x : A) (start after : Place) (a : A) (end : Place) → passing b why x start after ≡ Ok (a, end) → after ≡ end
passing_ok true why x start after a end e = ap (λ p. p.1) (ok_is (x, after) (a, end) e)
passing_ok false why x start after a end e = absurd cc

pub exact_judged : {A : Type 0} (why : ReadKind) (test : A → Bool) {p : Part A} → Exact p → Exact (judged why test p)
exact_judged {A} why test {p} one = record {
  found = λ start fault e. found start fault (bind_err (p.read start) (λ a after. passing (test a) why a start after) fault e);
  again = again;
  near = near;
  moves = λ start a after e.
      let x = bind_ok (p.read start) (λ a after. passing (test a) why a start after) (a, after) e in
      subst (Moves start) (passing_ok (test x.0.0) why x.0.0 start x.0.1 a after x.2) (one.moves start x.0.0 x.0.1 x.1);
}
  where
    found : (start : Place) (fault : Broken) → (p.read start ≡ failed fault) ⊎ BreaksBehind (p.read start) (λ a after. passing (test a) why a start after ≡ failed fault) → (judged why test p).BreaksAt start fault
    found start fault (inl e) = inl (one.found start fault e)
    found start fault (inr b) = inr (b.0, b.1, b.2, passing_err (test b.0) why b.0 start b.1 fault b.3)

    again : (start : Place) (fault : Broken) → (judged why test p).BreaksAt start fault → (judged why test p).read start ≡ failed fault
    again start fault (inl b) = then_err (p.read start) (λ a after. passing (test a) why a start after) fault (one.again start fault b)
    again start fault (inr b) = rw (b.2, b.3.0, b.3.1) refl

    near : (start : Place) (fault : Broken) → (judged why test p).BreaksAt start fault → IsNear start fault
    near start fault (inl b) = one.near start fault b
    near start fault (inr b) = here_near start why fault b.3.1

-- ---- bytes and numbers

known_err : {A : Type 0} (r : Result A ReadKind) (start after : Place) (fault : Broken) → known r start after ≡ failed fault → (fault.at ≡ start.at) × (r ≡ Err fault.kind)
known_err (Ok a) start after fault e = absurd cc
known_err {A} (Err why) start after fault e = let same = err_is A (record { at = start.at; kind = why }) fault e in (sym (ap (λ (f : Broken). f.at) same), ap Err (ap (λ (f : Broken). f.kind) same))

known_ok : {A : Type 0} (r : Result A ReadKind) (start after : Place) (a : A) (end : Place) → known r start after ≡ Ok (a, end) → after ≡ end
known_ok (Ok x) start after a end e = ap (λ p. p.1) (ok_is (x, after) (a, end) e)
known_ok (Err why) start after a end e = absurd cc

-- a fault by its place and kind
same_fault : (at : ℕ) (kind : ReadKind) (fault : Broken) → fault.at ≡ at → kind ≡ fault.kind → record { at = at; kind = kind } ≡ fault
same_fault at kind fault e f = rw (sym e, f) refl

abbrev byte_reads : {A : Type 0} → ReadKind → (ℕ → Result A ReadKind) → ℕ → List ℕ → Reading A
byte_reads why value_of at rest = then_read (next_of why at rest) (λ b after. known (value_of b) (here at rest) after)

pub exact_byte_or : {A : Type 0} (why : ReadKind) (value_of : ℕ → Result A ReadKind) → Exact (byte_or why value_of)
unfolding next_read
exact_byte_or {A} why value_of = record {
  found = λ start fault e. found start.at start.rest fault e;
  again = λ start fault b. again start.at start.rest fault b;
  near = λ start fault b. near start.at start.rest fault b;
  moves = λ start a after e. moves start.at start.rest a after e;
}
  where
    found : (at : ℕ) (rest : List ℕ) (fault : Broken) → byte_reads why value_of at rest ≡ failed fault → IsNoByte why value_of at rest fault
    found at [] fault e = sym (err_is A (record { at = at; kind = why }) fault e)
    found at (b ∷ rest) fault e = known_err (value_of b) (here at (b ∷ rest)) (here (at + 1) rest) fault e

    again : (at : ℕ) (rest : List ℕ) (fault : Broken) → IsNoByte why value_of at rest fault → byte_reads why value_of at rest ≡ failed fault
    again at [] fault b = rw b refl
    again at (b ∷ rest) fault s = rw s.1 (ap failed (same_fault at fault.kind fault s.0 refl))

    near : (at : ℕ) (rest : List ℕ) (fault : Broken) → IsNoByte why value_of at rest fault → IsNear (here at rest) fault
    near at [] fault b = here_near (here at []) why fault b
    near at (b ∷ rest) fault s = (omega (arith, s.0), omega (arith, s.0))

    moves : (at : ℕ) (rest : List ℕ) (a : A) (after : Place) → byte_reads why value_of at rest ≡ Ok (a, after) → Moves (here at rest) after
    moves at [] a after e = absurd cc
    moves at (b ∷ rest) a after e = subst (Moves (here at (b ∷ rest))) (known_ok (value_of b) (here at (b ∷ rest)) (here (at + 1) rest) a after e) (omega arith, omega arith)

number_ok : (bits : ℕ) (start : Place) (o : Option (ℕ × Place)) (n : ℕ) (after : Place) → number_or bits start o ≡ Ok (n, after) → o ≡ Some (n, after)
number_ok bits start (Some x) n after e = ap Some (ok_is x (n, after) e)
number_ok bits start None n after e = absurd cc

-- the kind by a test of whether the bytes are a front
cut_kind : (b : Bool) (F : Type 0) (other : ReadKind) → ((b ≡ true) → F) × (F → (b ≡ true)) → IsCutOr F other (cond b Cut other)
cut_kind true F other law = inl (law.0 refl, refl)
cut_kind false F other law = inr ((λ f. let e = law.1 f in absurd cc), refl)

kind_cut : (b : Bool) (F : Type 0) (other kind : ReadKind) → ((b ≡ true) → F) × (F → (b ≡ true)) → IsCutOr F other kind → cond b Cut other ≡ kind
kind_cut true F other kind law (inl s) = sym s.1
kind_cut true F other kind law (inr s) = absurd (s.0 (law.0 refl))
kind_cut false F other kind law (inl s) = let e = law.1 s.0 in absurd cc
kind_cut false F other kind law (inr s) = sym s.1

pub exact_number : (signed : Bool) (bits : ℕ) → Exact (number signed bits)
unfolding number_read
exact_number signed bits = record {
  found = λ start fault e. found start fault (number_at signed bits start.at start.rest) refl e;
  again = λ start fault b. again start fault b (number_at signed bits start.at start.rest) refl;
  near = λ start fault b. (omega (arith, b.place), omega (arith, b.place));
  moves = λ start n after e.
      let r = number_sound signed bits start.at start.rest n after (number_ok bits start (number_at signed bits start.at start.rest) n after e) in
      (omega (arith, r.place), omega (arith, r.place, ap length r.cut, length-append r.text after.rest));
}
  where
    law : (start : Place) → ((is_cut_number bits start.rest ≡ true) → IsCutNumber signed bits start.rest) × (IsCutNumber signed bits start.rest → (is_cut_number bits start.rest ≡ true))
    law start = let l = cut_is signed bits start.rest (is_cut_number bits start.rest) refl in (l.0, l.1)

    found : (start : Place) (fault : Broken) (o : Option (ℕ × Place)) → number_at signed bits start.at start.rest ≡ o → number_or bits start o ≡ failed fault → IsNoNumber signed bits start fault
    found start fault (Some x) h e = absurd cc
    found start fault None h e =
        let same = err_is ℕ (record { at = start.at; kind = number_kind bits start.rest }) fault e in
        record {
          none = λ text rest n cut s.
              let a = number_again signed bits start.at text n rest s in
              let b = rw (sym cut, h) at a in
              absurd cc;
          place = sym (ap (λ (f : Broken). f.at) same);
          kind = subst (IsCutOr (IsCutNumber signed bits start.rest) Leb) (ap (λ (f : Broken). f.kind) same) (cut_kind (is_cut_number bits start.rest) (IsCutNumber signed bits start.rest) Leb (law start));
        }

    again : (start : Place) (fault : Broken) → IsNoNumber signed bits start fault → (o : Option (ℕ × Place)) → number_at signed bits start.at start.rest ≡ o → number_or bits start o ≡ failed fault
    again start fault b (Some x) h = let r = number_sound signed bits start.at start.rest x.0 x.1 h in absurd (b.none r.text x.1.rest x.0 r.cut r.spelled)
    again start fault b None h = ap failed (same_fault start.at (number_kind bits start.rest) fault b.place (kind_cut (is_cut_number bits start.rest) (IsCutNumber signed bits start.rest) Leb fault.kind (law start) b.kind))

abbrev word_or : List ℕ → ReadKind → Place → Bool → Reading (Unit {0})
word_or word why start b = cond b (Ok (tt, here (start.at + length word) (drop (length word) start.rest))) (breaks start.at (cond (starts_with nat_eq word start.rest) Cut why))

-- whether the one begins with the other
front_law : (long front : List ℕ) → ((starts_with nat_eq long front ≡ true) → IsFrontOf front long) × (IsFrontOf front long → (starts_with nat_eq long front ≡ true))
front_law long front =
    let l = starts_is Decides-eqb long front (starts_with nat_eq long front) refl in
    ((λ e. (drop (length front) long, l.0 e)), (λ f. l.1 f.0 f.1))

pub exact_word : (word : List ℕ) (why : ReadKind) → Exact (exactly word why)
unfolding word_read
exact_word word why = record {
  found = λ start fault e. found start fault (starts_with nat_eq start.rest word) refl e;
  again = λ start fault b. again start fault b (starts_with nat_eq start.rest word) refl;
  near = λ start fault b. (omega (arith, b.place), omega (arith, b.place));
  moves = λ start u after e. moves start u after (starts_with nat_eq start.rest word) refl e;
}
  where
    found : (start : Place) (fault : Broken) (b : Bool) → starts_with nat_eq start.rest word ≡ b → word_or word why start b ≡ failed fault → IsNoWord word why start fault
    found start fault true h e = absurd cc
    found start fault false h e =
        let same = err_is (Unit {0}) (record { at = start.at; kind = cond (starts_with nat_eq word start.rest) Cut why }) fault e in
        record {
          none = λ f. let t = (front_law start.rest word).1 f in absurd cc;
          place = sym (ap (λ (f : Broken). f.at) same);
          kind = subst (IsCutOr (IsFrontOf start.rest word) why) (ap (λ (f : Broken). f.kind) same) (cut_kind (starts_with nat_eq word start.rest) (IsFrontOf start.rest word) why (front_law word start.rest));
        }

    again : (start : Place) (fault : Broken) → IsNoWord word why start fault → (b : Bool) → starts_with nat_eq start.rest word ≡ b → word_or word why start b ≡ failed fault
    again start fault s true h = absurd (s.none ((front_law start.rest word).0 h))
    again start fault s false h = ap failed (same_fault start.at (cond (starts_with nat_eq word start.rest) Cut why) fault s.place (kind_cut (starts_with nat_eq word start.rest) (IsFrontOf start.rest word) why fault.kind (front_law word start.rest) s.kind))

    moves : (start : Place) (u : Unit {0}) (after : Place) (b : Bool) → starts_with nat_eq start.rest word ≡ b → word_or word why start b ≡ Ok (u, after) → Moves start after
    moves start u after true h e =
        let front = (front_law start.rest word).0 h in
        let len = ap length front.1 ∙ length-append word front.0 in
        subst (Moves start) (ap (λ p. p.1) (ok_is (tt, here (start.at + length word) (drop (length word) start.rest)) (u, after) e)) (omega arith, omega (arith, len, length-drop (length word) start.rest))
    moves start u after false h e = absurd cc

pub exact_anything : Exact anything
exact_anything = record {
  found = λ start fault e. absurd cc;
  again = λ start fault b. absurd b;
  near = λ start fault b. absurd b;
  moves = λ start a after e. subst (Moves start) (ap (λ p. p.1) (ok_is (start.rest, here (start.at + length start.rest) []) (a, after) e)) (omega arith, omega arith);
}

-- ---- lists

pub exact_times : {A : Type 0} {p : Part A} → Exact p → (n : ℕ) → Exact (times n p)
unfolding times_read
exact_times {A} {p} one n = record {
  found = λ start fault e. found n start fault e;
  again = λ start fault b. again n b.0 start fault b.1 b.2.0 b.2.1 b.2.2 b.2.3;
  near = λ start fault b. near_behind start b.2.1 fault (moves b.0 start b.2.0 b.2.1 b.2.2) (one.near b.2.1 fault b.2.3);
  moves = λ start items after e. moves n start items after e;
}
  where
    moves : (n : ℕ) (start : Place) (items : List A) (after : Place) → times_read p.read n start ≡ Ok (items, after) → Moves start after
    moves zero start items after e = stays start [] items after e
    moves (suc n) start items after e =
        let x = bind_ok (p.read start) (λ a after. then_read (times_read p.read n after) (λ others end. Ok (a ∷ others, end))) (items, after) e in
        let y = bind_ok (times_read p.read n x.0.1) (λ others end. Ok (x.0.0 ∷ others, end)) (items, after) x.2 in
        let one = one.moves start x.0.0 x.0.1 x.1 in
        let two = moves n x.0.1 y.0.0 y.0.1 y.1 in
        subst (Moves start) (ap (λ p. p.1) (ok_is (x.0.0 ∷ y.0.0, y.0.1) (items, after) y.2)) (omega (arith, one.0, two.0), omega (arith, one.1, two.1))

    later : (n : ℕ) (start : Place) (fault : Broken) (a : A) (after : Place) → p.read start ≡ Ok (a, after) → BreaksInList p.BreaksAt p.read n after fault → BreaksInList p.BreaksAt p.read (suc n) start fault
    later n start fault a after e b = (suc b.0, omega (arith, b.1), (a ∷ b.2.0, b.2.1, rw (e, b.2.2) refl, b.2.3))

    found : (n : ℕ) (start : Place) (fault : Broken) → times_read p.read n start ≡ failed fault → BreaksInList p.BreaksAt p.read n start fault
    found zero start fault e = absurd cc
    found (suc n) start fault e =
        elim (bind_err (p.read start) (λ a after. then_read (times_read p.read n after) (λ others end. Ok (a ∷ others, end))) fault e) [
          | inl e1 ↦ (0, omega arith, ([], start, refl, one.found start fault e1))
          | inr b ↦
              elim (bind_err (times_read p.read n b.1) (λ others end. read_of (b.0 ∷ others, end)) fault b.3) [
                | inl e2 ↦ later n start fault b.0 b.1 b.2 (found n b.1 fault e2)
                | inr c ↦ absurd (ok_no (b.0 ∷ c.0, c.1) fault c.3)
              ]
        ]
      where
        ok_no : (x : List A × Place) (fault : Broken) → read_of x ≡ failed fault → ⊥
        ok_no x fault e = absurd cc

    again : (n before : ℕ) (start : Place) (fault : Broken) → before < n → (items : List A) (here : Place) → times_read p.read before start ≡ Ok (items, here) → p.BreaksAt here fault → times_read p.read n start ≡ failed fault
    again zero before start fault lt items here e b = absurd (omega (arith, lt))
    again (suc n) zero start fault lt items here e b =
        let same : start ≡ here = ap (λ p. p.1) (ok_is ([], start) (items, here) e) in
        then_err (p.read start) (λ a after. then_read (times_read p.read n after) (λ others end. Ok (a ∷ others, end))) fault (one.again start fault (subst (λ (q : Place). p.BreaksAt q fault) (sym same) b))
    again (suc n) (suc before) start fault lt items here e b =
        let x = bind_ok (p.read start) (λ a after. then_read (times_read p.read before after) (λ others end. Ok (a ∷ others, end))) (items, here) e in
        let y = bind_ok (times_read p.read before x.0.1) (λ others end. Ok (x.0.0 ∷ others, end)) (items, here) x.2 in
        let same : y.0.1 ≡ here = ap (λ p. p.1) (ok_is (x.0.0 ∷ y.0.0, y.0.1) (items, here) y.2) in
        rw (x.1, again n before x.0.1 fault (omega (arith, lt)) y.0.0 y.0.1 y.1 (subst (λ (q : Place). p.BreaksAt q fault) (sym same) b)) refl

pub exact_vector : {A : Type 0} {p : Part A} → Exact p → Exact (vector p)
exact_vector one = exact_bind (exact_number false 32) (λ n. exact_times one n)

-- ---- parts that say how long they are

long_err : (b : Bool) (n : ℕ) (start after : Place) (fault : Broken) → long_enough b n start after ≡ failed fault → (b ≡ true) × IsFault start.at Cut fault
long_err true n start after fault e = (refl, sym (err_is ℕ (record { at = start.at; kind = Cut }) fault e))
long_err false n start after fault e = absurd cc

long_ok : (b : Bool) (n : ℕ) (start after : Place) (m : ℕ) (end : Place) → long_enough b n start after ≡ Ok (m, end) → (b ≡ false) × ((n ≡ m) × (after ≡ end))
long_ok true n start after m end e = absurd cc
long_ok false n start after m end e = (refl, (ap (λ p. p.0) (ok_is (n, after) (m, end) e), ap (λ p. p.1) (ok_is (n, after) (m, end) e)))

abbrev length_then : Place → ℕ → Place → Reading ℕ
length_then start n after = long_enough (ltb (length after.rest) n) n start after

-- a length, with so many bytes behind it
record IsLength (start : Place) (n : ℕ) (from : Place) : Type 0 where
  moves : Moves start from
  enough : n ≤ length from.rest

length_ok : (start : Place) (n : ℕ) (from : Place) → length_read start ≡ Ok (n, from) → IsLength start n from
unfolding length_read
length_ok start n from e =
    let x = bind_ok (index.read start) (length_then start) (n, from) e in
    let k = long_ok (ltb (length x.0.1.rest) x.0.0) x.0.0 start x.0.1 n from x.2 in
    let m = (exact_number false 32).moves start x.0.0 x.0.1 x.1 in
    let made : IsLength start x.0.0 x.0.1 = record { moves = m; enough = ltb-false _ _ k.0 } in
    subst (IsLength start n) k.1.1 (subst (λ (m : ℕ). IsLength start m x.0.1) k.1.0 made)

length_found : (start : Place) (fault : Broken) → length_read start ≡ failed fault → IsNoLength start fault
unfolding length_read
length_found start fault e =
    elim (bind_err (index.read start) (length_then start) fault e) [
      | inl e1 ↦ inl ((exact_number false 32).found start fault e1)
      | inr b ↦ let k = long_err (ltb (length b.1.rest) b.0) b.0 start b.1 fault b.3 in inr (b.0, b.1, b.2, (ltb-true _ _ k.0, k.1))
    ]

length_again : (start : Place) (fault : Broken) → IsNoLength start fault → length_read start ≡ failed fault
unfolding length_read
length_again start fault (inl b) = then_err (index.read start) (length_then start) fault ((exact_number false 32).again start fault b)
length_again start fault (inr b) = rw (b.2, lt-ltb _ _ b.3.0, b.3.1) refl

length_near : (start : Place) (fault : Broken) → IsNoLength start fault → IsNear start fault
length_near start fault (inl b) = (exact_number false 32).near start fault b
length_near start fault (inr b) = here_near start Cut fault b.3.1

used_err : (left : Place) (rest : List ℕ) (fault : Broken) → used_up left rest ≡ failed fault → (0 < length rest) × IsFault left.at Size fault
used_err left [] fault e = absurd cc
used_err left (b ∷ rest) fault e = (omega arith, sym (err_is (Unit {0}) (record { at = left.at; kind = Size }) fault e))

used_again : (left : Place) (rest : List ℕ) (fault : Broken) → 0 < length rest → IsFault left.at Size fault → used_up left rest ≡ failed fault
used_again left [] fault some e = absurd (omega (arith, some))
used_again left (b ∷ rest) fault some e = rw e refl

module _ {A : Type 0} {p : Part A} (one : Exact p) where
  abbrev within_then : Place → Place → Reading A
  within_then within after = then_read (p.read within) (λ a left. then_read (used_up_read left) (λ _ _. Ok (a, after)))

  abbrev parts_then : ℕ → Place → Reading (Place)
  parts_then n from = Ok (inside n from, behind n from)

  -- what is left over, or a fault of the part
  abbrev BreaksWithin : Place → Broken → Type 0
  BreaksWithin within fault = p.BreaksAt within fault ⊎ BreaksBehind (p.read within) (λ a left. HasMore left fault)

  within_found : (within after : Place) (fault : Broken) → within_then within after ≡ failed fault → BreaksWithin within fault
  unfolding used_up_read
  within_found within after fault e =
      elim (bind_err (p.read within) (λ a left. then_read (used_up_read left) (λ _ _. Ok (a, after))) fault e) [
        | inl e1 ↦ inl (one.found within fault e1)
        | inr b ↦
            elim (bind_err (used_up_read b.1) (λ _ _. read_of (b.0, after)) fault b.3) [
              | inl e2 ↦ inr (b.0, b.1, b.2, used_err b.1 b.1.rest fault e2)
              | inr c ↦ absurd (ok_no (b.0, after) fault c.3)
            ]
      ]
    where
      ok_no : (x : A × Place) (fault : Broken) → read_of x ≡ failed fault → ⊥
      ok_no x fault e = absurd cc

  within_again : (within after : Place) (fault : Broken) → BreaksWithin within fault → within_then within after ≡ failed fault
  unfolding used_up_read
  within_again within after fault (inl b) = then_err (p.read within) (λ a left. then_read (used_up_read left) (λ _ _. Ok (a, after))) fault (one.again within fault b)
  within_again within after fault (inr b) = rw (b.2, used_again b.1 b.1.rest fault b.3.0 b.3.1) refl

  within_near : (within : Place) (fault : Broken) → BreaksWithin within fault → IsNear within fault
  within_near within fault (inl b) = one.near within fault b
  within_near within fault (inr b) = near_behind within b.1 fault (one.moves within b.0 b.1 b.2) (here_near b.1 Size fault b.3.1)

  inside_near : (start : Place) (n : ℕ) (from : Place) (fault : Broken) → IsLength start n from → IsNear (inside n from) fault → IsNear start fault
  inside_near start n from fault l near = (omega (arith, l.moves.0, near.0), omega (arith, l.moves.1, near.1, length-take n from.rest))

  pub exact_sized : Exact (sized p)
  unfolding sized_read part_read
  exact_sized = record {
    found = found;
    again = again;
    near = near;
    moves = moves;
  }
    where
      found : (start : Place) (fault : Broken) → sized_read p.read start ≡ failed fault → BreaksInSized p.BreaksAt p.read start fault
      found start fault e =
          elim (bind_err (part_read start) within_then fault e) [
            | inl e1 ↦
                elim (bind_err (length_read start) parts_then fault e1) [
                  | inl e2 ↦ inl (length_found start fault e2)
                  | inr b ↦ absurd (ok_no (inside b.0 b.1, behind b.0 b.1) fault b.3)
                ]
            | inr b ↦
                let x = bind_ok (length_read start) parts_then (b.0, b.1) b.2 in
                let same = ok_is (inside x.0.0 x.0.1, behind x.0.0 x.0.1) (b.0, b.1) x.2 in
                let e3 = subst (λ (q : Place × Place). within_then q.0 q.1 ≡ failed fault) (sym same) b.3 in
                inr (x.0.0, x.0.1, x.1, within_found (inside x.0.0 x.0.1) (behind x.0.0 x.0.1) fault e3)
          ]
        where
          ok_no : (x : Place × Place) (fault : Broken) → read_of x ≡ failed fault → ⊥
          ok_no x fault e = absurd cc

      again : (start : Place) (fault : Broken) → BreaksInSized p.BreaksAt p.read start fault → sized_read p.read start ≡ failed fault
      again start fault (inl b) = rw (length_again start fault b) refl
      again start fault (inr b) = rw (b.2) (within_again (inside b.0 b.1) (behind b.0 b.1) fault b.3)

      near : (start : Place) (fault : Broken) → BreaksInSized p.BreaksAt p.read start fault → IsNear start fault
      near start fault (inl b) = length_near start fault b
      near start fault (inr b) = inside_near start b.0 b.1 fault (length_ok start b.0 b.1 b.2) (within_near (inside b.0 b.1) fault b.3)

      moves : (start : Place) (a : A) (after : Place) → sized_read p.read start ≡ Ok (a, after) → Moves start after
      moves start a after e =
          let x = bind_ok (part_read start) within_then (a, after) e in
          let z = bind_ok (length_read start) parts_then x.0 x.1 in
          let l = length_ok start z.0.0 z.0.1 z.1 in
          let y = bind_ok (p.read x.0.0) (λ a left. then_read (used_up_read left) (λ _ _. Ok (a, x.0.1))) (a, after) x.2 in
          let w = bind_ok (used_up_read y.0.1) (λ _ _. Ok (y.0.0, x.0.1)) (a, after) y.2 in
          let end : behind z.0.0 z.0.1 ≡ after = ap (λ p. p.1) (ok_is (inside z.0.0 z.0.1, behind z.0.0 z.0.1) x.0 z.2) ∙ ap (λ p. p.1) (ok_is (y.0.0, x.0.1) (a, after) w.2) in
          subst (Moves start) end (omega (arith, l.moves.0), omega (arith, l.moves.1, l.enough, length-drop z.0.0 z.0.1.rest))
