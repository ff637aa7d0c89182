-- What holds of each part: what is read is spelled, and what is spelled is read again, whatever follows that may follow.
use Rattle.std.proofs.Common.{◌≡◌, ℕ, zero, suc, ◌+◌, ◌≤◌, Bool, true, false, ltb, List, [], ◌∷◌, ◌++◌, length, Option, Some, None, Result, Ok, Err, refl, sym, ap, subst, ◌∙◌, append_assoc, add-zero, arith}
use Rattle.std.proofs.lemmas.Bool.{le-ltb, ltb-false}
use Rattle.std.proofs.lemmas.List.{append-nil, length-append, length-take, take_at, drop_at, take-append-drop}
use Rattle.wasm_types.specs.declared.kind.ReadKind.{ReadKind}
use Rattle.wasm_types.specs.Place.{Place, Reading, then_read}
use Rattle.wasm_types.specs.Number.{IsNumber, number_at, number_read, number_or}
use Rattle.wasm_types.specs.Part.{Part, done, ◌>>=◌, judged, passing, next_of, next_read, known, byte_or, number, index, anything, IsRepeated, times_read, times, vector, long_enough, length_read, part_read, used_up, used_up_read, inside, behind, sized_read, sized}
use Rattle.wasm_types.proofs.NumberLaws.{number_sound, number_again}

abbrev pub read_of : {A : Type 0} → A × Place → Reading A
read_of x = Ok x

pub bind_ok : {A B : Type 0} (r : Reading A) (f : A → Place → Reading B) (y : B × Place) → then_read r f ≡ Ok y → (x : A × Place) × (r ≡ Ok x) × (f x.0 x.1 ≡ Ok y)
bind_ok (Ok x) f y e = (x, refl, e)
bind_ok (Err d) f y e = absurd cc

pub ok_is : {A : Type 0} (x y : A × Place) → read_of x ≡ read_of y → x ≡ y
ok_is x y e = cc

abbrev IsSame : {A : Type 0} → A × Place → A × Place → Type 0
IsSame x y = x ≡ y

-- the bytes that were taken from a place, up to another, and what they spell
pub record Took {A : Type 0} (Spells : List ℕ → A → Type 0) (start : Place) (a : A) (after : Place) : Type 0 where
  pub text : List ℕ
  pub cut : start.rest ≡ text ++ after.rest
  pub place : after.at ≡ start.at + length text
  pub spelled : Spells text a

abbrev pub here : ℕ → List ℕ → Place
here at rest = record { at = at; rest = rest }

pub record Lawful {A : Type 0} (MayFollow : List ℕ → Type 0) (p : Part A) : Type 0 where
  pub sound : (start : Place) (a : A) (after : Place) → p.read start ≡ Ok (a, after) → Took p.Spells start a after
  pub again : (at : ℕ) (text rest : List ℕ) (a : A) → p.Spells text a → MayFollow rest → p.read (here at (text ++ rest)) ≡ Ok (a, here (at + length text) rest)

abbrev pub Anything : List ℕ → Type 0
Anything rest = Unit {0}

abbrev pub Nothing : List ℕ → Type 0
Nothing rest = rest ≡ []

-- what may follow anything may follow nothing
pub narrower : {A : Type 0} {F : List ℕ → Type 0} {p : Part A} → Lawful Anything p → Lawful F p
narrower l = record { sound = l.sound; again = λ at text rest a s f. l.again at text rest a s tt }

pub took_is : {A : Type 0} (Spells : List ℕ → A → Type 0) (start : Place) (x y : A × Place) → x ≡ y → Took Spells start x.0 x.1 → Took Spells start y.0 y.1
took_is {A} Spells start x y e t = subst (λ (z : A × Place). Took Spells start z.0 z.1) e t

-- ---- joining

pub lawful_done : {A : Type 0} {F : List ℕ → Type 0} (a : A) → Lawful F (done a)
lawful_done {A} {F} a = record {
  sound = λ start b after e. took_is (done a).Spells start (a, start) (b, after) (ok_is (a, start) (b, after) e) (record { text = []; cut = refl; place = omega arith; spelled = (refl, refl) });
  again = λ at text rest b s f. go at text rest b s.0 s.1;
}
  where
    go : (at : ℕ) (text rest : List ℕ) (b : A) → text ≡ [] → b ≡ a → read_of (a, here at (text ++ rest)) ≡ Ok (b, here (at + length text) rest)
    go at text rest b e f = rw (e, f, add-zero) refl

pub lawful_join : {A B : Type 0} {F G : List ℕ → Type 0} {p : Part A} {q : A → Part B} → Lawful G p → ((a : A) → Lawful F (q a)) → ((a : A) (text rest : List ℕ) (b : B) → (q a).Spells text b → F rest → G (text ++ rest)) → Lawful F (p >>= q)
lawful_join {A} {B} {F} {G} {p} {q} first second follow = record { sound = sound; again = again }
  where
    sound : (start : Place) (b : B) (after : Place) → (p >>= q).read start ≡ Ok (b, after) → Took (p >>= q).Spells start b after
    sound start b after e =
        let x = bind_ok (p.read start) (λ a. (q a).read) (b, after) e in
        let one = first.sound start x.0.0 x.0.1 x.1 in
        let two = (second x.0.0).sound x.0.1 b after x.2 in
        record {
          text = one.text ++ two.text;
          cut = one.cut ∙ ap (λ (t : List ℕ). one.text ++ t) two.cut ∙ sym (append_assoc one.text two.text after.rest);
          place = omega (arith, one.place, two.place, length-append one.text two.text);
          spelled = record { front = one.text; back = two.text; value = x.0.0; cut = refl; first = one.spelled; second = two.spelled };
        }

    again : (at : ℕ) (text rest : List ℕ) (b : B) → (p >>= q).Spells text b → F rest → (p >>= q).read (here at (text ++ rest)) ≡ Ok (b, here (at + length text) rest)
    again at text rest b s f =
        let one = first.again at s.front (s.back ++ rest) s.value s.first (follow s.value s.back rest b s.second f) in
        let two = (second s.value).again (at + length s.front) s.back rest b s.second f in
        let parts : here at (text ++ rest) ≡ here at (s.front ++ (s.back ++ rest)) = ap (here at) (ap (λ (t : List ℕ). t ++ rest) s.cut ∙ append_assoc s.front s.back rest) in
        let end : at + length s.front + length s.back ≡ at + length text = omega (arith, ap length s.cut, length-append s.front s.back) in
        ap (p >>= q).read parts ∙ rw (one, two, end) refl

pub lawful_bind : {A B : Type 0} {F : List ℕ → Type 0} {p : Part A} {q : A → Part B} → Lawful Anything p → ((a : A) → Lawful F (q a)) → Lawful F (p >>= q)
lawful_bind first second = lawful_join first second (λ a text rest b s f. tt)

-- ---- bytes and numbers

known_is : {A : Type 0} (r : Result A ReadKind) (start after : Place) (a : A) (end : Place) → known r start after ≡ Ok (a, end) → (r ≡ Ok a) × (after ≡ end)
known_is (Ok x) start after a end e = let same = ok_is (x, after) (a, end) e in (ap Ok (ap (λ p. p.0) same), ap (λ p. p.1) same)
known_is (Err why) start after a end e = absurd cc

record IsNext (at : ℕ) (rest : List ℕ) (b : ℕ) (after : Place) : Type 0 where
  pub cut : rest ≡ b ∷ after.rest
  pub place : after.at ≡ at + 1

next_is : (why : ReadKind) (at : ℕ) (rest : List ℕ) (b : ℕ) (after : Place) → next_of why at rest ≡ Ok (b, after) → IsNext at rest b after
next_is why at [] b after e = absurd cc
next_is why at (c ∷ rest) b after e =
    let same = ok_is (c, here (at + 1) rest) (b, after) e in
    subst (λ (x : ℕ × Place). IsNext at (c ∷ rest) x.0 x.1) same (record { cut = refl; place = refl })

pub lawful_byte_or : {A : Type 0} {F : List ℕ → Type 0} (why : ReadKind) (value_of : ℕ → Result A ReadKind) → Lawful F (byte_or why value_of)
unfolding next_read
lawful_byte_or {A} {F} why value_of = record { sound = sound; again = again }
  where
    sound : (start : Place) (a : A) (after : Place) → (byte_or why value_of).read start ≡ Ok (a, after) → Took (byte_or why value_of).Spells start a after
    sound start a after e =
        let x = bind_ok (next_read why start) (λ b after. known (value_of b) start after) (a, after) e in
        let n = next_is why start.at start.rest x.0.0 x.0.1 x.1 in
        let k = known_is (value_of x.0.0) start x.0.1 a after x.2 in
        subst (λ (p : Place). Took (byte_or why value_of).Spells start a p) k.1 (record { text = x.0.0 ∷ []; cut = n.cut; place = n.place; spelled = (x.0.0, refl, k.0) })

    again : (at : ℕ) (text rest : List ℕ) (a : A) → (byte_or why value_of).Spells text a → F rest → (byte_or why value_of).read (here at (text ++ rest)) ≡ Ok (a, here (at + length text) rest)
    again at text rest a s f = rw (s.1, s.2) refl

number_is : (bits : ℕ) (start : Place) (o : Option (ℕ × Place)) (n : ℕ) (after : Place) → number_or bits start o ≡ Ok (n, after) → o ≡ Some (n, after)
number_is bits start (Some x) n after e = ap Some (ok_is x (n, after) e)
number_is bits start None n after e = absurd cc

pub lawful_number : {F : List ℕ → Type 0} (signed : Bool) (bits : ℕ) → Lawful F (number signed bits)
unfolding number_read
lawful_number {F} signed bits = record { sound = sound; again = again }
  where
    sound : (start : Place) (n : ℕ) (after : Place) → (number signed bits).read start ≡ Ok (n, after) → Took (number signed bits).Spells start n after
    sound start n after e =
        let r = number_sound signed bits start.at start.rest n after (number_is bits start (number_at signed bits start.at start.rest) n after e) in
        record { text = r.text; cut = r.cut; place = r.place; spelled = r.spelled }

    again : (at : ℕ) (text rest : List ℕ) (n : ℕ) → IsNumber signed bits text n → F rest → (number signed bits).read (here at (text ++ rest)) ≡ Ok (n, here (at + length text) rest)
    again at text rest n s f = rw (number_again signed bits at text n rest s) refl

passing_is : {A : Type 0} (b : Bool) (why : ReadKind) (x : A) (start after : Place) (a : A) (end : Place) → passing b why x start after ≡ Ok (a, end) → (b ≡ true) × IsSame (x, after) (a, end)
passing_is true why x start after a end e = (refl, ok_is (x, after) (a, end) e)
passing_is false why x start after a end e = absurd cc

pub lawful_judged : {A : Type 0} {F : List ℕ → Type 0} (why : ReadKind) (test : A → Bool) {p : Part A} → Lawful F p → Lawful F (judged why test p)
lawful_judged {A} {F} why test {p} l = record { sound = sound; again = again }
  where
    sound : (start : Place) (a : A) (after : Place) → (judged why test p).read start ≡ Ok (a, after) → Took (judged why test p).Spells start a after
    sound start a after e =
        let x = bind_ok (p.read start) (λ a after. passing (test a) why a start after) (a, after) e in
        let one = l.sound start x.0.0 x.0.1 x.1 in
        let k = passing_is (test x.0.0) why x.0.0 start x.0.1 a after x.2 in
        took_is (judged why test p).Spells start (x.0.0, x.0.1) (a, after) k.1 (record { text = one.text; cut = one.cut; place = one.place; spelled = (one.spelled, k.0) })

    again : (at : ℕ) (text rest : List ℕ) (a : A) → (judged why test p).Spells text a → F rest → (judged why test p).read (here at (text ++ rest)) ≡ Ok (a, here (at + length text) rest)
    again at text rest a s f = rw (l.again at text rest a s.0 f, s.1) refl

pub lawful_anything : Lawful Nothing anything
lawful_anything = record { sound = sound; again = again }
  where
    sound : (start : Place) (a : List ℕ) (after : Place) → anything.read start ≡ Ok (a, after) → Took anything.Spells start a after
    sound start a after e = took_is anything.Spells start (start.rest, here (start.at + length start.rest) []) (a, after) (ok_is (start.rest, here (start.at + length start.rest) []) (a, after) e) (record { text = start.rest; cut = sym (append-nil start.rest); place = refl; spelled = refl })

    again : (at : ℕ) (text rest : List ℕ) (a : List ℕ) → a ≡ text → rest ≡ [] → anything.read (here at (text ++ rest)) ≡ Ok (a, here (at + length text) rest)
    again at text rest a e f = rw (e, f, append-nil text) refl

-- ---- lists

pub lawful_times : {A : Type 0} {p : Part A} → Lawful Anything p → (n : ℕ) → Lawful Anything (times n p)
unfolding times_read
lawful_times {A} {p} l n = record { sound = λ start items after e. sound n start items after e; again = λ at text rest items s f. again n at text rest items s }
  where
    sound : (n : ℕ) (start : Place) (items : List A) (after : Place) → times_read p.read n start ≡ Ok (items, after) → Took (IsRepeated p.Spells n) start items after
    sound zero start items after e = took_is (IsRepeated p.Spells zero) start ([], start) (items, after) (ok_is ([], start) (items, after) e) (record { text = []; cut = refl; place = omega arith; spelled = (refl, refl) })
    sound (suc n) start items after e =
        let x = bind_ok (p.read start) (λ a after. then_read (times_read p.read n after) (λ others end. Ok (a ∷ others, end))) (items, after) e in
        let y = bind_ok (times_read p.read n x.0.1) (λ others end. Ok (x.0.0 ∷ others, end)) (items, after) x.2 in
        let one = l.sound start x.0.0 x.0.1 x.1 in
        let two = sound n x.0.1 y.0.0 y.0.1 y.1 in
        took_is (IsRepeated p.Spells (suc n)) start (x.0.0 ∷ y.0.0, y.0.1) (items, after) (ok_is (x.0.0 ∷ y.0.0, y.0.1) (items, after) y.2) (record {
          text = one.text ++ two.text;
          cut = one.cut ∙ ap (λ (t : List ℕ). one.text ++ t) two.cut ∙ sym (append_assoc one.text two.text y.0.1.rest);
          place = omega (arith, one.place, two.place, length-append one.text two.text);
          spelled = record {
            front = one.text;
            back = two.text;
            value = x.0.0;
            cut = refl;
            first = one.spelled;
            second = record { front = two.text; back = []; value = y.0.0; cut = sym (append-nil two.text); first = two.spelled; second = (refl, refl) };
          };
        })

    again : (n at : ℕ) (text rest : List ℕ) (items : List A) → IsRepeated p.Spells n text items → times_read p.read n (here at (text ++ rest)) ≡ Ok (items, here (at + length text) rest)
    again zero at text rest items s = rw (s.0, s.1, add-zero) refl
    again (suc n) at text rest items s =
        let t = s.second in
        let back-is : s.back ≡ t.front = t.cut ∙ ap (λ (r : List ℕ). t.front ++ r) t.second.0 ∙ append-nil t.front in
        let one = l.again at s.front (t.front ++ rest) s.value s.first tt in
        let two = again n (at + length s.front) t.front rest t.value t.first in
        let whole : text ++ rest ≡ s.front ++ (t.front ++ rest) = ap (λ (r : List ℕ). r ++ rest) (s.cut ∙ ap (λ (r : List ℕ). s.front ++ r) back-is) ∙ append_assoc s.front t.front rest in
        let end : at + length s.front + length t.front ≡ at + length text = omega (arith, ap length s.cut, length-append s.front s.back, ap length back-is) in
        rw whole (rw (one, two, end, t.second.1) refl)

pub lawful_vector : {A : Type 0} {F : List ℕ → Type 0} {p : Part A} → Lawful Anything p → Lawful F (vector p)
lawful_vector l = lawful_bind (lawful_number false 32) (λ n. narrower (lawful_times l n))

-- ---- parts that say how long they are

long_is : (b : Bool) (n : ℕ) (start after : Place) (m : ℕ) (end : Place) → long_enough b n start after ≡ Ok (m, end) → (b ≡ false) × IsSame (n, after) (m, end)
long_is true n start after m end e = absurd cc
long_is false n start after m end e = (refl, ok_is (n, after) (m, end) e)

used_is : (left : Place) (rest : List ℕ) (u : Unit {0}) (end : Place) → used_up left rest ≡ Ok (u, end) → rest ≡ []
used_is left [] u end e = refl
used_is left (b ∷ rest) u end e = absurd cc

-- a length, and the places inside and behind what it is of
record HasPart (start : Place) (within after : Place) : Type 0 where
  pub text : List ℕ
  pub n : ℕ
  pub spelled : IsNumber false 32 text n
  pub cut : start.rest ≡ text ++ (within.rest ++ after.rest)
  pub begins : within.at ≡ start.at + length text
  pub ends : after.at ≡ start.at + length text + n
  pub len : length within.rest ≡ n

part_sound : (start : Place) (within after : Place) → part_read start ≡ Ok (within, after) → HasPart start within after
unfolding part_read length_read
part_sound start within after e =
    let x = bind_ok (length_read start) (λ n from. Ok (inside n from, behind n from)) (within, after) e in
    let y = bind_ok (index.read start) (λ n after. long_enough (ltb (length after.rest) n) n start after) x.0 x.1 in
    let one = (lawful_number {F = Anything} false 32).sound start y.0.0 y.0.1 y.1 in
    let k = long_is (ltb (length y.0.1.rest) y.0.0) y.0.0 start y.0.1 x.0.0 x.0.1 y.2 in
    let long : y.0.0 ≤ length y.0.1.rest = ltb-false _ _ k.0 in
    let made : HasPart start (inside y.0.0 y.0.1) (behind y.0.0 y.0.1) = record {
      text = one.text;
      n = y.0.0;
      spelled = one.spelled;
      cut = one.cut ∙ ap (λ (t : List ℕ). one.text ++ t) (sym (take-append-drop y.0.0 y.0.1.rest));
      begins = one.place;
      ends = omega (arith, one.place);
      len = omega (arith, length-take y.0.0 y.0.1.rest);
    } in
    let made2 = subst (λ (q : ℕ × Place). HasPart start (inside q.0 q.1) (behind q.0 q.1)) k.1 made in
    subst (λ (q : Place × Place). HasPart start q.0 q.1) (ok_is (inside x.0.0 x.0.1, behind x.0.0 x.0.1) (within, after) x.2) made2

part_again : (at : ℕ) (text back rest : List ℕ) (n : ℕ) → IsNumber false 32 text n → length back ≡ n → part_read (here at (text ++ (back ++ rest))) ≡ Ok (here (at + length text) back, here (at + length text + n) rest)
unfolding part_read length_read
part_again at text back rest n s len =
    let one = (lawful_number {F = Anything} false 32).again at text (back ++ rest) n s tt in
    let long : ltb (length (back ++ rest)) n ≡ false = le-ltb _ _ (omega (arith, length-append back rest)) in
    rw (one, long, take_at back rest n len, drop_at back rest n len) refl

pub lawful_sized : {A : Type 0} {F : List ℕ → Type 0} {p : Part A} → Lawful Nothing p → Lawful F (sized p)
unfolding sized_read used_up_read
lawful_sized {A} {F} {p} l = record { sound = sound; again = again }
  where
    sound : (start : Place) (a : A) (after : Place) → (sized p).read start ≡ Ok (a, after) → Took (sized p).Spells start a after
    sound start a after e =
        let x = bind_ok (part_read start) (λ within after. then_read (p.read within) (λ a left. then_read (used_up_read left) (λ _ _. Ok (a, after)))) (a, after) e in
        let y = bind_ok (p.read x.0.0) (λ a left. then_read (used_up_read left) (λ _ _. Ok (a, x.0.1))) (a, after) x.2 in
        let z = bind_ok (used_up_read y.0.1) (λ _ _. Ok (y.0.0, x.0.1)) (a, after) y.2 in
        let one = part_sound start x.0.0 x.0.1 x.1 in
        let two = l.sound x.0.0 y.0.0 y.0.1 y.1 in
        let empty : y.0.1.rest ≡ [] = used_is y.0.1 y.0.1.rest z.0.0 z.0.1 z.1 in
        let whole : x.0.0.rest ≡ two.text = two.cut ∙ ap (λ (t : List ℕ). two.text ++ t) empty ∙ append-nil two.text in
        took_is (sized p).Spells start (y.0.0, x.0.1) (a, after) (ok_is (y.0.0, x.0.1) (a, after) z.2) (record {
          text = one.text ++ two.text;
          cut = one.cut ∙ ap (λ (t : List ℕ). one.text ++ (t ++ x.0.1.rest)) whole ∙ sym (append_assoc one.text two.text x.0.1.rest);
          place = omega (arith, one.ends, length-append one.text two.text, one.len, ap length whole);
          spelled = record { front = one.text; back = two.text; value = one.n; cut = refl; first = one.spelled; second = (sym (ap length whole) ∙ one.len, two.spelled) };
        })

    again : (at : ℕ) (text rest : List ℕ) (a : A) → (sized p).Spells text a → F rest → (sized p).read (here at (text ++ rest)) ≡ Ok (a, here (at + length text) rest)
    again at text rest a s f =
        let one = part_again at s.front s.back rest s.value s.first s.second.0 in
        let two = l.again (at + length s.front) s.back [] a s.second.1 refl in
        let two2 = rw (append-nil s.back) at two in
        let whole : text ++ rest ≡ s.front ++ (s.back ++ rest) = ap (λ (r : List ℕ). r ++ rest) s.cut ∙ append_assoc s.front s.back rest in
        let end : at + length s.front + s.value ≡ at + length text = omega (arith, ap length s.cut, length-append s.front s.back, s.second.0) in
        rw whole (rw (one, two2, end) refl)
