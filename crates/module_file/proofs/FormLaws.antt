-- What holds of each form: what is written is read, whatever follows it, and what is read was written.
use Rattle.std.proofs.Common.{◌≡◌, ℕ, zero, suc, ◌^◌, ◌<◌, true, List, [], ◌∷◌, ◌++◌, length, drop, Option, Some, None, refl, sym, ap, subst, ◌∙◌, append_assoc}
use Rattle.std.specs.Prelude.{nat_eq, All, IfSome}
use Rattle.std.specs.Int.{w32, w64, to_le_bytes, from_le_bytes}
use Rattle.std.specs.List.{flat_map, starts_with}
use Rattle.std.specs.Str.{is_utf8}
use Rattle.std.proofs.lemmas.Bool.Decides.{Decides-eqb}
use Rattle.std.proofs.lemmas.List.{drop_at}
use Rattle.std.proofs.lemmas.List.Elements.{All-head, All-tail}
use Rattle.std.proofs.lemmas.Slice.Eq.{starts_is}
use Rattle.std.proofs.lemmas.Nat.{le_bytes_4, le_bytes_8, from_le_bytes-to_le_bytes_4, from_le_bytes-to_le_bytes_8}
use Rattle.wasm_types.specs.Laws.{AreFew}
use Rattle.wasm_types.specs.Bounds.{IsIndex, AreFewOf, IsText}
use Rattle.module_file.specs.Form.{then_read, known, Part, Form, field, done, ◌>>=◌, pair, read_as, word_read, behind, byte, front_read, index, long, byte_list, text_of, utf8, times_read, list_text, list_read, list, optional_text, optional_read, optional}
use Rattle.module_file.proofs.Steps.{AreBytes, bytes-drop, bytes-take, bytes-rest, made, some_is, then_some, known_some, passed_some, Takes, takes_both, front_takes, front_again}

pub record Lawful {A : Type 0} (Is : A → Type 0) (form : Form A) : Type 0 where
  pub again : (a : A) (rest : List ℕ) → Is a → form.read (form.text a ++ rest) ≡ Some (a, rest)
  pub takes : (bytes rest : List ℕ) (a : A) → AreBytes bytes → form.read bytes ≡ Some (a, rest) → Takes bytes (form.text a) rest

abbrev pub Any : {A : Type 0} → A → Type 0
Any a = Unit {0}

pub narrower : {A : Type 0} {P Q : A → Type 0} {form : Form A} → Lawful P form → ((a : A) → Q a → P a) → Lawful Q form
narrower l less = record { again = λ a rest h. l.again a rest (less a h); takes = l.takes }

abbrev Taken : {A : Type 0} → (A → List ℕ) → List ℕ → A × List ℕ → Type 0
Taken text bytes x = Takes bytes (text x.0) x.1

taken_is : {A : Type 0} (text : A → List ℕ) (bytes : List ℕ) (x y : A × List ℕ) → made x ≡ made y → Taken text bytes x → Taken text bytes y
taken_is text bytes x y e t = subst (Taken text bytes) (some_is x y e) t

-- ---- joining parts

-- What holds of the parts of a whole from some place on. A whole that is read agrees with the fields before it.
pub record LawfulRest {W : Type 0} (Is Agrees : W → Type 0) (part : Part W W) : Type 0 where
  pub again : (w : W) (rest : List ℕ) → Is w → part.read (part.text w ++ rest) ≡ Some (part.value w, rest)
  pub takes : (bytes rest : List ℕ) (w : W) → AreBytes bytes → part.read bytes ≡ Some (w, rest) → Agrees w × Takes bytes (part.text w) rest

pub lawful_done : {W : Type 0} {Is Agrees : W → Type 0} (w : W) → Agrees w → LawfulRest Is Agrees (done w)
lawful_done {W} {Is} {Agrees} given agrees = record {
  again = λ w rest h. refl;
  takes = λ bytes rest w are e.
      subst (λ (x : W × List ℕ). Agrees x.0 × Takes bytes [] x.1) (some_is (given, bytes) (w, rest) e) (agrees, record { parts = refl; are_bytes = are });
}

pub then_field : {W A : Type 0} {Is Agrees : W → Type 0} {IsField : A → Type 0} {get : W → A} {form : Form A} {q : A → Part W W}
    → Lawful IsField form → ((w : W) → Is w → IsField (get w)) → ((a : A) → LawfulRest Is (λ w. Agrees w × (get w ≡ a)) (q a)) → LawfulRest Is Agrees (field get form >>= q)
then_field {W} {A} {Is} {Agrees} {IsField} {get} {form} {q} first fits others = record { again = again; takes = takes }
  where
    again : (w : W) (rest : List ℕ) → Is w → (field get form >>= q).read ((field get form >>= q).text w ++ rest) ≡ Some ((field get form >>= q).value w, rest)
    again w rest h =
        let one = first.again (get w) ((q (get w)).text w ++ rest) (fits w h) in
        let two = (others (get w)).again w rest h in
        ap (field get form >>= q).read (append_assoc (form.text (get w)) ((q (get w)).text w) rest) ∙ rw (one, two) refl

    takes : (bytes rest : List ℕ) (w : W) → AreBytes bytes → (field get form >>= q).read bytes ≡ Some (w, rest) → Agrees w × Takes bytes ((field get form >>= q).text w) rest
    takes bytes rest w are e =
        let x = then_some (form.read bytes) (λ a. (q a).read) (w, rest) e in
        let one = first.takes bytes x.0.1 x.0.0 are x.1 in
        let two = (others x.0.0).takes x.0.1 rest w one.are_bytes x.2 in
        let both = takes_both bytes (form.text x.0.0) x.0.1 ((q x.0.0).text w) rest one two.1 in
        (two.0.0, subst (λ (a : A). Takes bytes (form.text a ++ (q a).text w) rest) (sym two.0.1) both)

pub lawful_whole : {W : Type 0} {Is : W → Type 0} {part : Part W W} → ((w : W) → part.value w ≡ w) → LawfulRest Is Any part → Lawful Is part
lawful_whole {W} {Is} {part} same l = record {
  again = λ w rest h. l.again w rest h ∙ ap (λ (v : W). Some (v, rest)) (same w);
  takes = λ bytes rest w are e. (l.takes bytes rest w are e).1;
}

pub lawful_pair : {A B : Type 0} {P : A → Type 0} {Q : B → Type 0} {p : Form A} {q : Form B} → Lawful P p → Lawful Q q → Lawful (λ (x : A × B). P x.0 × Q x.1) (pair p q)
lawful_pair {A} {B} {P} {Q} {p} {q} first second = record { again = again; takes = takes }
  where
    again : (x : A × B) (rest : List ℕ) → P x.0 × Q x.1 → (pair p q).read ((pair p q).text x ++ rest) ≡ Some (x, rest)
    again x rest h = ap (pair p q).read (append_assoc (p.text x.0) (q.text x.1) rest) ∙ rw (first.again x.0 (q.text x.1 ++ rest) h.0, second.again x.1 rest h.1) refl

    takes : (bytes rest : List ℕ) (x : A × B) → AreBytes bytes → (pair p q).read bytes ≡ Some (x, rest) → Takes bytes ((pair p q).text x) rest
    takes bytes rest x are e =
        let a = then_some (p.read bytes) (λ a rest. then_read (q.read rest) (λ b after. Some ((a, b), after))) (x, rest) e in
        let b = then_some (q.read a.0.1) (λ b after. Some ((a.0.0, b), after)) (x, rest) a.2 in
        let one = first.takes bytes a.0.1 a.0.0 are a.1 in
        let two = second.takes a.0.1 b.0.1 b.0.0 one.are_bytes b.1 in
        taken_is (pair p q).text bytes ((a.0.0, b.0.0), b.0.1) (x, rest) b.2 (takes_both bytes (p.text a.0.0) a.0.1 (q.text b.0.0) b.0.1 one two)

-- what stands behind a byte that tells the variant
pub variant : {A B : Type 0} {Is : A → Type 0} {form : Form A} (text : B → List ℕ) (tag n : ℕ) → Lawful Is form → (make : A → B) → ((a : A) → text (make a) ≡ n ∷ form.text a) → tag ≡ n
    → (bytes rest : List ℕ) (b : B) → AreBytes bytes → read_as form make bytes ≡ Some (b, rest) → Takes (tag ∷ bytes) (text b) rest
variant {A} {B} {Is} {form} text tag n l make is same bytes rest b are e =
    let a = then_some (form.read bytes) (λ a rest. Some (make a, rest)) (b, rest) e in
    let t = l.takes bytes a.0.1 a.0.0 are a.1 in
    taken_is text (tag ∷ bytes) (make a.0.0, a.0.1) (b, rest) a.2
    (record { parts = ap (λ (k : ℕ). k ∷ bytes) same ∙ ap (λ (more : List ℕ). n ∷ more) t.parts ∙ ap (λ (more : List ℕ). more ++ a.0.1) (sym (is a.0.0)); are_bytes = t.are_bytes })

-- ---- words, bytes and numbers

word_takes : (word bytes : List ℕ) (x : Unit {0} × List ℕ) → AreBytes bytes → word_read word bytes ≡ Some x → Takes bytes word x.1
unfolding word_read
word_takes word bytes x are e =
    let p = passed_some (starts_with nat_eq bytes word) (tt, drop (length word) bytes) x e in
    let front = (starts_is Decides-eqb bytes word (starts_with nat_eq bytes word) refl).0 p.0 in
    subst (λ (y : Unit {0} × List ℕ). Takes bytes word y.1) p.1 (record { parts = front; are_bytes = bytes-drop (length word) bytes are })

word_again : (word rest : List ℕ) → word_read word (word ++ rest) ≡ Some (tt, rest)
unfolding word_read
word_again word rest =
    let found : starts_with nat_eq (word ++ rest) word ≡ true = (starts_is Decides-eqb (word ++ rest) word (starts_with nat_eq (word ++ rest) word) refl).1 rest refl in
    rw (found, drop_at word rest (length word) refl) refl

pub lawful_behind : {A : Type 0} {Is : A → Type 0} (word : List ℕ) {form : Form A} → Lawful Is form → Lawful Is (behind word form)
lawful_behind {A} {Is} word {form} l = record { again = again; takes = takes }
  where
    again : (a : A) (rest : List ℕ) → Is a → (behind word form).read ((behind word form).text a ++ rest) ≡ Some (a, rest)
    again a rest h = ap (behind word form).read (append_assoc word (form.text a) rest) ∙ rw (word_again word (form.text a ++ rest), l.again a rest h) refl

    takes : (bytes rest : List ℕ) (a : A) → AreBytes bytes → (behind word form).read bytes ≡ Some (a, rest) → Takes bytes ((behind word form).text a) rest
    takes bytes rest a are e =
        let w = then_some (word_read word bytes) (λ _ rest. form.read rest) (a, rest) e in
        let one = word_takes word bytes w.0 are w.1 in
        takes_both bytes word w.0.1 (form.text a) rest one (l.takes w.0.1 rest a one.are_bytes w.2)

pub lawful_byte : {A : Type 0} (byte_of : A → ℕ) (value_of : ℕ → Option A) → ((a : A) → value_of (byte_of a) ≡ Some a) → ((b : ℕ) (a : A) → value_of b ≡ Some a → b ≡ byte_of a) → Lawful Any (byte byte_of value_of)
lawful_byte {A} byte_of value_of back only = record { again = again; takes = takes }
  where
    again : (a : A) (rest : List ℕ) → Any a → (byte byte_of value_of).read ((byte byte_of value_of).text a ++ rest) ≡ Some (a, rest)
    again a rest h = rw (back a) refl

    takes : (bytes rest : List ℕ) (a : A) → AreBytes bytes → (byte byte_of value_of).read bytes ≡ Some (a, rest) → Takes bytes ((byte byte_of value_of).text a) rest
    takes [] rest a are e = absurd cc
    takes (b ∷ bytes) rest a are e =
        let k = known_some (value_of b) bytes rest a e in
        let b_is = only b a k.0 in
        record { parts = ap (λ (n : ℕ). n ∷ bytes) b_is ∙ ap (λ (more : List ℕ). byte_of a ∷ more) k.1; are_bytes = subst AreBytes k.1 (bytes-rest b bytes are) }

abbrev pub IsLong : ℕ → Type 0
IsLong n = n < 2 ^ 64

index_takes : (bytes rest : List ℕ) (n : ℕ) → AreBytes bytes → index.read bytes ≡ Some (n, rest) → Takes bytes (index.text n) rest
unfolding index
index_takes bytes rest n are e =
    let f = then_some (front_read 4 bytes) (λ front rest. Some (from_le_bytes w32 front, rest)) (n, rest) e in
    let t = front_takes 4 bytes f.0 are f.1 in
    let are_front : AreBytes f.0.0 = rw t.2 (bytes-take 4 bytes are) in
    taken_is (to_le_bytes w32) bytes (from_le_bytes w32 f.0.0, f.0.1) (n, rest) f.2
    (record { parts = t.0.parts ∙ ap (λ (front : List ℕ). front ++ f.0.1) (sym (le_bytes_4 f.0.0 _ t.1 are_front refl)); are_bytes = t.0.are_bytes })

index_again : (n : ℕ) (rest : List ℕ) → IsIndex n → index.read (index.text n ++ rest) ≡ Some (n, rest)
unfolding index
index_again n rest lt = rw (front_again 4 (to_le_bytes w32 n) rest refl, from_le_bytes-to_le_bytes_4 n lt) refl

pub lawful_index : Lawful IsIndex index
lawful_index = record { again = index_again; takes = index_takes }

long_takes : (bytes rest : List ℕ) (n : ℕ) → AreBytes bytes → long.read bytes ≡ Some (n, rest) → Takes bytes (long.text n) rest
unfolding long
long_takes bytes rest n are e =
    let f = then_some (front_read 8 bytes) (λ front rest. Some (from_le_bytes w64 front, rest)) (n, rest) e in
    let t = front_takes 8 bytes f.0 are f.1 in
    let are_front : AreBytes f.0.0 = rw t.2 (bytes-take 8 bytes are) in
    taken_is (to_le_bytes w64) bytes (from_le_bytes w64 f.0.0, f.0.1) (n, rest) f.2
    (record { parts = t.0.parts ∙ ap (λ (front : List ℕ). front ++ f.0.1) (sym (le_bytes_8 f.0.0 _ t.1 are_front refl)); are_bytes = t.0.are_bytes })

long_again : (n : ℕ) (rest : List ℕ) → IsLong n → long.read (long.text n ++ rest) ≡ Some (n, rest)
unfolding long
long_again n rest lt = rw (front_again 8 (to_le_bytes w64 n) rest refl, from_le_bytes-to_le_bytes_8 n lt) refl

pub lawful_long : Lawful IsLong long
lawful_long = record { again = long_again; takes = long_takes }

-- ---- bytes and texts

bytes_take : (bytes rest text : List ℕ) → AreBytes bytes → byte_list.read bytes ≡ Some (text, rest) → Takes bytes (byte_list.text text) rest
unfolding byte_list
bytes_take bytes rest text are e =
    let n = then_some (index.read bytes) front_read (text, rest) e in
    let one = lawful_index.takes bytes n.0.1 n.0.0 are n.1 in
    let two = front_takes n.0.0 n.0.1 (text, rest) one.are_bytes n.2 in
    let both = takes_both bytes (index.text n.0.0) n.0.1 text rest one two.0 in
    subst (λ (k : ℕ). Takes bytes (index.text k ++ text) rest) (sym two.1) both

bytes_again : (text rest : List ℕ) → AreFew text → byte_list.read (byte_list.text text ++ rest) ≡ Some (text, rest)
unfolding byte_list
bytes_again text rest few =
    ap (λ (t : List ℕ). then_read (index.read t) front_read) (append_assoc (index.text (length text)) text rest)
    ∙ rw (lawful_index.again (length text) (text ++ rest) few, front_again (length text) text rest refl) refl

pub lawful_bytes : Lawful AreFew byte_list
lawful_bytes = record { again = bytes_again; takes = bytes_take }

text_is : (bytes text : List ℕ) → text_of bytes ≡ Some text → bytes ≡ text
unfolding text_of
text_is bytes text e = (passed_some (is_utf8 bytes) bytes text e).1

utf8_takes : (bytes rest text : List ℕ) → AreBytes bytes → utf8.read bytes ≡ Some (text, rest) → Takes bytes (utf8.text text) rest
unfolding utf8
utf8_takes bytes rest text are e =
    let b = then_some (byte_list.read bytes) (λ front rest. known (text_of front) rest) (text, rest) e in
    let k = known_some (text_of b.0.0) b.0.1 rest text b.2 in
    let t = lawful_bytes.takes bytes b.0.1 b.0.0 are b.1 in
    subst (λ (r : List ℕ). Takes bytes (byte_list.text text) r) k.1 (subst (λ (s : List ℕ). Takes bytes (byte_list.text s) b.0.1) (text_is b.0.0 text k.0) t)

checked : (text : List ℕ) → is_utf8 text ≡ true → text_of text ≡ Some text
unfolding text_of
checked text u = rw u refl

utf8_again : (text rest : List ℕ) → IsText text → utf8.read (utf8.text text ++ rest) ≡ Some (text, rest)
unfolding utf8
utf8_again text rest h = rw (lawful_bytes.again text rest h.few, checked text h.utf8) refl

pub lawful_utf8 : Lawful IsText utf8
lawful_utf8 = record { again = utf8_again; takes = utf8_takes }

-- ---- lists and optional values

module _ {A : Type 0} {Is : A → Type 0} {form : Form A} (l : Lawful Is form) where
  items_take : (n : ℕ) (bytes rest : List ℕ) (items : List A) → AreBytes bytes → times_read form.read n bytes ≡ Some (items, rest) → Takes bytes (flat_map form.text items) rest × (length items ≡ n)
  unfolding times_read
  items_take zero bytes rest items are e =
      subst (λ (x : List A × List ℕ). Takes bytes (flat_map form.text x.0) x.1 × (length x.0 ≡ 0)) (some_is ([], bytes) (items, rest) e) (record { parts = refl; are_bytes = are }, refl)
  items_take (suc n) bytes rest items are e =
      let a = then_some (form.read bytes) (λ a rest. then_read (times_read form.read n rest) (λ others after. Some (a ∷ others, after))) (items, rest) e in
      let b = then_some (times_read form.read n a.0.1) (λ others after. Some (a.0.0 ∷ others, after)) (items, rest) a.2 in
      let one = l.takes bytes a.0.1 a.0.0 are a.1 in
      let two = items_take n a.0.1 b.0.1 b.0.0 one.are_bytes b.1 in
      let both = takes_both bytes (form.text a.0.0) a.0.1 (flat_map form.text b.0.0) b.0.1 one two.0 in
      subst (λ (x : List A × List ℕ). Takes bytes (flat_map form.text x.0) x.1 × (length x.0 ≡ suc n)) (some_is (a.0.0 ∷ b.0.0, b.0.1) (items, rest) b.2) (both, ap suc two.1)

  items_again : (items : List A) (rest : List ℕ) → All Is items → times_read form.read (length items) (flat_map form.text items ++ rest) ≡ Some (items, rest)
  unfolding times_read
  items_again [] rest h = refl
  items_again (a ∷ items) rest h =
      ap (times_read form.read (suc (length items))) (append_assoc (form.text a) (flat_map form.text items) rest)
      ∙ rw (l.again a (flat_map form.text items ++ rest) (All-head Is a items h), items_again items rest (All-tail Is a items h)) refl

  list_takes : (bytes rest : List ℕ) (items : List A) → AreBytes bytes → (list form).read bytes ≡ Some (items, rest) → Takes bytes ((list form).text items) rest
  unfolding list_text list_read
  list_takes bytes rest items are e =
      let n = then_some (index.read bytes) (times_read form.read) (items, rest) e in
      let one = lawful_index.takes bytes n.0.1 n.0.0 are n.1 in
      let two = items_take n.0.0 n.0.1 rest items one.are_bytes n.2 in
      let both = takes_both bytes (index.text n.0.0) n.0.1 (flat_map form.text items) rest one two.0 in
      subst (λ (k : ℕ). Takes bytes (index.text k ++ flat_map form.text items) rest) (sym two.1) both

  list_again : (items : List A) (rest : List ℕ) → AreFewOf Is items → (list form).read ((list form).text items ++ rest) ≡ Some (items, rest)
  unfolding list_text list_read
  list_again items rest h =
      ap (λ (t : List ℕ). then_read (index.read t) (times_read form.read)) (append_assoc (index.text (length items)) (flat_map form.text items) rest)
      ∙ rw (lawful_index.again (length items) (flat_map form.text items ++ rest) h.few, items_again items rest h.each) refl

  pub lawful_list : Lawful (AreFewOf Is) (list form)
  lawful_list = record { again = list_again; takes = list_takes }

  optional_takes : (bytes rest : List ℕ) (o : Option A) → AreBytes bytes → (optional form).read bytes ≡ Some (o, rest) → Takes bytes ((optional form).text o) rest
  unfolding optional_text optional_read
  optional_takes [] rest o are e = absurd cc
  optional_takes (zero ∷ bytes) rest o are e =
      taken_is (optional_text form.text) (0 ∷ bytes) (None, bytes) (o, rest) e (record { parts = refl; are_bytes = bytes-rest 0 bytes are })
  optional_takes (suc zero ∷ bytes) rest o are e =
      let a = then_some (form.read bytes) (λ a rest. Some (Some a, rest)) (o, rest) e in
      let t = l.takes bytes a.0.1 a.0.0 (bytes-rest 1 bytes are) a.1 in
      taken_is (optional_text form.text) (1 ∷ bytes) (Some a.0.0, a.0.1) (o, rest) a.2 (record { parts = ap (λ (more : List ℕ). 1 ∷ more) t.parts; are_bytes = t.are_bytes })
  optional_takes (suc (suc b) ∷ bytes) rest o are e = absurd cc

  optional_again : (o : Option A) (rest : List ℕ) → IfSome o Is → (optional form).read ((optional form).text o ++ rest) ≡ Some (o, rest)
  unfolding optional_text optional_read
  optional_again None rest h = refl
  optional_again (Some a) rest h = rw (l.again a rest h) refl

  pub lawful_optional : Lawful (λ o. IfSome o Is) (optional form)
  lawful_optional = record { again = optional_again; takes = optional_takes }
