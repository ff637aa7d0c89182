-- A whole module is lawful: what is read is spelled by all the bytes, and what is spelled is read.
use Rattle.std.proofs.Common.{◌≡◌, ℕ, zero, suc, ◌+◌, ◌≤◌, ◌<◌, Bool, true, false, cond, eqb, List, [], ◌∷◌, ◌++◌, length, drop, Ok, Err, refl, sym, ap, ◌∙◌, append_assoc, add-zero, eq-eqb, lit<, arith, inl, inr}
use Rattle.std.specs.Prelude.{nat_eq}
use Rattle.std.specs.List.{starts_with}
use Rattle.std.proofs.lemmas.Bool.{eqb-true, ne_eqb}
use Rattle.std.proofs.lemmas.Bool.Decides.{Decides-eqb}
use Rattle.std.proofs.lemmas.List.{append-nil, length-append, drop_at}
use Rattle.std.proofs.lemmas.Slice.Eq.{starts_is}
use Rattle.wasm_types.specs.declared.kind.ReadKind.{ReadKind}
use Rattle.wasm_types.specs.declared.kind.ReadKind.TheVariants.{Cut, Magic, Section, Count}
use Rattle.wasm_types.specs.Place.{Place, Reading, then_read, breaks}
use Rattle.wasm_types.specs.Part.{Part, done, ◌>>=◌, marker, exactly, word_read}
use Rattle.wasm_types.specs.ModuleText.{header, begins, named_bytes, custom, AreCustoms, customs_read, customs, numbered, where_present, section_read, section, end_from, end_read, input_end, module_part}
use Rattle.wasm_types.proofs.Lawful.{Lawful, Anything, Nothing, Took, took_is, here, read_of, bind_ok, ok_is, narrower, lawful_done, lawful_join, lawful_bind, lawful_byte_or, lawful_number, lawful_anything, lawful_vector, lawful_sized}
use Rattle.wasm_types.proofs.PartLaws.{lawful_text, lawful_func_type, lawful_table, lawful_limits, lawful_import, lawful_export, lawful_global, lawful_elem, lawful_seg}
use Rattle.wasm_types.proofs.BodyLaws.{lawful_code}

-- ---- the header

abbrev word_or : List ℕ → ReadKind → Place → Bool → Reading (Unit {0})
word_or word why start b = cond b (Ok (tt, here (start.at + length word) (drop (length word) start.rest))) (breaks start.at (cond (starts_with nat_eq word start.rest) Cut why))

lawful_word : {F : List ℕ → Type 0} (word : List ℕ) (why : ReadKind) → Lawful F (exactly word why)
unfolding word_read
lawful_word {F} word why = record {
  sound = λ start u after e. go start u after (starts_with nat_eq start.rest word) refl e;
  again = λ at text rest u s f. rw s (rw ((starts_is Decides-eqb (word ++ rest) word (starts_with nat_eq (word ++ rest) word) refl).1 rest refl) (found at rest));
}
  where
    go : (start : Place) (u : Unit {0}) (after : Place) (b : Bool) → starts_with nat_eq start.rest word ≡ b → word_or word why start b ≡ Ok (u, after) → Took (exactly word why).Spells start u after
    go start u after true h e =
        let front = (starts_is Decides-eqb start.rest word (starts_with nat_eq start.rest word) refl).0 h in
        took_is (exactly word why).Spells start (tt, here (start.at + length word) (drop (length word) start.rest)) (u, after) (ok_is (tt, here (start.at + length word) (drop (length word) start.rest)) (u, after) e) (record { text = word; cut = front; place = refl; spelled = refl })
    go start u after false h e = absurd cc

    found : (at : ℕ) (rest : List ℕ) → read_of {A = Unit {0}} (tt, here (at + length word) (drop (length word) (word ++ rest))) ≡ Ok (tt, here (at + length word) rest)
    found at rest = rw (drop_at word rest (length word) refl) refl

-- ---- custom sections

abbrev NotCustom : List ℕ → Type 0
NotCustom rest = begins 0 rest ≡ false

marker_is : (k : ℕ) (why : ReadKind) (b : ℕ) (u : Unit {0}) → marker k why b ≡ Ok u → b ≡ k
marker_is k why b u e = go (eqb b k) refl e
  where
    go : (t : Bool) → eqb b k ≡ t → cond t (Ok tt) (Err why) ≡ Ok u → b ≡ k
    go true h e = eqb-true b k h
    go false h e = absurd cc

marked : (k b : ℕ) (text : List ℕ) → b ≡ k → begins k (b ∷ text) ≡ true
marked k b text e = eq-eqb b k e

lawful_named_bytes : Lawful Nothing named_bytes
unfolding named_bytes
lawful_named_bytes = lawful_bind lawful_text (λ _. lawful_join lawful_anything (λ _. lawful_done tt) (λ a text rest b s f. rw s.0 f))

pub lawful_custom : Lawful Anything custom
unfolding custom
lawful_custom = lawful_bind (lawful_byte_or Cut (marker 0 Section)) (λ _. lawful_sized lawful_named_bytes)

pub custom_begins : (text : List ℕ) (u : Unit {0}) (rest : List ℕ) → custom.Spells text u → begins 0 (text ++ rest) ≡ true
unfolding custom
custom_begins text u rest s =
    let whole : text ++ rest ≡ s.first.0 ∷ (s.back ++ rest) = ap (λ (t : List ℕ). t ++ rest) (s.cut ∙ ap (λ (t : List ℕ). t ++ s.back) s.first.1) in
    rw whole (marked 0 s.first.0 (s.back ++ rest) (marker_is 0 Section s.first.0 s.value s.first.2))

pub custom_some : (text : List ℕ) (u : Unit {0}) → custom.Spells text u → 0 < length text
custom_some text u s = go text (rw (append-nil text) at (custom_begins text u [] s))
  where
    go : (text : List ℕ) → begins 0 text ≡ true → 0 < length text
    go [] e = absurd cc
    go (b ∷ text) e = omega arith

abbrev Customs : List ℕ → Unit {0} → Type 0
Customs text u = customs.Spells text u

abbrev customs_or : ℕ → Place → Bool → Reading (Unit {0})
customs_or steps start b = cond b (then_read (custom.read start) (λ _ after. customs_read steps after)) (Ok (tt, start))

no_custom : (start : Place) (u : Unit {0}) (after : Place) → read_of {A = Unit {0}} (tt, start) ≡ Ok (u, after) → Took Customs start u after
no_custom start u after e = took_is Customs start (tt, start) (u, after) (ok_is (tt, start) (u, after) e) (record { text = []; cut = refl; place = omega arith; spelled = (0, refl) })

customs_step : (steps : ℕ) (start : Place) (u : Unit {0}) (after : Place) (b : Bool) → ((here : Place) → customs_read steps here ≡ Ok (u, after) → Took Customs here u after) → customs_or steps start b ≡ Ok (u, after) → Took Customs start u after
customs_step steps start u after true ih e =
    let x = bind_ok (custom.read start) (λ _ after. customs_read steps after) (u, after) e in
    let one = lawful_custom.sound start x.0.0 x.0.1 x.1 in
    let two = ih x.0.1 x.2 in
    record {
      text = one.text ++ two.text;
      cut = one.cut ∙ ap (λ (t : List ℕ). one.text ++ t) two.cut ∙ sym (append_assoc one.text two.text after.rest);
      place = omega (arith, one.place, two.place, length-append one.text two.text);
      spelled = (suc two.spelled.0, record { front = one.text; back = two.text; value = x.0.0; cut = refl; first = one.spelled; second = two.spelled.1 });
    }
customs_step steps start u after false ih e = no_custom start u after e

customs_sound : (steps : ℕ) (start : Place) (u : Unit {0}) (after : Place) → customs_read steps start ≡ Ok (u, after) → Took Customs start u after
unfolding customs_read
customs_sound zero start u after e = no_custom start u after e
customs_sound (suc steps) start u after e = customs_step steps start u after (begins 0 start.rest) (λ here h. customs_sound steps here u after h) e

customs_again : (n steps at : ℕ) (text rest : List ℕ) → AreCustoms n text → NotCustom rest → length text ≤ steps → customs_read steps (here at (text ++ rest)) ≡ Ok (tt, here (at + length text) rest)
unfolding customs_read
customs_again zero zero at text rest s f le = rw (s, add-zero) refl
customs_again zero (suc steps) at text rest s f le = rw (s, f, add-zero) refl
customs_again (suc n) zero at text rest s f le = absurd (omega (arith, le, ap length s.cut, length-append s.front s.back, custom_some s.front s.value s.first))
customs_again (suc n) (suc steps) at text rest s f le =
    let whole : text ++ rest ≡ s.front ++ (s.back ++ rest) = ap (λ (t : List ℕ). t ++ rest) s.cut ∙ append_assoc s.front s.back rest in
    let one = lawful_custom.again at s.front (s.back ++ rest) s.value s.first tt in
    let two = customs_again n steps (at + length s.front) s.back rest s.second f (omega (arith, le, ap length s.cut, length-append s.front s.back, custom_some s.front s.value s.first)) in
    let end : at + length s.front + length s.back ≡ at + length text = omega (arith, ap length s.cut, length-append s.front s.back) in
    rw whole (rw (custom_begins s.front s.value (s.back ++ rest) s.first, one, two, end) refl)

lawful_customs : Lawful NotCustom customs
lawful_customs = record {
  sound = λ start u after e. customs_sound (length start.rest) start u after e;
  again = λ at text rest u s f. customs_again s.0 (length (text ++ rest)) at text rest s.1 f (omega (arith, length-append text rest));
}

-- ---- sections

-- no bytes, or they begin with a number above k
abbrev Above : ℕ → List ℕ → Type 0
Above k [] = Unit {0}
Above k (b ∷ bytes) = k < b

other_section : (j k : ℕ) (rest : List ℕ) → j ≤ k → Above k rest → begins j rest ≡ false
other_section j k [] le above = refl
other_section j k (b ∷ rest) le above = ne_eqb b j (λ e. omega (arith, e, above))

above_less : (j k : ℕ) (rest : List ℕ) → j ≤ k → Above k rest → Above j rest
above_less j k [] le above = tt
above_less j k (b ∷ rest) le above = omega (arith, above)

above_nothing : (k : ℕ) (text rest : List ℕ) → Above k text → rest ≡ [] → Above k (text ++ rest)
above_nothing k text rest above e = rw (e, append-nil text) above

module _ {A : Type 0} (k : ℕ) {p : Part (List A)} (l : Lawful Nothing p) where
  lawful_numbered : Lawful (Above k) (numbered k p)
  lawful_numbered =
      lawful_bind (lawful_byte_or Cut (marker k Section)) (λ _. lawful_bind (lawful_sized l) (λ items. lawful_join lawful_customs (λ _. lawful_done items) (λ u text rest b s above. rw s.0 (other_section 0 k rest (omega arith) above))))

  -- a section begins with its number
  numbered_begins : (text : List ℕ) (items : List A) → (numbered k p).Spells text items → (bytes : List ℕ) × (text ≡ k ∷ bytes)
  numbered_begins text items s = (s.back, s.cut ∙ ap (λ (t : List ℕ). t ++ s.back) s.first.1 ∙ ap (λ (b : ℕ). b ∷ s.back) (marker_is k Section s.first.0 s.value s.first.2))

  lawful_section : Lawful (Above k) (section k p)
  unfolding section_read
  lawful_section = record {
    sound = λ start items after e. go start items after (begins k start.rest) e;
    again = again;
  }
    where
      go : (start : Place) (items : List A) (after : Place) (b : Bool) → where_present b ((numbered k p).read start) start ≡ Ok (items, after) → Took (section k p).Spells start items after
      go start items after true e =
          let t = lawful_numbered.sound start items after e in
          record { text = t.text; cut = t.cut; place = t.place; spelled = inr t.spelled }
      go start items after false e =
          took_is (section k p).Spells start ([], start) (items, after) (ok_is ([], start) (items, after) e) (record { text = []; cut = refl; place = omega arith; spelled = inl (refl, refl) })

      again : (at : ℕ) (text rest : List ℕ) (items : List A) → (section k p).Spells text items → Above k rest → (section k p).read (here at (text ++ rest)) ≡ Ok (items, here (at + length text) rest)
      again at text rest items (inl s) above = rw (s.0, s.1, other_section k k rest (omega arith) above, add-zero) refl
      again at text rest items (inr s) above =
          let b = numbered_begins text items s in
          let first : begins k (text ++ rest) ≡ true = rw b.1 (marked k k (b.0 ++ rest) refl) in
          rw first (lawful_numbered.again at text rest items s above)

-- what stands behind the section k, up to the end of the input
record Tail {A : Type 0} (k : ℕ) (q : Part A) : Type 0 where
  pub lawful : Lawful Nothing q
  pub rises : (text : List ℕ) (a : A) → q.Spells text a → Above k text
  pub ends : (start : Place) (a : A) (after : Place) → q.read start ≡ Ok (a, after) → after.rest ≡ []

tail_section : {A B : Type 0} (j k : ℕ) {p : Part (List A)} {q : List A → Part B} → j < k → Lawful Nothing p → ((items : List A) → Tail k (q items)) → Tail j (section k p >>= q)
tail_section {A} {B} j k {p} {q} lt l t = record {
  lawful = lawful_join (lawful_section k l) (λ items. (t items).lawful) (λ items text rest b s f. above_nothing k text rest ((t items).rises text b s) f);
  rises = λ text b s. rises text b s.front s.back s.value s.cut s.first s.second;
  ends = λ start b after e. let x = bind_ok ((section k p).read start) (λ items. (q items).read) (b, after) e in (t x.0.0).ends x.0.1 b after x.2;
}
  where
    rises : (text : List ℕ) (b : B) (front back : List ℕ) (items : List A) → text ≡ front ++ back → (section k p).Spells front items → (q items).Spells back b → Above j text
    rises text b front back items cut (inl s) second = rw (cut, s.0) (above_less j k back (omega arith) ((t items).rises back b second))
    rises text b front back items cut (inr s) second = rw (cut, (numbered_begins k l front items s).1) lt

abbrev end_or : ℕ → Bool → Reading (Unit {0})
end_or at same = cond same (Ok (tt, here at [])) (breaks at Count)

tail_end : {A : Type 0} (k funcs codes : ℕ) (a : A) → Tail k (input_end funcs codes >>= λ _. done a)
unfolding end_read
tail_end {A} k funcs codes a = record {
  lawful = lawful_join lawful_end (λ _. lawful_done a) (λ u text rest b s f. rw s.0 f);
  rises = λ text b s. rw (s.cut, s.first.0, s.second.0) tt;
  ends = λ start b after e.
      let x = bind_ok ((input_end funcs codes).read start) (λ _ here. Ok (a, here)) (b, after) e in
      let r = end_is start.at start.rest x.0.0 x.0.1 x.1 in
      ap (λ (p : A × Place). p.1.rest) (sym (ok_is (a, x.0.1) (b, after) x.2)) ∙ ap (λ (p : Place). p.rest) r.2;
}
  where
    same_or : (at : ℕ) (u : Unit {0}) (after : Place) (b : Bool) → eqb funcs codes ≡ b → end_or at b ≡ Ok (u, after) → (funcs ≡ codes) × (after ≡ here at [])
    same_or at u after true h e = (eqb-true funcs codes h, ap (λ (p : Unit {0} × Place). p.1) (sym (ok_is (tt, here at []) (u, after) e)))
    same_or at u after false h e = absurd cc

    end_is : (at : ℕ) (rest : List ℕ) (u : Unit {0}) (after : Place) → end_from funcs codes at rest ≡ Ok (u, after) → (rest ≡ []) × (funcs ≡ codes) × (after ≡ here at [])
    end_is at [] u after e = let r = same_or at u after (eqb funcs codes) refl e in (refl, r.0, r.1)
    end_is at (b ∷ rest) u after e = absurd cc

    lawful_end : Lawful Nothing (input_end funcs codes)
    lawful_end = record {
      sound = λ start u after e.
          let r = end_is start.at start.rest u after e in
          record { text = []; cut = r.0 ∙ ap (λ (p : Place). p.rest) (sym r.2); place = ap (λ (p : Place). p.at) r.2 ∙ sym (add-zero start.at); spelled = (refl, r.1) };
      again = λ at text rest u s f. rw (s.0, f, eq-eqb funcs codes s.1, add-zero) refl;
    }

-- ---- the module

-- what is read takes all the bytes
pub record Whole {A : Type 0} (p : Part A) : Type 0 where
  pub lawful : Lawful Nothing p
  pub ends : (start : Place) (a : A) (after : Place) → p.read start ≡ Ok (a, after) → after.rest ≡ []

headed : {A : Type 0} {q : Part A} → Tail 0 q → Whole (exactly header Magic >>= λ _. customs >>= λ _. q)
headed {A} {q} t = record {
  lawful = lawful_bind (lawful_word header Magic) (λ _. lawful_join lawful_customs (λ _. t.lawful) (λ u text rest b s f. other_section 0 0 (text ++ rest) (omega arith) (above_nothing 0 text rest (t.rises text b s) f)));
  ends = λ start a after e.
      let x = bind_ok ((exactly header Magic).read start) (λ _ here. then_read (customs.read here) (λ _. q.read)) (a, after) e in
      let y = bind_ok (customs.read x.0.1) (λ _. q.read) (a, after) x.2 in
      t.ends y.0.1 a after y.2;
}

pub whole_module : Whole module_part
unfolding module_part
whole_module =
    headed (tail_section 0 1 (lit< tt) (lawful_vector lawful_func_type) (λ types.
    tail_section 1 2 (lit< tt) (lawful_vector lawful_import) (λ imports.
    tail_section 2 3 (lit< tt) (lawful_vector (lawful_number false 32)) (λ funcs.
    tail_section 3 4 (lit< tt) (lawful_vector lawful_table) (λ tables.
    tail_section 4 5 (lit< tt) (lawful_vector lawful_limits) (λ memories.
    tail_section 5 6 (lit< tt) (lawful_vector lawful_global) (λ globals.
    tail_section 6 7 (lit< tt) (lawful_vector lawful_export) (λ exports.
    tail_section 7 9 (lit< tt) (lawful_vector lawful_elem) (λ elems.
    tail_section 9 10 (lit< tt) (lawful_vector (lawful_sized (narrower lawful_code))) (λ codes.
    tail_section 10 11 (lit< tt) (lawful_vector lawful_seg) (λ segs. tail_end 11 (length funcs) (length codes) _)))))))))))
