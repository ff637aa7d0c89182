-- Comparing items one after the other with those that are read, as a loop does.
use Rattle.std.proofs.Common.{◌≡◌, ◌≢◌, ℕ, ◌-◌, ◌+◌, ◌<◌, Bool, true, false, List, [], ◌∷◌, ◌++◌, length, get_or, take, drop, map, Ok, refl, sym, ap, ◌∙◌}
use Rattle.std.proofs.lemmas.List.{take_more, drop_more, map-append, take-append-drop}
use Rattle.wasm_types.specs.declared.kind.ReadKind.TheVariants.{Section}
use Rattle.wasm_types.specs.Place.{Place, Reading, then_read}
use Rattle.wasm_types.specs.Number.{number_read}
use Rattle.wasm_types.specs.Part.{times_read, byte, marker, part_read, used_up_read, sized_read}
use Rattle.wasm_types.specs.ModuleText.{begins, customs, section_read}
use Rattle.wasm_reader.specs.Gives.{Compares, vector_read, with_items}
use Rattle.wasm_reader.proofs.Tables.{read_of, bind_ok, ok_is, value, times_length, behind}
use Rattle.wasm_reader.proofs.Vectors.{goes_on}

-- the heads behind one front
same_head : {A : Type 0} (front : List A) (a b : A) (xs ys : List A) → (front ++ a ∷ []) ++ xs ≡ front ++ b ∷ ys → a ≡ b
same_head [] a b xs ys e = cc
same_head (x ∷ front) a b xs ys e = let rest : (front ++ a ∷ []) ++ xs ≡ front ++ b ∷ ys = cc in same_head front a b xs ys rest

module _ {T A : Type 0} (shown : T → A) (read : Place → Reading A) (items : List T) (i : ℕ) (d : T) (lt : i < length items) (here : Place) (total : Reading (List A)) where
  so_far : Type 0
  so_far = with_items (map shown (take i items)) (times_read read (length items - i) here) ≡ total

  one_more : map shown (take (i + 1) items) ≡ map shown (take i items) ++ shown (get_or items i d) ∷ []
  one_more = ap (map shown) (take_more items i d lt) ∙ map-append shown (take i items) (get_or items i d ∷ [])

  pub same_so_far : (a : A) (after : Place) → read here ≡ Ok (a, after) → a ≡ shown (get_or items i d) → with_items (map shown (take i items)) (times_read read (length items - i) here) ≡ total
      → with_items (map shown (take (i + 1) items)) (times_read read (length items - (i + 1)) after) ≡ total
  same_so_far a after h same e =
      let step = goes_on read (map shown (take i items)) (length items) i here total a after lt h e in
      rw (one_more, ← same) step

  split : map shown items ≡ map shown (take i items) ++ shown (get_or items i d) ∷ map shown (drop (i + 1) items)
  split = ap (map shown) (sym (take-append-drop i items)) ∙ map-append shown (take i items) (drop i items) ∙ ap (λ (l : List T). map shown (take i items) ++ map shown l) (drop_more items i d lt)

  pub other_item : (a : A) (after : Place) → read here ≡ Ok (a, after) → a ≢ shown (get_or items i d) → with_items (map shown (take i items)) (times_read read (length items - i) here) ≡ total
      → (end : Place) → total ≡ Ok (map shown items, end) → ⊥
  other_item a after h differ e end t =
      let step = goes_on read (map shown (take i items)) (length items) i here total a after lt h e in
      let b = behind (map shown (take i items) ++ a ∷ []) (map shown items) end (times_read read (length items - (i + 1)) after) (step ∙ t) in
      differ (same_head (map shown (take i items)) a (shown (get_or items i d)) b.items (map shown (drop (i + 1) items)) (sym b.whole ∙ split))

-- ---- vectors

module _ {A : Type 0} (read : Place → Reading A) (items : List A) (start : Place) (n : ℕ) (p : Place) (count : number_read false 32 start ≡ Ok (n, p)) where
  pub other_count : n ≢ length items → (end : Place) → vector_read read start ≡ Ok (items, end) → ⊥
  other_count differ end e =
      let h : times_read read n p ≡ Ok (items, end) = rw count at e in
      differ (sym (times_length read n p items end h))

  pub same_count : n ≡ length items → (b : Bool) (after : Place) → Compares items (Ok b) after (times_read read (length items) p) → Compares items (Ok b) after (vector_read read start)
  same_count same true after h = rw (count, same) h
  same_count same false after h = λ end e. h end (rw (count, same) at e)

-- ---- sections

module _ {A : Type 0} (k : ℕ) (read : Place → Reading A) (items : List A) (start : Place) where
  pub no_section : begins k start.rest ≡ false → (b : Bool) → (b ≡ true → items ≡ []) → (b ≡ false → items ≢ []) → Compares items (Ok b) start (section_read k (vector_read read) start)
  unfolding section_read
  no_section h true same differ = rw (h, same refl) refl
  no_section h false same differ = λ end e. differ refl (sym (value (ok_is ([], start) (items, end) (rw h at e))))

  pub other_items : begins k start.rest ≡ true → (u : Unit {0}) (p within q : Place) → (byte (marker k Section)).read start ≡ Ok (u, p) → part_read p ≡ Ok (within, q)
      → ((end : Place) → vector_read read within ≡ Ok (items, end) → ⊥) → (end : Place) → section_read k (vector_read read) start ≡ Ok (items, end) → ⊥
  unfolding section_read sized_read
  other_items h u p within q m w differ end e =
      let e1 = rw (h, m, w) at e in
      let x = bind_ok (then_read (vector_read read within) (λ a left. then_read (used_up_read left) (λ _ _. Ok (a, q)))) (λ items behind. then_read (customs.read behind) (λ _ after. Ok (items, after))) (items, end) e1 in
      let y = bind_ok (vector_read read within) (λ a left. then_read (used_up_read left) (λ _ _. Ok (a, q))) x.0 x.1 in
      let z = bind_ok (used_up_read y.0.1) (λ _ _. Ok (y.0.0, q)) x.0 y.2 in
      let v = bind_ok (customs.read x.0.1) (λ _ after. Ok (x.0.0, after)) (items, end) x.2 in
      let same : y.0.0 ≡ items = value (ok_is (y.0.0, q) x.0 z.2) ∙ value (ok_is (x.0.0, v.0.1) (items, end) v.2) in
      differ y.0.1 (y.1 ∙ ap (λ (l : List A). read_of (l, y.0.1)) same)

-- ---- whole lists

pub same_lists : {A : Type 0} (xs ys : List A) (b : Bool) (after : Place) (read : Reading (List A)) → (b ≡ true → xs ≡ ys) × (xs ≡ ys → b ≡ true) → read ≡ Ok (xs, after) → Compares ys (Ok b) after read
same_lists xs ys true after read d h = h ∙ ap (λ l. read_of (l, after)) (d.0 refl)
same_lists xs ys false after read d h = λ end e. apart (d.1 (value (ok_is (xs, after) (ys, end) (sym h ∙ e))))
  where
    apart : false ≡ true → ⊥
    apart e = cc
