-- Reading and writing items one after the other, as a loop does.
use Rattle.std.proofs.Common.{◌≡◌, ℕ, zero, suc, ◌-◌, ◌+◌, ◌≤◌, ◌<◌, List, [], ◌∷◌, ◌++◌, map, length, get_or, Some, None, refl, sym, ap, subst, ◌∙◌, append_assoc, arith}
use Rattle.std.specs.Prelude.{All}
use Rattle.std.proofs.lemmas.List.{append-nil, map-id, length-map}
use Rattle.std.proofs.lemmas.List.Elements.{All-get_or}
use Rattle.wasm_types.specs.Laws.{AreFew}
use Rattle.wasm_types.specs.Bounds.{AreFewOf}
use Rattle.module_file.specs.declared.stop.Stop.{Stop}
use Rattle.module_file.specs.declared.stop.Stop.TheVariants.{Unreadable, NoMemory}
use Rattle.module_file.specs.Form.{Reading, then_read, times_read}
use Rattle.module_file.specs.Gives.{Fails}

-- items that were read before, and those that are still read
abbrev pub with_items : {A : Type 0} → List A → Reading (List A) → Reading (List A)
with_items front read = then_read read (λ items rest. Some (front ++ items, rest))

regroup : {A : Type 0} (front : List A) (a : A) (read : Reading (List A))
    → with_items front (then_read read (λ others after. Some (a ∷ others, after))) ≡ with_items (front ++ a ∷ []) read
regroup front a (Some x) = ap (λ (items : List _). Some (items, x.1)) (simp append_assoc)
regroup front a None = refl

pub starts : {A : Type 0} (read : List ℕ → Reading A) (count : ℕ) (bytes : List ℕ) → with_items [] (times_read read (count - 0) bytes) ≡ times_read read count bytes
starts read count bytes = let k : count - 0 ≡ count = omega arith in ap (λ (n : ℕ). with_items [] (times_read read n bytes)) k ∙ with_nothing (times_read read count bytes)
  where
    with_nothing : {A : Type 0} (given : Reading (List A)) → with_items [] given ≡ given
    with_nothing (Some x) = refl
    with_nothing None = refl

module _ {A : Type 0} (read : List ℕ → Reading A) (front : List A) (count i : ℕ) (bytes : List ℕ) (total : Reading (List A)) where
  pub goes_on : (a : A) (after : List ℕ) → i < count → read bytes ≡ Some (a, after)
      → with_items front (times_read read (count - i) bytes) ≡ total → with_items (front ++ a ∷ []) (times_read read (count - (i + 1)) after) ≡ total
  unfolding times_read
  goes_on a after lt h so_far =
      let k : count - i ≡ suc (count - (i + 1)) = omega arith in
      let one : with_items front (times_read read (count - i) bytes) ≡ with_items (front ++ a ∷ []) (times_read read (count - (i + 1)) after) = rw (k, h) (regroup front a (times_read read (count - (i + 1)) after)) in
      sym one ∙ so_far

  pub fails : (e : Stop) → i < count → Fails e (read bytes) → with_items front (times_read read (count - i) bytes) ≡ total → Fails e total
  unfolding times_read
  fails NoMemory lt h so_far = tt
  fails Unreadable lt h so_far =
      let k : count - i ≡ suc (count - (i + 1)) = omega arith in
      let one : with_items front (times_read read (count - i) bytes) ≡ None = rw (k, h) refl in
      sym so_far ∙ one

  pub is_done : count ≤ i → with_items front (times_read read (count - i) bytes) ≡ total → total ≡ Some (front, bytes)
  unfolding times_read
  is_done le so_far =
      let k : count - i ≡ 0 = omega arith in
      let one : with_items front (times_read read (count - i) bytes) ≡ Some (front, bytes) = rw k (ap (λ (items : List A). Some (items, bytes)) (append-nil front)) in
      sym so_far ∙ one

-- ---- items that are their own plain form

abbrev pub Any : {A : Type 0} → A → Type 0
Any a = Unit {0}

pub few_same : {A : Type 0} (items : List A) → AreFew items → AreFewOf Any (map (λ a. a) items)
few_same items few = rw (map-id items) (record { few = few; each = λ k d lt. tt })

-- ---- what each item keeps to

map_at : {A B : Type 0} (view : A → B) (items : List A) (i : ℕ) (d : A) → get_or (map view items) i (view d) ≡ view (get_or items i d)
map_at view [] i d = refl
map_at view (a ∷ items) zero d = refl
map_at view (a ∷ items) (suc i) d = map_at view items i d

pub each_holds : {A B : Type 0} (P : B → Type 0) (view : A → B) (items : List A) (i : ℕ) (a : A) → i < length items → a ≡ get_or items i a → All P (map view items) → P (view a)
each_holds P view items i a lt is h =
    let short : i < length (map view items) = rw (length-map items view) lt in
    subst P (map_at view items i a ∙ ap view (sym is)) (All-get_or P (map view items) i (view a) short h)
