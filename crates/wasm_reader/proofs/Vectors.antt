-- Reading items one after the other, as a loop does.
use Rattle.std.proofs.Common.{◌≡◌, ℕ, suc, ◌-◌, ◌+◌, ◌≤◌, ◌<◌, List, [], ◌∷◌, ◌++◌, Ok, Err, refl, sym, ap, ◌∙◌, append_assoc, arith}
use Rattle.std.proofs.lemmas.List.{append-nil}
use Rattle.wasm_types.specs.Place.{Place, Reading, then_read}
use Rattle.wasm_types.specs.Part.{times_read}
use Rattle.wasm_reader.specs.declared.stop.ReadStop.{ReadStop}
use Rattle.wasm_reader.specs.declared.stop.ReadStop.TheVariants.{Fault, NoMemory}
use Rattle.wasm_reader.specs.Gives.{Fails, with_items}

regroup : {A : Type 0} (front : List A) (a : A) (read : Reading (List A))
    → with_items front (then_read read (λ others end. Ok (a ∷ others, end))) ≡ with_items (front ++ a ∷ []) read
regroup front a (Ok x) = ap (λ (items : List _). Ok (items, x.1)) (simp append_assoc)
regroup front a (Err e) = refl

module _ {A : Type 0} (read : Place → Reading A) (front : List A) (count i : ℕ) (start : Place) (total : Reading (List A)) where
  pub goes_on : (a : A) (after : Place) → i < count → read start ≡ Ok (a, after)
      → with_items front (times_read read (count - i) start) ≡ total → with_items (front ++ a ∷ []) (times_read read (count - (i + 1)) after) ≡ total
  unfolding times_read
  goes_on a after lt h so_far =
      let k : count - i ≡ suc (count - (i + 1)) = omega arith in
      let one : with_items front (times_read read (count - i) start) ≡ with_items (front ++ a ∷ []) (times_read read (count - (i + 1)) after) = rw (k, h) (regroup front a (times_read read (count - (i + 1)) after)) in
      sym one ∙ so_far

  pub fails : (e : ReadStop) → i < count → Fails e (read start) → with_items front (times_read read (count - i) start) ≡ total → Fails e total
  unfolding times_read
  fails NoMemory lt h so_far = tt
  fails (Fault at why) lt h so_far =
      let k : count - i ≡ suc (count - (i + 1)) = omega arith in
      let one : with_items front (times_read read (count - i) start) ≡ Err (record { at = at; kind = why }) = rw (k, h) refl in
      sym so_far ∙ one

  pub is_done : count ≤ i → with_items front (times_read read (count - i) start) ≡ total → total ≡ Ok (front, start)
  unfolding times_read
  is_done le so_far =
      let k : count - i ≡ 0 = omega arith in
      let one : with_items front (times_read read (count - i) start) ≡ Ok (front, start) = rw k (ap (λ (items : List A). Ok (items, start)) (append-nil front)) in
      sym so_far ∙ one

pub with_nothing : {A : Type 0} (read : Reading (List A)) → with_items [] read ≡ read
with_nothing (Ok x) = refl
with_nothing (Err e) = refl
