-- Reading a table of labels, behind the targets that are there.
use Rattle.std.proofs.Common.{◌≡◌, ℕ, zero, suc, false, List, [], ◌∷◌, ◌++◌, length, map, Ok, Err, refl, sym, ap, ◌∙◌}
use Rattle.std.proofs.lemmas.List.{map-id}
use Rattle.wasm_types.specs.declared.instr.Instr.TheVariants.{BrTable}
use Rattle.wasm_types.specs.Place.{Place, Reading, then_read}
use Rattle.wasm_types.specs.Number.{number_read}
use Rattle.wasm_types.specs.Part.{times_read, index}
use Rattle.wasm_types.specs.Body.{br_table}
use Rattle.wasm_reader.specs.declared.stop.ReadStop.{ReadStop}
use Rattle.wasm_reader.specs.declared.stop.ReadStop.TheVariants.{Fault, NoMemory}
use Rattle.wasm_reader.specs.Gives.{Fails, with_items, adding}

abbrev pub read_of : {A : Type 0} → A × Place → Reading A
read_of x = Ok x

-- what was read where these items stand in front of it
pub record IsBehind {A : Type 0} (front all : List A) (after : Place) (read : Reading (List A)) : Type 0 where
  pub items : List A
  pub is_read : read ≡ Ok (items, after)
  pub whole : all ≡ front ++ items

pub ok_is : {A : Type 0} (x y : A × Place) → read_of x ≡ read_of y → x ≡ y
ok_is x y e = cc

pub value : {A : Type 0} {x y : A × Place} → x ≡ y → x.0 ≡ y.0
value e = ap (λ p. p.0) e

pub place_of : {A : Type 0} {x y : A × Place} → x ≡ y → x.1 ≡ y.1
place_of e = ap (λ p. p.1) e

pub behind : {A : Type 0} (front all : List A) (after : Place) (read : Reading (List A)) → with_items front read ≡ Ok (all, after) → IsBehind front all after read
behind front all after (Ok x) e =
    let same = ok_is (front ++ x.0, x.1) (all, after) e in
    record { items = x.0; is_read = ap (λ (p : Place). read_of (x.0, p)) (place_of same); whole = sym (value same) }
behind front all after (Err f) e = absurd cc

pub bind_ok : {A B : Type 0} (r : Reading A) (f : A → Place → Reading B) (y : B × Place) → then_read r f ≡ Ok y → (x : A × Place) × (r ≡ Ok x) × (f x.0 x.1 ≡ Ok y)
bind_ok (Ok x) f y e = (x, refl, e)
bind_ok (Err d) f y e = absurd cc

pub times_length : {A : Type 0} (read : Place → Reading A) (n : ℕ) (start : Place) (items : List A) (after : Place) → times_read read n start ≡ Ok (items, after) → length items ≡ n
unfolding times_read
times_length read zero start items after e = sym (ap length (value (ok_is ([], start) (items, after) e)))
times_length read (suc n) start items after e =
    let a = bind_ok (read start) (λ a after. then_read (times_read read n after) (λ others end. Ok (a ∷ others, end))) (items, after) e in
    let b = bind_ok (times_read read n a.0.1) (λ others end. Ok (a.0.0 ∷ others, end)) (items, after) a.2 in
    let ih = times_length read n a.0.1 b.0.0 b.0.1 b.1 in
    let e2 : a.0.0 ∷ b.0.0 ≡ items = value (ok_is (a.0.0 ∷ b.0.0, b.0.1) (items, after) b.2) in
    sym (ap length e2) ∙ ap suc ih

module _ (first : ℕ) (old : List ℕ) (start : Place) where
  pub no_count : (e : ReadStop) → Fails e (number_read false 32 start) → Fails e (adding old ((br_table first).read start))
  unfolding br_table
  no_count NoMemory h = tt
  no_count (Fault at why) h = rw h refl

  pub no_labels : (e : ReadStop) (count : ℕ) (p : Place) → number_read false 32 start ≡ Ok (count, p) → Fails e (with_items (map (λ n. n) old) (times_read index.read count p)) → Fails e (adding old ((br_table first).read start))
  unfolding br_table
  no_labels NoMemory count p c h = tt
  no_labels (Fault at why) count p c h = rw (c, fault_of (times_read index.read count p) h) refl
    where
      fault_of : (read : Reading (List ℕ)) → with_items (map (λ n. n) old) read ≡ Err (record { at = at; kind = why }) → read ≡ Err (record { at = at; kind = why })
      fault_of (Ok x) e = absurd cc
      fault_of (Err f) e = cc

  module _ (count : ℕ) (p : Place) (all : List ℕ) (q : Place) (c : number_read false 32 start ≡ Ok (count, p)) (ls : with_items (map (λ n. n) old) (times_read index.read count p) ≡ Ok (map (λ n. n) all, q)) where
    labels : IsBehind old all q (times_read index.read count p)
    labels = behind old all q (times_read index.read count p) (rw (map-id old, map-id all) at ls)

    pub no_default : (e : ReadStop) → Fails e (number_read false 32 q) → Fails e (adding old ((br_table first).read start))
    unfolding br_table
    no_default NoMemory h = tt
    no_default (Fault at why) h = rw (c, labels.is_read, h) refl

    pub table_is : (default : ℕ) (after : Place) → number_read false 32 q ≡ Ok (default, after) → adding old ((br_table first).read start) ≡ Ok ((BrTable first count default, all), after)
    unfolding br_table
    table_is default after d =
        let n = times_length index.read count p labels.items q labels.is_read in
        rw (c, labels.is_read, d, n, ← labels.whole) refl
