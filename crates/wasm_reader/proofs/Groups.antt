-- Reading groups of locals one after the other, as a loop does.
use Rattle.std.proofs.Common.{◌≡◌, ℕ, suc, ◌-◌, ◌+◌, ◌≤◌, ◌<◌, List, ◌++◌, length, Ok, Err, refl, sym, ap, ◌∙◌, append_assoc, arith}
use Rattle.std.proofs.lemmas.List.{append-nil, length-append}
use Rattle.wasm_types.specs.declared.value.ValType.{ValType}
use Rattle.wasm_types.specs.Place.{Place, Reading, then_read}
use Rattle.wasm_types.specs.Body.{group, groups_read}
use Rattle.wasm_reader.specs.declared.stop.ReadStop.{ReadStop}
use Rattle.wasm_reader.specs.declared.stop.ReadStop.TheVariants.{Fault, NoMemory}
use Rattle.wasm_reader.specs.Gives.{Fails, with_items}

-- the groups that are left, behind these locals
abbrev pub still : List ValType → ℕ → Place → Reading (List ValType)
still types count start = with_items types (groups_read count (length types) start)

step : (front : List ValType) (n : ℕ) (read : Reading (List ValType))
    → with_items front (then_read read (λ own after. then_read (groups_read n (length front + length own) after) (λ others end. Ok (own ++ others, end))))
    ≡ then_read (with_items front read) (λ all after. still all n after)
step front n (Ok x) = rw (← length-append front x.0) (regroup (groups_read n (length (front ++ x.0)) x.1))
  where
    regroup : (rest : Reading (List ValType)) → with_items front (then_read rest (λ others end. Ok (x.0 ++ others, end))) ≡ with_items (front ++ x.0) rest
    regroup (Ok y) = ap (λ (items : List ValType). Ok (items, y.1)) (sym (append_assoc front x.0 y.0))
    regroup (Err e) = refl
step front n (Err e) = refl

module _ (front : List ValType) (count i : ℕ) (start : Place) (total : Reading (List ValType)) where
  opened : i < count → still front (count - i) start ≡ then_read (with_items front ((group (length front)).read start)) (λ all after. still all (count - (i + 1)) after)
  unfolding groups_read
  opened lt =
      let k : count - i ≡ suc (count - (i + 1)) = omega arith in
      rw k (step front (count - (i + 1)) ((group (length front)).read start))

  pub goes_on : (all : List ValType) (after : Place) → i < count → with_items front ((group (length front)).read start) ≡ Ok (all, after)
      → still front (count - i) start ≡ total → still all (count - (i + 1)) after ≡ total
  goes_on all after lt h so_far =
      let one : still front (count - i) start ≡ still all (count - (i + 1)) after = opened lt ∙ rw h refl in
      sym one ∙ so_far

  pub fails : (e : ReadStop) → i < count → Fails e (with_items front ((group (length front)).read start)) → still front (count - i) start ≡ total → Fails e total
  fails NoMemory lt h so_far = tt
  fails (Fault at why) lt h so_far =
      let one : still front (count - i) start ≡ Err (record { at = at; kind = why }) = opened lt ∙ rw h refl in
      sym so_far ∙ one

  pub is_done : count ≤ i → still front (count - i) start ≡ total → total ≡ Ok (front, start)
  unfolding groups_read
  is_done le so_far =
      let k : count - i ≡ 0 = omega arith in
      let one : still front (count - i) start ≡ Ok (front, start) = rw k (ap (λ (items : List ValType). Ok (items, start)) (append-nil front)) in
      sym so_far ∙ one
