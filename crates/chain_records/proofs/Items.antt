-- Reading and writing items one after the other, as a loop does.
use Rattle.std.proofs.Common.{◌≡◌, ℕ, suc, ◌-◌, ◌+◌, ◌≤◌, ◌<◌, ◌^◌, List, [], ◌∷◌, ◌++◌, Option, Some, None, refl, sym, ap, ◌∙◌, append_assoc, arith, subst, length}
use Rattle.std.specs.List.{flat_map, AllByRecursion}
use Rattle.std.proofs.lemmas.List.{append-nil}
use Rattle.std.proofs.lemmas.List.Concat.{flat_map-cons}
use Rattle.chain_records.specs.declared.fault.Stop.{Stop}
use Rattle.chain_records.specs.declared.fault.Stop.TheVariants.{Unreadable, NoMemory}
use Rattle.chain_records.specs.Pieces.{be8, listed, AreListed}
use Rattle.chain_records.specs.Puts.{Puts}
use Rattle.chain_records.specs.Reading.{◌>>=◌, Fails, items_at}

-- items that were read before, and those that are still read
abbrev pub with_items : {A : Type 0} → List A → Option (List A × List ℕ) → Option (List A × List ℕ)
with_items front read = read >>= λ x. Some (front ++ x.0, x.1)

regroup : {A : Type 0} (front : List A) (a : A) (read : Option (List A × List ℕ))
    → with_items front (read >>= λ x. Some (a ∷ x.0, x.1)) ≡ with_items (front ++ a ∷ []) read
regroup front a (Some x) = ap (λ (items : List _). Some (items, x.1)) (simp append_assoc)
regroup front a None = refl

pub starts : {A : Type 0} (read : List ℕ → Option (A × List ℕ)) (count : ℕ) (bytes : List ℕ) → with_items [] (items_at read (count - 0) bytes) ≡ items_at read count bytes
starts read count bytes = let k : count - 0 ≡ count = omega arith in ap (λ (n : ℕ). with_items [] (items_at read n bytes)) k ∙ with_nothing (items_at read count bytes)
  where
    with_nothing : {A : Type 0} (given : Option (List A × List ℕ)) → with_items [] given ≡ given
    with_nothing (Some x) = refl
    with_nothing None = refl

module _ {A : Type 0} (read : List ℕ → Option (A × List ℕ)) (front : List A) (count i : ℕ) (bytes : List ℕ) (total : Option (List A × List ℕ)) where
  pub goes_on : (a : A) (after : List ℕ) → i < count → read bytes ≡ Some (a, after)
      → with_items front (items_at read (count - i) bytes) ≡ total → with_items (front ++ a ∷ []) (items_at read (count - (i + 1)) after) ≡ total
  unfolding items_at
  goes_on a after lt h so_far =
      let k : count - i ≡ suc (count - (i + 1)) = omega arith in
      let one : with_items front (items_at read (count - i) bytes) ≡ with_items (front ++ a ∷ []) (items_at read (count - (i + 1)) after) = rw (k, h) (regroup front a (items_at read (count - (i + 1)) after)) in
      sym one ∙ so_far

  pub fails : (e : Stop) → i < count → Fails e (read bytes) → with_items front (items_at read (count - i) bytes) ≡ total → Fails e total
  unfolding items_at
  fails NoMemory lt h so_far = tt
  fails Unreadable lt h so_far =
      let k : count - i ≡ suc (count - (i + 1)) = omega arith in
      let one : with_items front (items_at read (count - i) bytes) ≡ None = rw (k, h) refl in
      sym so_far ∙ one

  pub is_done : count ≤ i → with_items front (items_at read (count - i) bytes) ≡ total → total ≡ Some (front, bytes)
  unfolding items_at
  is_done le so_far =
      let k : count - i ≡ 0 = omega arith in
      let one : with_items front (items_at read (count - i) bytes) ≡ Some (front, bytes) = rw k (ap (λ (items : List A). Some (items, bytes)) (append-nil front)) in
      sym so_far ∙ one

-- What was written, and the items that are left, are the whole; and if these can be written, so can all items.
pub record Remains {A : Type 0} (written : A → List ℕ) (Is : A → Type 0) (items : List A) (whole new : List ℕ) (left : List A) : Type 0 where
  pub bytes : new ++ flat_map written left ≡ whole
  pub all : AllByRecursion Is left → AllByRecursion Is items

module _ {A : Type 0} {written : A → List ℕ} {Is : A → Type 0} {items : List A} where
  pub remains_all : (old new : List ℕ) (n : ℕ) → n ≡ length items → new ≡ old ++ be8 n → Remains written Is items ((old ++ be8 (length items)) ++ flat_map written items) new items
  remains_all old new n e is = record { bytes = ap (λ (t : List ℕ). t ++ flat_map written items) (is ∙ ap (λ (k : ℕ). old ++ be8 k) e); all = λ h. h }

  pub remains_more : {whole : List ℕ} (a : A) (left all_left : List A) (old new : List ℕ) → Puts written Is a old new → all_left ≡ a ∷ left → Remains written Is items whole old all_left → Remains written Is items whole new left
  remains_more a left all_left old new puts e so_far = record {
    bytes = ap (λ (t : List ℕ). t ++ flat_map written left) puts.after ∙ append_assoc old (written a) (flat_map written left) ∙ ap (λ (t : List ℕ). old ++ t) (sym (ap (flat_map written) e ∙ flat_map-cons written a left)) ∙ so_far.bytes;
    all = λ others. so_far.all (subst (AllByRecursion Is) (sym e) (puts.is, others));
  }

  pub remains_none : (old new : List ℕ) (left : List A) → left ≡ [] → length items < 2 ^ 64 → Remains written Is items ((old ++ be8 (length items)) ++ flat_map written items) new left → Puts (listed written) (AreListed Is) items old new
  unfolding listed
  remains_none old new left e small so_far = record {
    after = sym (append-nil new) ∙ ap (λ (l : List A). new ++ flat_map written l) (sym e) ∙ so_far.bytes ∙ append_assoc old (be8 (length items)) (flat_map written items);
    is = (small, so_far.all (subst (AllByRecursion Is) (sym e) tt));
  }
