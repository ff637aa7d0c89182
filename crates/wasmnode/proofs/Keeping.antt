-- A buffer of what stands at the newest heights, as a height is added and as one is looked up.
use Rattle.std.proofs.Common.{◌≡◌, ◌∙◌, ℕ, ◌+◌, ◌-◌, ◌<◌, ◌≤◌, ◌⊎◌, inl, inr, Bool, true, false, List, [], ◌∷◌, ◌++◌, length, get_or, drop, Option, None, Some, slice_get, sym, ap, subst, refl, arith, length-append, length-drop}
use Rattle.std.specs.Prelude.{nat_lt, if◌then◌else◌}
use Rattle.std.proofs.lemmas.Bool.{ltb-true, ltb-false}
use Rattle.std.proofs.lemmas.List.{get_or-drop, get_or_append_left}
use Rattle.std.proofs.lemmas.Option.{slice_get_within, get_or_from_slice_get, slice_get_read, slice_get-get_or}
use Rattle.std.proofs.Math.Nat.{eq-or-lt_of_le}
use Rattle.std.proofs.Math.Seq.{get_or-append_seam}
use Rattle.circular_buffer.specs.Buffer.{Buffer, buffer, keep_last}
use Rattle.wasmnode.specs.Kept.{Keeps}

module _ {X : Type 0} where
  -- ---- a height is added

  -- an item among the last, by its place among all
  kept_at : (d : ℕ) (xs : List X) (place : ℕ) (x : X) → slice_get (drop d xs) place ≡ Some x → (d + place < length xs) × (get_or xs (d + place) x ≡ x)
  kept_at d xs place x is =
      let low = slice_get_within (drop d xs) place x is in
      let short = length-drop d xs in
      (omega (arith, low, short), sym (get_or-drop d xs place x) ∙ get_or_from_slice_get (drop d xs) place x x is)

  -- an item of a list with one more is an earlier one, or that one
  of_added : (xs : List X) (y : X) (k : ℕ) (x : X) → k ≤ length xs → get_or (xs ++ y ∷ []) k x ≡ x → (slice_get xs k ≡ Some x) ⊎ ((k ≡ length xs) × (x ≡ y))
  of_added xs y k x low is =
      elim (eq-or-lt_of_le low) [
        | inl e ↦ inr (e, sym is ∙ ap (λ i. get_or (xs ++ y ∷ []) i x) e ∙ get_or-append_seam xs y [] x)
        | inr l ↦ inl (slice_get_read xs (length xs) k x refl l (sym is ∙ get_or_append_left xs (y ∷ []) x k l))
      ]

  -- what held at the earlier heights holds there still, and the new item is that of the new height
  pub with_newest : (P Q : ℕ → X → Type 0) (keep n : ℕ) (old : Buffer X) (y : X) → Keeps P keep n old → ((height : ℕ) (x : X) → height ≤ n → P height x → Q height x) → Q (n + 1) y → Keeps Q keep (n + 1) (buffer (keep_last old.capacity (old.items ++ y ∷ [])) old.capacity)
  with_newest P Q keep n old y kept earlier newest =
      let xs = old.items ++ y ∷ [] in
      let d = length xs - old.capacity in
      let more : length xs ≡ length old.items + 1 = length-append old.items (y ∷ []) in
      let short : length (drop d xs) ≡ length xs - d = length-drop d xs in
      record {
        some = kept.some;
        room = kept.room;
        count = omega (arith, more, short, kept.some, kept.room, kept.count);
        each = λ place height x is e.
            let at = kept_at d xs place x is in
            let low : d + place ≤ length old.items = omega (arith, at.0, more) in
            elim (of_added old.items y (d + place) x low at.1) as (λ _. Q height x) [
              | inl found ↦
                  let within = slice_get_within old.items (d + place) x found in
                  let same : height + length old.items ≡ n + 1 + (d + place) = omega (arith, e, more, short, at.0) in
                  earlier height x (omega (arith, same, within)) (kept.each (d + place) height x found same)
              | inr last ↦
                  let new : height ≡ n + 1 = omega (arith, e, more, short, last.0) in
                  subst (Q height) (sym last.1) (subst (λ k. Q k y) (sym new) newest)
            ];
      }

  -- the first item of an empty buffer
  pub with_first : (P : ℕ → X → Type 0) (keep : ℕ) (y : X) → 1 ≤ keep → P 0 y → Keeps P keep 0 (buffer (keep_last keep (y ∷ [])) keep)
  with_first P keep y some first =
      let d = 1 - keep in
      let none : d ≡ 0 = omega (arith, some) in
      subst (λ k. Keeps P keep 0 (buffer (drop k (y ∷ [])) keep)) (sym none) (record {
        some = some;
        room = refl;
        count = omega (arith, some);
        each = λ place height x is e.
            let low = slice_get_within (y ∷ []) place x is in
            let at : place ≡ 0 = omega (arith, low) in
            let new : height ≡ 0 = omega (arith, e, at) in
            let one : Some y ≡ Some x = subst (λ k. slice_get (y ∷ []) k ≡ Some x) at is in
            let same : y ≡ x = cc in
            subst (λ k. P k x) (sym new) (subst (P 0) same first);
      })

  -- ---- a height is looked up

  if_some : (t : Bool) (o : Option X) (x : X) → Some x ≡ (if t then o else None) → (t ≡ true) × (o ≡ Some x)
  if_some true o x is = (refl, sym is)
  if_some false o x is = cc

  if_none : (t : Bool) (o : Option X) → None ≡ (if t then o else None) → (t ≡ false) ⊎ ((t ≡ true) × (None ≡ o))
  if_none true o is = inr (refl, is)
  if_none false o is = inl refl

  is_there : (xs : List X) (i : ℕ) → i < length xs → None ≡ slice_get xs i → ⊥
  is_there [] i low is = omega (arith, low)
  is_there (x ∷ xs) i low is =
      let found = slice_get-get_or (x ∷ xs) i x low in
      cc

  -- so many heights before the newest one
  pub found_back : (P : ℕ → X → Type 0) (keep n back height : ℕ) (b : Buffer X) (x : X) → Keeps P keep n b → height + back ≡ n → Some x ≡ (if nat_lt back (length b.items) then slice_get b.items (length b.items - back - 1) else None) → P height x × (n + 1 - keep ≤ height)
  found_back P keep n back height b x kept e is =
      let found = if_some (nat_lt back (length b.items)) (slice_get b.items (length b.items - back - 1)) x is in
      let low = ltb-true back (length b.items) found.0 in
      (kept.each (length b.items - back - 1) height x found.1 (omega (arith, e, low, kept.count)), omega (arith, e, low, kept.count))

  -- there is none only where it isn't kept any more
  pub missed_back : (P : ℕ → X → Type 0) (keep n back height : ℕ) (b : Buffer X) → Keeps P keep n b → height + back ≡ n → None ≡ (if nat_lt back (length b.items) then slice_get b.items (length b.items - back - 1) else None) → (height < n + 1 - keep) × (n + 1 - keep ≡ n + 1 - length b.items)
  missed_back P keep n back height b kept e is =
      elim (if_none (nat_lt back (length b.items)) (slice_get b.items (length b.items - back - 1)) is) [
        | inl out ↦
            let high = ltb-false back (length b.items) out in
            (omega (arith, e, high, kept.count), omega (arith, e, high, kept.count))
        | inr found ↦
            let low = ltb-true back (length b.items) found.0 in
            absurd (is_there b.items (length b.items - back - 1) (omega (arith, low)) found.1)
      ]

  -- the last item is that of the newest height
  pub newest_back : (P : ℕ → X → Type 0) (keep n : ℕ) (b : Buffer X) (x : X) → Keeps P keep n b → Some x ≡ slice_get b.items (length b.items - 1) → P n x
  newest_back P keep n b x kept is = kept.each (length b.items - 1) n x (sym is) (omega (arith, kept.some, kept.count))
