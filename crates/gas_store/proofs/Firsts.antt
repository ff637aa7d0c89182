-- The first entry within bounds is that of the entries in order.
use Rattle.std.proofs.Common.{◌≡◌, ℕ, Bool, true, false, cond, ◌&&◌, List, [], ◌∷◌, Option, Some, None, refl, sym, ap, ◌∙◌}
use lib.Dec.{T}
use Rattle.std.specs.List.{filter}
use Rattle.std.specs.declared.cmp.Ordering.{Ordering}
use Rattle.std.specs.declared.cmp.Ordering.TheVariants.{Less, Equal, Greater}
use Rattle.std.specs.Ordering.{nat_cmp, is_lt, is_eq, eq_by_cmp}
use Rattle.std.specs.Cmp.{tied_itself}
use Rattle.std.specs.Cmp.Lexicographic.{slice_cmp, nat_list_cmp_total}
use Rattle.std.specs.FinMap.Entries.{find, is_sorted, below_all}
use Rattle.std.proofs.lemmas.Map.Lookups.{exact_bytes}
use Rattle.gas_store.specs.Scans.{Entry, head_of, last_of}

abbrev found_at : List ℕ → List Entry → Option (List ℕ)
found_at = find (slice_cmp nat_cmp)

first_part : (a b : Bool) → T (a && b) → T a
first_part true b p = tt
first_part false b p = p

second_part : (a b : Bool) → T (a && b) → T b
second_part true b p = p
second_part false b p = absurd p

less_of : (r : Ordering) → T (is_lt r) → r ≡ Less
less_of Less p = refl
less_of Equal p = absurd p
less_of Greater p = absurd p

equal_of : (r : Ordering) → is_eq r ≡ true → r ≡ Equal
equal_of Less e = absurd cc
equal_of Equal e = refl
equal_of Greater e = absurd cc

found_above : (k q v : List ℕ) (es : List Entry) → T (below_all (slice_cmp nat_cmp) k es) → found_at q es ≡ Some v → slice_cmp nat_cmp k q ≡ Less
found_above k q v [] above found = absurd cc
found_above k q v (e ∷ es) above found = go (eq_by_cmp (slice_cmp nat_cmp) q e.0) refl found (found_above k q v es (second_part _ _ above))
  where
    go : (b : Bool) → eq_by_cmp (slice_cmp nat_cmp) q e.0 ≡ b → cond b (Some e.1) (found_at q es) ≡ Some v → (found_at q es ≡ Some v → slice_cmp nat_cmp k q ≡ Less) → slice_cmp nat_cmp k q ≡ Less
    go true t f rest = ap (slice_cmp nat_cmp k) (exact_bytes q e.0 (equal_of _ t)) ∙ less_of _ (first_part _ _ above)
    go false t f rest = rest f

found_first : (e : Entry) (es : List Entry) → found_at e.0 (e ∷ es) ≡ Some e.1
found_first e es = ap (λ r. cond (is_eq r) (Some e.1) (found_at e.0 es)) (tied_itself nat_list_cmp_total e.0)

rest_none : (b : Bool) (v : List ℕ) (rest : Option (List ℕ)) → cond b (Some v) rest ≡ None → rest ≡ None
rest_none true v rest e = absurd cc
rest_none false v rest e = e

module _ (p : List ℕ → Bool) where
  abbrev passing : List Entry → List Entry
  passing es = filter (λ e. p e.0) es

  pub none_passes : (es : List Entry) → ((k : List ℕ) → p k ≡ true → found_at k es ≡ None) → passing es ≡ []
  none_passes [] none = refl
  none_passes (e ∷ es) none = go (p e.0) refl (none_passes es (λ k t. rest_none _ _ _ (none k t)))
    where
      go : (b : Bool) → p e.0 ≡ b → passing es ≡ [] → cond b (e ∷ passing es) (passing es) ≡ []
      go true t rest = let some = sym (found_first e es) ∙ none e.0 t in absurd cc
      go false t rest = rest

  pub least_passes : (es : List Entry) (x : Entry) → T (is_sorted (slice_cmp nat_cmp) es) → p x.0 ≡ true → found_at x.0 es ≡ Some x.1 → ((k : List ℕ) → p k ≡ true → is_lt (slice_cmp nat_cmp k x.0) ≡ true → found_at k es ≡ None)
      → head_of (passing es) ≡ Some x
  least_passes [] x sorted passes found before = absurd cc
  least_passes (e ∷ es) x sorted passes found before = go (eq_by_cmp (slice_cmp nat_cmp) x.0 e.0) refl found (λ f. least_passes es x (second_part _ _ sorted) passes f (λ k t lt. rest_none _ _ _ (before k t lt)))
    where
      drop : (b : Bool) → p e.0 ≡ b → slice_cmp nat_cmp e.0 x.0 ≡ Less → head_of (passing es) ≡ Some x → head_of (cond b (e ∷ passing es) (passing es)) ≡ Some x
      drop true t less rest = let some = sym (found_first e es) ∙ before e.0 t (ap is_lt less) in absurd cc
      drop false t less rest = rest

      go : (b : Bool) → eq_by_cmp (slice_cmp nat_cmp) x.0 e.0 ≡ b → cond b (Some e.1) (found_at x.0 es) ≡ Some x.1 → (found_at x.0 es ≡ Some x.1 → head_of (passing es) ≡ Some x) → head_of (passing (e ∷ es)) ≡ Some x
      go true t f rest =
          let same = exact_bytes x.0 e.0 (equal_of _ t) in
          let value : e.1 ≡ x.1 = cc f in
          ap (λ b. head_of (cond b (e ∷ passing es) (passing es))) (ap p (sym same) ∙ passes) ∙ (λ i. Some (sym same i, value i))
      go false t f rest = drop (p e.0) refl (found_above e.0 x.0 x.1 es (first_part _ _ sorted) f) (rest f)

  last_behind : (e x : Entry) (es : List Entry) → last_of es ≡ Some x → last_of (e ∷ es) ≡ Some x
  last_behind e x [] is = absurd cc
  last_behind e x (f ∷ es) is = is

  pub greatest_passes : (es : List Entry) (x : Entry) → T (is_sorted (slice_cmp nat_cmp) es) → p x.0 ≡ true → found_at x.0 es ≡ Some x.1 → ((k : List ℕ) → p k ≡ true → is_lt (slice_cmp nat_cmp x.0 k) ≡ true → found_at k es ≡ None)
      → last_of (passing es) ≡ Some x
  greatest_passes [] x sorted passes found after = absurd cc
  greatest_passes (e ∷ es) x sorted passes found after = go (eq_by_cmp (slice_cmp nat_cmp) x.0 e.0) refl found (λ f. greatest_passes es x (second_part _ _ sorted) passes f (λ k t lt. rest_none _ _ _ (after k t lt)))
    where
      keep : (b : Bool) → last_of (passing es) ≡ Some x → last_of (cond b (e ∷ passing es) (passing es)) ≡ Some x
      keep true rest = last_behind e x (passing es) rest
      keep false rest = rest

      later : slice_cmp nat_cmp x.0 e.0 ≡ Equal → (k : List ℕ) → p k ≡ true → (o : Option (List ℕ)) → found_at k es ≡ o → o ≡ None
      later same k t None is = refl
      later same k t (Some v) is =
          let above = found_above e.0 k v es (first_part _ _ sorted) is in
          let less = nat_list_cmp_total.congr x.0 e.0 k same ∙ above in
          sym is ∙ rest_none _ _ _ (after k t (ap is_lt less))

      go : (b : Bool) → eq_by_cmp (slice_cmp nat_cmp) x.0 e.0 ≡ b → cond b (Some e.1) (found_at x.0 es) ≡ Some x.1 → (found_at x.0 es ≡ Some x.1 → last_of (passing es) ≡ Some x) → last_of (passing (e ∷ es)) ≡ Some x
      go true t f rest =
          let same = exact_bytes x.0 e.0 (equal_of _ t) in
          let value : e.1 ≡ x.1 = cc f in
          let none = none_passes es (λ k u. later (equal_of _ t) k u (found_at k es) refl) in
          ap (λ b. last_of (cond b (e ∷ passing es) (passing es))) (ap p (sym same) ∙ passes) ∙ ap (λ (l : List Entry). last_of (e ∷ l)) none ∙ (λ i. Some (sym same i, value i))
      go false t f rest = keep (p e.0) (rest f)
