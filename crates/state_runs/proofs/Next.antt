-- The first entry of the map of runs by the first change of the runs.
use Rattle.std.proofs.Common.{◌≡◌, ℕ, ◌+◌, ◌<◌, ◌≤◌, inl, inr, Bool, true, false, cond, ◌&&◌, List, [], ◌∷◌, Option, Some, None, refl, sym, ◌∙◌, ap, subst, arith}
use Rattle.std.specs.Option.{option_or}
use Rattle.std.specs.Ordering.{is_eq}
use Rattle.kv_layers.specs.declared.order.Order.{Order}
use Rattle.kv_layers.specs.Bytes.{bytes_cmp}
use Rattle.kv_layers.specs.Changes.{after_change}
use Rattle.kv_layers.specs.Next.{comes_before, is_within, IsNext}
use Rattle.kv_layers.proofs.Keys.{comes_before-cases, comes_before-self, first_of, both}
use Rattle.state_runs.specs.Runs.{Run, entry_in}
use Rattle.state_runs.proofs.Keys.{same_key}
use Rattle.state_runs.proofs.Lists.{found}

-- some bounds hold of the keys within other bounds that come after a key
abbrev pub AreNarrowed : Order → Option (List ℕ) → Option (List ℕ) → Option (List ℕ) → Option (List ℕ) → List ℕ → Type 0
AreNarrowed order lo hi low high key = (q : List ℕ) → is_within low high q ≡ (is_within lo hi q && comes_before order key q)

module _ (value : List ℕ → Option (List ℕ)) (entry : List ℕ → Option (Option (List ℕ))) (same : (q : List ℕ) → value q ≡ after_change (entry q) None) (order : Order) (lo hi : Option (List ℕ)) where
  pub IsNext-none : IsNext entry lo hi order None → IsNext value lo hi order None
  IsNext-none h q w = same q ∙ ap (λ c. after_change c None) (h q w)

  pub IsNext-value : (key bytes : List ℕ) → IsNext entry lo hi order (Some (key, Some bytes)) → IsNext value lo hi order (Some (key, bytes))
  IsNext-value key bytes h = (h.0, same key ∙ ap (λ c. after_change c None) h.1, λ q w before. same q ∙ ap (λ c. after_change c None) (h.2 q w before))

  -- of the keys within the bounds only those after a removed first one can have a value
  none-other : (key : List ℕ) → IsNext entry lo hi order (Some (key, None)) → (q : List ℕ) → is_within lo hi q ≡ true → (comes_before order key q ≡ true → value q ≡ None) → value q ≡ None
  none-other key h q w later = elim (comes_before-cases order q key) [
    | inl before ↦ same q ∙ ap (λ c. after_change c None) (h.2 q w before)
    | inr (inl is) ↦ ap value is ∙ same key ∙ ap (λ c. after_change c None) h.1
    | inr (inr after) ↦ later after
  ]

  -- past a removed key the next entry is the first one
  pub IsNext-removed : (key : List ℕ) (low high : Option (List ℕ)) → IsNext entry lo hi order (Some (key, None)) → AreNarrowed order lo hi low high key → (r : Option (List ℕ × List ℕ)) → IsNext value low high order r → IsNext value lo hi order r
  IsNext-removed key low high h narrowed None next = λ q w. none-other key h q w (λ after. next q (narrowed q ∙ both _ _ w after))
  IsNext-removed key low high h narrowed (Some e) next = (
    first_of _ _ (sym (narrowed e.0) ∙ next.0),
    next.1,
    λ q w before. none-other key h q w (λ after. next.2 q (narrowed q ∙ both _ _ w after) before),
  )

-- how many changes of a run are at keys that pass the test
abbrev pub count_keys : (List ℕ → Bool) → Run → ℕ
count_keys test [] = 0
count_keys test (c ∷ cs) = cond (test c.0) 1 0 + count_keys test cs

-- and of all runs
abbrev pub count_all : (List ℕ → Bool) → List Run → ℕ
count_all test [] = 0
count_all test (run ∷ runs) = count_keys test run + count_all test runs

module _ (old new : List ℕ → Bool) (key : List ℕ) (fewer : (q : List ℕ) → new q ≡ true → old q ≡ true) (was : old key ≡ true) (out : new key ≡ false) where
  one : (q : List ℕ) → cond (new q) 1 0 ≤ cond (old q) 1 0
  one q = elim (new q) as (λ b. new q ≡ b → cond b 1 0 ≤ cond (old q) 1 0) [
    | true ↦ λ e. rw (fewer q e) (omega arith)
    | false ↦ λ _. omega arith
  ] refl

  keys-fewer : (cs : Run) → count_keys new cs ≤ count_keys old cs
  keys-fewer [] = omega arith
  keys-fewer (c ∷ cs) = omega (arith, one c.0, keys-fewer cs)

  keys-less : (cs : Run) (value : Option (List ℕ)) → found key cs ≡ Some value → count_keys new cs < count_keys old cs
  keys-less [] value e = cc
  keys-less (c ∷ cs) value e =
      elim (is_eq (bytes_cmp key c.0)) as (λ b. is_eq (bytes_cmp key c.0) ≡ b → cond b (Some c.1) (found key cs) ≡ Some value → count_keys new (c ∷ cs) < count_keys old (c ∷ cs)) [
        | true ↦ λ t _.
            let is = same_key key c.0 t in
            let gone = subst (λ k. new k ≡ false) is out in
            let held = subst (λ k. old k ≡ true) is was in
            let f = keys-fewer cs in
            rw (gone, held) (omega arith)
        | false ↦ λ _ rest. omega (arith, one c.0, keys-less cs value rest)
      ] refl e

  all-fewer : (runs : List Run) → count_all new runs ≤ count_all old runs
  all-fewer [] = omega arith
  all-fewer (run ∷ runs) = omega (arith, keys-fewer run, all-fewer runs)

  pub all-less : (runs : List Run) (value : Option (List ℕ)) → entry_in runs key ≡ Some value → count_all new runs < count_all old runs
  all-less [] value e = cc
  all-less (run ∷ runs) value e =
      elim (found key run) as (λ o. found key run ≡ o → option_or o (entry_in runs key) ≡ Some value → count_all new (run ∷ runs) < count_all old (run ∷ runs)) [
        | Some v ↦ λ is _. omega (arith, keys-less run v is, all-fewer runs)
        | None ↦ λ _ rest. omega (arith, keys-fewer run, all-less runs value rest)
      ] refl e

-- past a removed key fewer changes are left
pub fewer-left : (order : Order) (lo hi low high : Option (List ℕ)) (key : List ℕ) (runs : List Run) (value : Option (List ℕ)) → is_within lo hi key ≡ true → AreNarrowed order lo hi low high key → entry_in runs key ≡ Some value → count_all (is_within low high) runs < count_all (is_within lo hi) runs
fewer-left order lo hi low high key runs value within narrowed is =
    let out : is_within low high key ≡ false = narrowed key ∙ ap (λ b. b && comes_before order key key) within ∙ comes_before-self order key in
    all-less (is_within lo hi) (is_within low high) key (λ q e. first_of _ _ (sym (narrowed q) ∙ e)) within out runs value is
