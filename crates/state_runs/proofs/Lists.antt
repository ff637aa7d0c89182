-- Changes whose keys rise, and what they have at a key.
use Rattle.std.proofs.Common.{◌≡◌, ℕ, Bool, true, false, cond, List, [], ◌∷◌, ◌++◌, map, Option, Some, None, is_some, refl, sym, ◌∙◌, ap, subst}
use Rattle.std.specs.declared.cmp.Ordering.TheVariants.{Less}
use Rattle.std.specs.Option.{option_or}
use Rattle.std.specs.Ordering.{is_eq, nat_cmp}
use Rattle.std.specs.Cmp.Lexicographic.{slice_cmp}
use Rattle.std.specs.FinMap.{find}
use Rattle.std.specs.List.{AllByRecursion, filter}
use Rattle.std.specs.List.Sorted.{IsStrictlySortedBy}
use Rattle.kv_layers.specs.Bytes.{bytes_cmp}
use Rattle.kv_layers.specs.Rising.{KeysRise}
use Rattle.state_runs.specs.Runs.{Run, entry_in}
use Rattle.state_runs.proofs.Keys.{same_key, less_trans, not_same-less}

abbrev pub found : List ℕ → Run → Option (Option (List ℕ))
found q changes = find (slice_cmp nat_cmp) q changes

-- all keys are above this one
abbrev pub Above : List ℕ → Run → Type 0
Above key changes = AllByRecursion (λ y. bytes_cmp key y ≡ Less) (map (λ e. e.0) changes)

pub rising_none : KeysRise []
unfolding IsStrictlySortedBy
rising_none = tt

pub rising_first : (c : List ℕ × Option (List ℕ)) (cs : Run) → KeysRise (c ∷ cs) → Above c.0 cs
unfolding IsStrictlySortedBy
rising_first c cs h = h.0

pub rising_rest : (c : List ℕ × Option (List ℕ)) (cs : Run) → KeysRise (c ∷ cs) → KeysRise cs
unfolding IsStrictlySortedBy
rising_rest c cs h = h.1

pub rising_of : (c : List ℕ × Option (List ℕ)) (cs : Run) → Above c.0 cs → KeysRise cs → KeysRise (c ∷ cs)
unfolding IsStrictlySortedBy
rising_of c cs p q = (p, q)

pub above_less : (k l : List ℕ) (cs : Run) → bytes_cmp k l ≡ Less → Above l cs → Above k cs
above_less k l [] lt h = tt
above_less k l (c ∷ cs) lt h = (less_trans k l c.0 lt h.0, above_less k l cs lt h.1)

pub above-append : (k : List ℕ) (xs ys : Run) → Above k xs → Above k ys → Above k (xs ++ ys)
above-append k [] ys h g = g
above-append k (x ∷ xs) ys h g = (h.0, above-append k xs ys h.1 g)

-- another key than the first one
pub found-other : (q : List ℕ) (c : List ℕ × Option (List ℕ)) (cs : Run) → is_eq (bytes_cmp q c.0) ≡ false → found q (c ∷ cs) ≡ found q cs
found-other q c cs e = ap (λ b. cond b (Some c.1) (found q cs)) e

pub found-same : (q : List ℕ) (c : List ℕ × Option (List ℕ)) (cs : Run) → is_eq (bytes_cmp q c.0) ≡ true → found q (c ∷ cs) ≡ Some c.1
found-same q c cs e = ap (λ b. cond b (Some c.1) (found q cs)) e

pub found-above : (q : List ℕ) (cs : Run) → Above q cs → found q cs ≡ None
found-above q [] h = refl
found-above q (c ∷ cs) h = found-other q c cs (not_same-less q c.0 h.0) ∙ found-above q cs h.1

-- a key that is found among keys above another is above it
pub above_found : (k q : List ℕ) (cs : Run) (v : Option (List ℕ)) → Above k cs → found q cs ≡ Some v → bytes_cmp k q ≡ Less
above_found k q [] v h e = cc
above_found k q (c ∷ cs) v h e =
    elim (is_eq (bytes_cmp q c.0)) as (λ b. is_eq (bytes_cmp q c.0) ≡ b → cond b (Some c.1) (found q cs) ≡ Some v → bytes_cmp k q ≡ Less) [
      | true ↦ λ t _. subst (λ x. bytes_cmp k x ≡ Less) (sym (same_key q c.0 t)) h.0
      | false ↦ λ _ rest. above_found k q cs v h.1 rest
    ] refl e

or-some : (b : Bool) (v : Option (List ℕ)) (x y : Option (Option (List ℕ))) → cond b (Some v) (option_or x y) ≡ option_or (cond b (Some v) x) y
or-some true v x y = refl
or-some false v x y = refl

pub found-append : (q : List ℕ) (xs ys : Run) → found q (xs ++ ys) ≡ option_or (found q xs) (found q ys)
found-append q [] ys = refl
found-append q (x ∷ xs) ys = ap (cond (is_eq (bytes_cmp q x.0)) (Some x.1)) (found-append q xs ys) ∙ or-some (is_eq (bytes_cmp q x.0)) x.1 (found q xs) (found q ys)

or-or : (x y z : Option (Option (List ℕ))) → option_or x (option_or y z) ≡ option_or (option_or x y) z
or-or None y z = refl
or-or (Some v) y z = refl

pub or-none : (x : Option (Option (List ℕ))) → option_or x None ≡ x
or-none None = refl
or-none (Some v) = refl

pub entry_in-append : (q : List ℕ) (xs ys : List Run) → entry_in (xs ++ ys) q ≡ option_or (entry_in xs q) (entry_in ys q)
entry_in-append q [] ys = refl
entry_in-append q (x ∷ xs) ys = ap (option_or (found q x)) (entry_in-append q xs ys) ∙ or-or (found q x) (entry_in xs q) (entry_in ys q)

pub entry_in-push : (q : List ℕ) (runs : List Run) (run : Run) → entry_in (runs ++ run ∷ []) q ≡ option_or (entry_in runs q) (found q run)
entry_in-push q runs run = entry_in-append q runs (run ∷ []) ∙ ap (option_or (entry_in runs q)) (or-none (found q run))

-- without the removals
abbrev pub kept : Option (Option (List ℕ)) → Option (Option (List ℕ))
kept None = None
kept (Some None) = None
kept (Some (Some value)) = Some (Some value)

abbrev pub values_of : Run → Run
values_of changes = filter (λ change. is_some change.1) changes

above-filter : (k : List ℕ) (cs : Run) → Above k cs → Above k (values_of cs)
above-filter k [] h = tt
above-filter k (c ∷ cs) h = elim (is_some c.1) as (λ b. Above k (cond b (c ∷ values_of cs) (values_of cs))) [ true ↦ (h.0, above-filter k cs h.1) | false ↦ above-filter k cs h.1 ]

pub rising-values : (cs : Run) → KeysRise cs → KeysRise (values_of cs)
rising-values [] h = h
rising-values (c ∷ cs) h =
    elim (is_some c.1) as (λ b. KeysRise (cond b (c ∷ values_of cs) (values_of cs))) [
      | true ↦ rising_of c (values_of cs) (above-filter c.0 cs (rising_first c cs h)) (rising-values cs (rising_rest c cs h))
      | false ↦ rising-values cs (rising_rest c cs h)
    ]

pub found-values : (q : List ℕ) (cs : Run) → KeysRise cs → found q (values_of cs) ≡ kept (found q cs)
found-values q [] h = refl
found-values q ((key, None) ∷ cs) h =
    found-values q cs (rising_rest (key, None) cs h)
    ∙ elim (is_eq (bytes_cmp q key)) as (λ b. is_eq (bytes_cmp q key) ≡ b → kept (found q cs) ≡ kept (cond b (Some None) (found q cs))) [
      | true ↦ λ e. ap kept (found-above q cs (subst (λ k. Above k cs) (sym (same_key q key e)) (rising_first (key, None) cs h)))
      | false ↦ λ _. refl
    ] refl
found-values q ((key, Some value) ∷ cs) h =
    elim (is_eq (bytes_cmp q key)) as (λ b. cond b (Some (Some value)) (found q (values_of cs)) ≡ kept (cond b (Some (Some value)) (found q cs))) [
      | true ↦ refl
      | false ↦ found-values q cs (rising_rest (key, Some value) cs h)
    ]
