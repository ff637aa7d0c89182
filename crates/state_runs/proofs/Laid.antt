-- A run laid over an older one.
use Rattle.std.proofs.Common.{◌≡◌, ℕ, inl, inr, true, false, cond, List, [], ◌∷◌, ◌++◌, Option, Some, None, refl, sym, ◌∙◌, ap, subst, true≢false}
use Rattle.std.specs.declared.cmp.Ordering.TheVariants.{Less}
use Rattle.std.specs.Option.{option_or}
use Rattle.std.specs.Ordering.{is_eq, is_lt}
use Rattle.kv_layers.specs.Bytes.{bytes_cmp}
use Rattle.kv_layers.specs.Next.{is_below}
use Rattle.kv_layers.specs.Rising.{KeysRise}
use Rattle.kv_layers.specs.declared.order.Order.TheVariants.{Ascending}
use Rattle.kv_layers.proofs.Keys.{less_of, comes_before-self}
use Rattle.state_runs.specs.Runs.{Run}
use Rattle.state_runs.specs.Places.{below, from, past}
use Rattle.state_runs.proofs.Keys.{same_key, is_itself, less_trans, not_same-less, not_same-greater, key_cases, not_less-cases, not_less-greater}
use Rattle.state_runs.proofs.Lists.{found, Above, rising_first, rising_rest, rising_of, above_less, above-append, found-other, found-above, found-append, or-none}

-- the changes of both, and at one key the newer one
abbrev pub laid_over : Run → Run → Run
laid_over [] older = below None older
laid_over (change ∷ newer) older = below (Some change.0) older ++ change ∷ laid_over newer (past change.0 (from (Some change.0) older))

above-below : (k : List ℕ) (end : Option (List ℕ)) (cs : Run) → Above k cs → Above k (below end cs)
above-below k end [] h = tt
above-below k end (c ∷ cs) h = elim (is_below end c.0) as (λ b. Above k (cond b (c ∷ below end cs) [])) [ true ↦ (h.0, above-below k end cs h.1) | false ↦ tt ]

above-from : (k : List ℕ) (end : Option (List ℕ)) (cs : Run) → Above k cs → Above k (from end cs)
above-from k end [] h = tt
above-from k end (c ∷ cs) h = elim (is_below end c.0) as (λ b. Above k (cond b (from end cs) (c ∷ cs))) [ true ↦ above-from k end cs h.1 | false ↦ h ]

above-past : (k q : List ℕ) (cs : Run) → Above k cs → Above k (past q cs)
above-past k q [] h = tt
above-past k q (c ∷ cs) h = elim (is_eq (bytes_cmp q c.0)) as (λ b. Above k (cond b cs (c ∷ cs))) [ true ↦ h.1 | false ↦ h ]

above-laid_over : (k : List ℕ) (newer older : Run) → Above k newer → Above k older → Above k (laid_over newer older)
above-laid_over k [] older h g = above-below k None older g
above-laid_over k (c ∷ newer) older h g =
    above-append k (below (Some c.0) older) (c ∷ laid_over newer (past c.0 (from (Some c.0) older))) (above-below k (Some c.0) older g)
    (h.0, above-laid_over k newer (past c.0 (from (Some c.0) older)) h.1 (above-past k c.0 (from (Some c.0) older) (above-from k (Some c.0) older g)))

rising-from : (end : Option (List ℕ)) (cs : Run) → KeysRise cs → KeysRise (from end cs)
rising-from end [] h = h
rising-from end (c ∷ cs) h = elim (is_below end c.0) as (λ b. KeysRise (cond b (from end cs) (c ∷ cs))) [ true ↦ rising-from end cs (rising_rest c cs h) | false ↦ h ]

rising-past : (q : List ℕ) (cs : Run) → KeysRise cs → KeysRise (past q cs)
rising-past q [] h = h
rising-past q (c ∷ cs) h = elim (is_eq (bytes_cmp q c.0)) as (λ b. KeysRise (cond b cs (c ∷ cs))) [ true ↦ rising_rest c cs h | false ↦ h ]

-- what is left past a key is above it
above_rest : (k : List ℕ) (cs : Run) → KeysRise cs → Above k (past k (from (Some k) cs))
above_rest k [] h = tt
above_rest k (c ∷ cs) h =
    elim (is_lt (bytes_cmp c.0 k)) as (λ b. is_lt (bytes_cmp c.0 k) ≡ b → Above k (past k (cond b (from (Some k) cs) (c ∷ cs)))) [
      | true ↦ λ _. above_rest k cs (rising_rest c cs h)
      | false ↦ λ e. elim (is_eq (bytes_cmp k c.0)) as (λ b. is_eq (bytes_cmp k c.0) ≡ b → Above k (cond b cs (c ∷ cs))) [
        | true ↦ λ t. subst (λ x. Above x cs) (sym (same_key k c.0 t)) (rising_first c cs h)
        | false ↦ λ t. elim (not_less-cases c.0 k e) [
          | inl same ↦ absurd (true≢false (sym (subst (λ x. is_eq (bytes_cmp k x) ≡ true) (sym same) (is_itself k)) ∙ t))
          | inr lt ↦ (lt, above_less k c.0 cs lt (rising_first c cs h))
        ]
      ] refl
    ] refl

below-none : (cs : Run) → below None cs ≡ cs
below-none [] = refl
below-none (c ∷ cs) = ap (λ ds. c ∷ ds) (below-none cs)

rising-laid : (c : List ℕ × Option (List ℕ)) (older rest : Run) → KeysRise older → Above c.0 rest → KeysRise rest → KeysRise (below (Some c.0) older ++ c ∷ rest)
rising-laid c [] rest old above rising = rising_of c rest above rising
rising-laid c (o ∷ os) rest old above rising =
    elim (is_lt (bytes_cmp o.0 c.0)) as (λ b. is_lt (bytes_cmp o.0 c.0) ≡ b → KeysRise (cond b (o ∷ below (Some c.0) os) [] ++ c ∷ rest)) [
      | true ↦ λ e.
          let lt = less_of _ e in
          rising_of o (below (Some c.0) os ++ c ∷ rest)
          (above-append o.0 (below (Some c.0) os) (c ∷ rest) (above-below o.0 (Some c.0) os (rising_first o os old)) (lt, above_less o.0 c.0 rest lt above))
          (rising-laid c os rest (rising_rest o os old) above rising)
      | false ↦ λ _. rising_of c rest above rising
    ] refl

pub rising-laid_over : (newer older : Run) → KeysRise newer → KeysRise older → KeysRise (laid_over newer older)
rising-laid_over [] older new old = subst KeysRise (sym (below-none older)) old
rising-laid_over (c ∷ newer) older new old =
    let rest = past c.0 (from (Some c.0) older) in
    rising-laid c older (laid_over newer rest) old (above-laid_over c.0 newer rest (rising_first c newer new) (above_rest c.0 older old))
    (rising-laid_over newer rest (rising_rest c newer new) (rising-past c.0 (from (Some c.0) older) (rising-from (Some c.0) older old)))

-- a key that isn't below the bound is not among what is
found-below_none : (q k : List ℕ) (cs : Run) → is_lt (bytes_cmp q k) ≡ false → found q (below (Some k) cs) ≡ None
found-below_none q k [] h = refl
found-below_none q k (c ∷ cs) h =
    elim (is_lt (bytes_cmp c.0 k)) as (λ b. is_lt (bytes_cmp c.0 k) ≡ b → found q (cond b (c ∷ below (Some k) cs) []) ≡ None) [
      | true ↦ λ e.
          let other : is_eq (bytes_cmp q c.0) ≡ false = elim (is_eq (bytes_cmp q c.0)) as (λ b. is_eq (bytes_cmp q c.0) ≡ b → b ≡ false) [
            | true ↦ λ t. absurd (true≢false (sym (subst (λ x. is_lt (bytes_cmp x k) ≡ true) (sym (same_key q c.0 t)) e) ∙ h))
            | false ↦ λ _. refl
          ] refl in
          found-other q c (below (Some k) cs) other ∙ found-below_none q k cs h
      | false ↦ λ _. refl
    ] refl

-- a key below the bound is among what is below it, or nowhere
found-below : (q k : List ℕ) (cs : Run) → KeysRise cs → bytes_cmp q k ≡ Less → found q (below (Some k) cs) ≡ found q cs
found-below q k [] rising lt = refl
found-below q k (c ∷ cs) rising lt =
    elim (is_lt (bytes_cmp c.0 k)) as (λ b. is_lt (bytes_cmp c.0 k) ≡ b → found q (cond b (c ∷ below (Some k) cs) []) ≡ found q (c ∷ cs)) [
      | true ↦ λ _. ap (cond (is_eq (bytes_cmp q c.0)) (Some c.1)) (found-below q k cs (rising_rest c cs rising) lt)
      | false ↦ λ e.
          let less : bytes_cmp q c.0 ≡ Less = elim (not_less-cases c.0 k e) [ inl same ↦ subst (λ x. bytes_cmp q x ≡ Less) (sym same) lt | inr above ↦ less_trans q k c.0 lt above ] in
          sym (found-above q (c ∷ cs) (less, above_less q c.0 cs less (rising_first c cs rising)))
    ] refl

-- a key above the bound is among what is left past it
found-rest : (q k : List ℕ) (cs : Run) → bytes_cmp k q ≡ Less → found q (past k (from (Some k) cs)) ≡ found q cs
found-rest q k [] lt = refl
found-rest q k (c ∷ cs) lt =
    elim (is_lt (bytes_cmp c.0 k)) as (λ b. is_lt (bytes_cmp c.0 k) ≡ b → found q (past k (cond b (from (Some k) cs) (c ∷ cs))) ≡ found q (c ∷ cs)) [
      | true ↦ λ e. found-rest q k cs lt ∙ sym (found-other q c cs (not_same-greater q c.0 (less_trans c.0 k q (less_of _ e) lt)))
      | false ↦ λ _. elim (is_eq (bytes_cmp k c.0)) as (λ b. is_eq (bytes_cmp k c.0) ≡ b → found q (cond b cs (c ∷ cs)) ≡ found q (c ∷ cs)) [
        | true ↦ λ t. sym (found-other q c cs (not_same-greater q c.0 (subst (λ x. bytes_cmp x q ≡ Less) (same_key k c.0 t) lt)))
        | false ↦ λ _. refl
      ] refl
    ] refl

found-step : (q : List ℕ) (c : List ℕ × Option (List ℕ)) (newer older : Run) → KeysRise (c ∷ newer) → KeysRise older → option_or (found q (below (Some c.0) older)) (cond (is_eq (bytes_cmp q c.0)) (Some c.1) (option_or (found q newer) (found q (past c.0 (from (Some c.0) older))))) ≡ option_or (cond (is_eq (bytes_cmp q c.0)) (Some c.1) (found q newer)) (found q older)
found-step q c newer older new old = elim (key_cases q c.0) [
  | inl lt ↦
      let other = not_same-less q c.0 lt in
      let no_newer = found-above q newer (above_less q c.0 newer lt (rising_first c newer new)) in
      let no_rest = found-above q (past c.0 (from (Some c.0) older)) (above_less q c.0 (past c.0 (from (Some c.0) older)) lt (above_rest c.0 older old)) in
      rw (other, no_newer, no_rest) (or-none (found q (below (Some c.0) older)) ∙ found-below q c.0 older old lt)
  | inr (inl same) ↦
      let is : is_eq (bytes_cmp q c.0) ≡ true = subst (λ x. is_eq (bytes_cmp q x) ≡ true) same (is_itself q) in
      let none = found-below_none q c.0 older (subst (λ x. is_lt (bytes_cmp q x) ≡ false) same (comes_before-self Ascending q)) in
      rw (is, none) refl
  | inr (inr lt) ↦
      let other = not_same-greater q c.0 lt in
      let none = found-below_none q c.0 older (not_less-greater q c.0 lt) in
      rw (other, none) (ap (option_or (found q newer)) (found-rest q c.0 older lt))
]

pub found-laid_over : (newer older : Run) → KeysRise newer → KeysRise older → (q : List ℕ) → found q (laid_over newer older) ≡ option_or (found q newer) (found q older)
found-laid_over [] older new old q = ap (found q) (below-none older)
found-laid_over (c ∷ newer) older new old q =
    let rest = past c.0 (from (Some c.0) older) in
    let later = found-laid_over newer rest (rising_rest c newer new) (rising-past c.0 (from (Some c.0) older) (rising-from (Some c.0) older old)) q in
    found-append q (below (Some c.0) older) (c ∷ laid_over newer rest)
    ∙ ap (λ o. option_or (found q (below (Some c.0) older)) (cond (is_eq (bytes_cmp q c.0)) (Some c.1) o)) later
    ∙ found-step q c newer older new old
