-- The sum over the entries of a map, when the amount at one key changes.
use Rattle.std.proofs.Common.{◌≡◌, ℕ, ◌+◌, ◌≤◌, Bool, true, false, cond, not, List, [], ◌∷◌, Option, Some, None, refl, sym, ap, ◌∙◌, subst, arith, ◌&&◌, inl, inr, sum_by}
use lib.Dec.{T}
use Rattle.std.specs.declared.cmp.Ordering.{Ordering}
use Rattle.std.specs.declared.cmp.Ordering.TheVariants.{Less, Equal, Greater}
use Rattle.std.specs.Ordering.{is_eq, is_lt, eq_by_cmp}
use Rattle.std.specs.Cmp.{IsTotalOrder, alike_right, eq_by_cmp_equiv}
use Rattle.std.specs.FinMap.{FinMap, get, insert, remove, entries, entries_sorted, from_sorted, IsAntisymmetric, same_map, get-insert, get-remove, get-entries, get-from_sorted, entries-insert, entries-from_sorted}
use Rattle.std.specs.FinMap.Entries.{find, put, where_key, is_sorted, below_all, by_order, is_sorted-where_key, find-where_key}
use Rattle.std.proofs.lemmas.List.Sums.{sum_by-cons}
use Rattle.std.proofs.lemmas.Bool.Decides.{eqb_tells}
use Rattle.bank_ledger.specs.Amounts.{with_record}
use Rattle.bank_ledger.proofs.Orders.{equal_of}
use Rattle.bank_ledger.proofs.Records.{amount_of}

one_by_one : (b : Bool) (x rest : ℕ) → cond b (x + rest) rest ≡ cond b x 0 + rest
one_by_one true x rest = refl
one_by_one false x rest = omega arith

module _ {K : Type 0} {R : K → K → Ordering} (o : IsTotalOrder R) (exact : IsAntisymmetric R) where
  others : K → K → Bool
  others k q = not (eq_by_cmp R k q)

  -- ---- without a key

  kept_above : (k : K) (es : List (K × ℕ)) → T (below_all R k es) → where_key R (others k) es ≡ es
  unfolding others
  kept_above k [] h = refl
  kept_above k (e ∷ es) h = here (R k e.0) (kept_above k es (second _ _ h)) (first _ _ h)
    where
      first : (a b : Bool) → T (a && b) → T a
      first true b p = tt
      first false b p = p

      second : (a b : Bool) → T (a && b) → T b
      second true b p = p
      second false b p = absurd p

      here : (r : Ordering) → where_key R (others k) es ≡ es → T (is_lt r) → cond (not (is_eq r)) (e ∷ where_key R (others k) es) (where_key R (others k) es) ≡ e ∷ es
      here Less rest p = ap (λ l. e ∷ l) rest
      here Equal rest p = absurd p
      here Greater rest p = absurd p

  entries_removed : (m : FinMap R ℕ) (k : K) → entries (remove m k) ≡ where_key R (others k) (entries m)
  unfolding others
  entries_removed m k =
      let left = where_key R (others k) (entries m) in
      let sorted : T (is_sorted R left) = is_sorted-where_key R (others k) (entries m) (entries_sorted m) in
      let same : remove m k ≡ from_sorted left = same_map o exact (remove m k) (from_sorted left) (λ q.
      get-remove o m k q ∙ turned (eq_by_cmp R q k) (get m q) ∙ ap (λ b. cond (not b) (get m q) None) ((eq_by_cmp_equiv o).symm q k)
      ∙ ap (λ f. cond (others k q) f None) (get-entries m q)
      ∙ sym (find-where_key R (others k) q (λ x t. ap (λ r. not (is_eq r)) (sym (alike_right o q x k t))) (entries m))
      ∙ sym (get-from_sorted R left q sorted)) in
      ap entries same ∙ entries-from_sorted R left sorted
    where
      turned : (b : Bool) (x : Option ℕ) → cond b None x ≡ cond (not b) x None
      turned true x = refl
      turned false x = refl

  module _ (f : K × ℕ → ℕ) (nothing : (k : K) → f (k, 0) ≡ 0) where
    sum_without : (k : K) (es : List (K × ℕ)) → T (is_sorted R es) → sum_by f (where_key R (others k) es) + f (k, amount_of (find R k es)) ≡ sum_by f es
    unfolding others
    sum_without k [] h = omega (arith, nothing k)
    sum_without k (e ∷ es) h = here (eq_by_cmp R k e.0) refl (sum_without k es (second _ _ h))
      where
        first : (a b : Bool) → T (a && b) → T a
        first true b p = tt
        first false b p = p

        second : (a b : Bool) → T (a && b) → T b
        second true b p = p
        second false b p = absurd p

        here : (b : Bool) → eq_by_cmp R k e.0 ≡ b → sum_by f (where_key R (others k) es) + f (k, amount_of (find R k es)) ≡ sum_by f es
            → sum_by f (cond (not b) (e ∷ where_key R (others k) es) (where_key R (others k) es)) + f (k, amount_of (cond b (Some e.1) (find R k es))) ≡ sum_by f (e ∷ es)
        here true t without =
            let is : k ≡ e.0 = exact k e.0 (equal_of (R k e.0) t) in
            let rest : where_key R (others k) es ≡ es = kept_above k es (subst (λ (x : K). T (below_all R x es)) (sym is) (first _ _ h)) in
            let same : f (k, e.1) ≡ f e = ap (λ (x : K). f (x, e.1)) is in
            ap (λ l. sum_by f l + f (k, e.1)) rest ∙ ap (λ n. sum_by f es + n) same ∙ omega (arith, sum_by-cons f e es)
        here false t without = omega (arith, without, sum_by-cons f e es, sum_by-cons f e (where_key R (others k) es))

    pub sum_removed : (m : FinMap R ℕ) (k : K) → sum_by f (entries (remove m k)) + f (k, amount_of (get m k)) ≡ sum_by f (entries m)
    sum_removed m k =
        ap (λ l. sum_by f l + f (k, amount_of (get m k))) (entries_removed m k)
        ∙ ap (λ found. sum_by f (where_key R (others k) (entries m)) + f (k, amount_of found)) (get-entries m k)
        ∙ sum_without k (entries m) (entries_sorted m)

    -- ---- with a new key

    sum_put : (k : K) (v : ℕ) (es : List (K × ℕ)) → find R k es ≡ None → sum_by f (put R k v es) ≡ f (k, v) + sum_by f es
    sum_put k v [] none = sum_by-cons f (k, v) []
    sum_put k v (e ∷ es) none = here (R k e.0) none (sum_put k v es)
      where
        here : (r : Ordering) → cond (is_eq r) (Some e.1) (find R k es) ≡ None → (find R k es ≡ None → sum_by f (put R k v es) ≡ f (k, v) + sum_by f es) → sum_by f (by_order r ((k, v) ∷ e ∷ es) ((e.0, v) ∷ es) (e ∷ put R k v es)) ≡ f (k, v) + sum_by f (e ∷ es)
        here Less n rest = sum_by-cons f (k, v) (e ∷ es)
        here Equal n rest = absurd cc
        here Greater n rest = omega (arith, rest n, sum_by-cons f e es, sum_by-cons f e (put R k v es))

    inserted : (m : FinMap R ℕ) (k : K) (v : ℕ) → insert m k v ≡ insert (remove m k) k v
    inserted m k v = same_map o exact (insert m k v) (insert (remove m k) k v) (λ q.
        get-insert o m k v q ∙ twice (eq_by_cmp R q k) (Some v) (get m q)
        ∙ ap (cond (eq_by_cmp R q k) (Some v)) (sym (get-remove o m k q)) ∙ sym (get-insert o (remove m k) k v q))
      where
        twice : (b : Bool) (x y : Option ℕ) → cond b x y ≡ cond b x (cond b None y)
        twice true x y = refl
        twice false x y = refl

    gone : (m : FinMap R ℕ) (k : K) → find R k (entries (remove m k)) ≡ None
    gone m k = sym (get-entries (remove m k) k) ∙ get-remove o m k k ∙ ap (λ b. cond b None (get m k)) ((eq_by_cmp_equiv o).refl k)

    sum_inserted : (m : FinMap R ℕ) (k : K) (v : ℕ) → sum_by f (entries (insert m k v)) ≡ f (k, v) + sum_by f (entries (remove m k))
    sum_inserted m k v =
        ap (λ (n : FinMap R ℕ). sum_by f (entries n)) (inserted m k v) ∙ ap (sum_by f) (entries-insert o (remove m k) k v) ∙ sum_put k v (entries (remove m k)) (gone m k)

    pub sum_with_record : (m : FinMap R ℕ) (k : K) (n : ℕ) → sum_by f (entries (with_record m k n)) + f (k, amount_of (get m k)) ≡ sum_by f (entries m) + f (k, n)
    sum_with_record m k n = elim (eqb_tells n 0) [
      | inl p ↦
          let none : f (k, n) ≡ 0 = ap (λ x. f (k, x)) p.1 ∙ nothing k in
          ap (λ b. sum_by f (entries (cond b (remove m k) (insert m k n))) + f (k, amount_of (get m k))) p.0 ∙ omega (arith, sum_removed m k, none)
      | inr p ↦
          ap (λ b. sum_by f (entries (cond b (remove m k) (insert m k n))) + f (k, amount_of (get m k))) p.0 ∙ omega (arith, sum_removed m k, sum_inserted m k n)
    ]

    pub one_within : (m : FinMap R ℕ) (k : K) → f (k, amount_of (get m k)) ≤ sum_by f (entries m)
    one_within m k = omega (arith, sum_removed m k)
