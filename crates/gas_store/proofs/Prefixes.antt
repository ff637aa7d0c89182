-- Bytes that begin with a prefix, in the order of bytes, and where they end.
use Rattle.std.proofs.Common.{◌≡◌, ◌≢◌, ◌⊎◌, inl, inr, ℕ, suc, ◌+◌, ◌<◌, true, cond, List, [], ◌∷◌, ◌++◌, get_or, refl, sym, ap, ◌∙◌, subst, arith}
use Rattle.std.specs.List.{AllByRecursion}
use Rattle.std.specs.declared.cmp.Ordering.{Ordering}
use Rattle.std.specs.declared.cmp.Ordering.TheVariants.{Less, Equal, Greater}
use Rattle.std.specs.Ordering.{nat_cmp, is_le, is_lt, ordering_then, MatchOrdering}
use Rattle.std.specs.Cmp.{tied_itself, ranked}
use Rattle.std.specs.Cmp.Lexicographic.{slice_cmp, nat_list_cmp_total}
use Rattle.chain_records.specs.Keys.{key_bytes}
use Rattle.gas_store.specs.Storage.{prefix_of}
use Rattle.std.proofs.lemmas.Cmp.{nat_cmp_total}
use Rattle.std.proofs.lemmas.Bool.Decides.{eqb_tells}
use Rattle.gas_store.specs.Ends.{end_behind, end_of}

abbrev pub AreBytes : List ℕ → Type 0
AreBytes bytes = AllByRecursion (λ b. b < 256) bytes

pub are_bytes : (bytes : List ℕ) → ((i : ℕ) → get_or bytes i 0 < 256) → AreBytes bytes
are_bytes [] h = tt
are_bytes (b ∷ bytes) h = (h 0, are_bytes bytes (λ i. h (suc i)))

pub cmp-prefix : (p x y : List ℕ) → slice_cmp nat_cmp (p ++ x) (p ++ y) ≡ slice_cmp nat_cmp x y
cmp-prefix [] x y = refl
cmp-prefix (b ∷ p) x y = ap (λ r. ordering_then r (slice_cmp nat_cmp (p ++ x) (p ++ y))) (tied_itself nat_cmp_total b) ∙ cmp-prefix p x y

pub least_le : (d : List ℕ) → is_le (slice_cmp nat_cmp [] d) ≡ true
least_le [] = refl
least_le (x ∷ d) = refl

-- ---- the end of a prefix

next_number : (b : ℕ) → nat_cmp b (b + 1) ≡ Less
next_number b = go (nat_cmp b (b + 1)) (ranked b (b + 1) _ refl)
  where
    go : (r : Ordering) → MatchOrdering r (b < b + 1) (b ≡ b + 1) (b + 1 < b) → r ≡ Less
    go Less m = refl
    go Equal m = absurd (omega arith)
    go Greater m = absurd (omega arith)

no_end : (b : ℕ) → b ≡ 255 → end_behind b [] ≡ []
no_end b e = ap (λ n. end_behind n []) e

an_end : (b : ℕ) → b ≢ 255 → end_behind b [] ≡ (b + 1) ∷ []
an_end b other = elim (eqb_tells b 255) [
  | inl p ↦ absurd (other p.1)
  | inr p ↦ ap (λ t. cond t [] ((b + 1) ∷ [])) p.0
]

pub below_end : (p x : List ℕ) → end_of p ≢ [] → slice_cmp nat_cmp (p ++ x) (end_of p) ≡ Less
below_end [] x some = absurd (some refl)
below_end (b ∷ p) x some = go (end_of p) some (below_end p x)
  where
    go : (e : List ℕ) → end_behind b e ≢ [] → (e ≢ [] → slice_cmp nat_cmp (p ++ x) e ≡ Less) → slice_cmp nat_cmp (b ∷ p ++ x) (end_behind b e) ≡ Less
    go [] some rest =
        let other : b ≢ 255 = λ is. some (no_end b is) in
        ap (slice_cmp nat_cmp (b ∷ p ++ x)) (an_end b other) ∙ ap (λ r. ordering_then r (slice_cmp nat_cmp (p ++ x) [])) (next_number b)
    go (c ∷ e) some rest = ap (λ r. ordering_then r (slice_cmp nat_cmp (p ++ x) (c ∷ e))) (tied_itself nat_cmp_total b) ∙ rest (λ is. absurd cc)

abbrev IsBelowEnd : List ℕ → List ℕ → Type 0
IsBelowEnd k e = (e ≡ []) ⊎ (slice_cmp nat_cmp k e ≡ Less)

-- bytes from a prefix on and below its end begin with it
begins_by : (p l k : List ℕ) → AreBytes k → is_le (slice_cmp nat_cmp (p ++ l) k) ≡ true → IsBelowEnd k (end_of p) → (x : List ℕ) × (k ≡ p ++ x)
begins_by [] l k are from below = (k, refl)
begins_by (b ∷ p) l [] are from below = absurd cc
begins_by (b ∷ p) l (y ∷ k) are from below = go (nat_cmp b y) (ranked b y _ refl) from (end_of p) below (begins_by p l k are.1)
  where
    -- a byte that is greater has passed the end
    past : b < y → (e : List ℕ) → IsBelowEnd (y ∷ k) (end_behind b e) → ⊥
    past less [] (inl none) = elim (eqb_tells b 255) [
      | inl p ↦ omega (arith, p.1, are.0)
      | inr p ↦ let some = sym (ap (λ t. cond t [] ((b + 1) ∷ [])) p.0) ∙ none in absurd cc
    ]
    past less [] (inr lower) = elim (eqb_tells b 255) [
      | inl p ↦ omega (arith, p.1, are.0)
      | inr p ↦ over (nat_cmp y (b + 1)) (ranked y (b + 1) _ refl) k (subst (λ (e : List ℕ). slice_cmp nat_cmp (y ∷ k) e ≡ Less) (ap (λ t. cond t [] ((b + 1) ∷ [])) p.0) lower)
    ]
      where
        over : (r : Ordering) → MatchOrdering r (y < b + 1) (y ≡ b + 1) (b + 1 < y) → (z : List ℕ) → ordering_then r (slice_cmp nat_cmp z []) ≡ Less → ⊥
        over Less m z e = omega (arith, m, less)
        over Equal m [] e = absurd cc
        over Equal m (c ∷ z) e = absurd cc
        over Greater m z e = absurd cc
    past less (c ∷ e) (inl none) = absurd cc
    past less (c ∷ e) (inr lower) = over (nat_cmp y b) (ranked y b _ refl) lower
      where
        over : (r : Ordering) → MatchOrdering r (y < b) (y ≡ b) (b < y) → ordering_then r (slice_cmp nat_cmp k (c ∷ e)) ≡ Less → ⊥
        over Less m l = omega (arith, m, less)
        over Equal m l = omega (arith, m, less)
        over Greater m l = absurd cc

    inner : b ≡ y → (e : List ℕ) → IsBelowEnd (y ∷ k) (end_behind b e) → IsBelowEnd k e
    inner same [] below = inl refl
    inner same (c ∷ e) (inl none) = absurd cc
    inner same (c ∷ e) (inr lower) = inr (sym (ap (λ r. ordering_then r (slice_cmp nat_cmp k (c ∷ e))) (ap (nat_cmp y) same ∙ tied_itself nat_cmp_total y)) ∙ lower)

    go : (r : Ordering) → MatchOrdering r (b < y) (b ≡ y) (y < b) → is_le (ordering_then r (slice_cmp nat_cmp (p ++ l) k)) ≡ true → (e : List ℕ) → IsBelowEnd (y ∷ k) (end_behind b e)
        → (is_le (slice_cmp nat_cmp (p ++ l) k) ≡ true → IsBelowEnd k e → (x : List ℕ) × (k ≡ p ++ x)) → (x : List ℕ) × (y ∷ k ≡ b ∷ p ++ x)
    go Less m f e below rest = absurd (past m e below)
    go Equal m f e below rest = let r = rest f (inner m e below) in (r.0, λ i. sym m i ∷ r.1 i)
    go Greater m f e below rest = absurd cc

less_of : (r : Ordering) → is_lt r ≡ true → r ≡ Less
less_of Less e = refl
less_of Equal e = absurd cc
less_of Greater e = absurd cc

pub begins : (p l k : List ℕ) → AreBytes k → is_le (slice_cmp nat_cmp (p ++ l) k) ≡ true → is_lt (slice_cmp nat_cmp k (end_of p)) ≡ true → (x : List ℕ) × (k ≡ p ++ x)
begins p l k are from below = begins_by p l k are from (inr (less_of _ below))

-- ---- how the end is found

abbrev pub AreLast : List ℕ → Type 0
AreLast bytes = AllByRecursion (λ b. b ≡ 255) bytes

pub end_of_last : (bytes : List ℕ) → AreLast bytes → end_of bytes ≡ []
end_of_last [] are = refl
end_of_last (b ∷ bytes) are = ap (end_behind b) (end_of_last bytes are.1) ∙ no_end b are.0

pub end_middle : (q : List ℕ) (b : ℕ) (bytes : List ℕ) → b < 255 → AreLast bytes → end_of (q ++ b ∷ bytes) ≡ q ++ (b + 1) ∷ []
end_middle [] b bytes less are = ap (end_behind b) (end_of_last bytes are) ∙ an_end b (λ is. omega arith)
end_middle (c ∷ q) b bytes less are = ap (end_behind c) (end_middle q b bytes less are) ∙ kept q
  where
    kept : (r : List ℕ) → end_behind c (r ++ (b + 1) ∷ []) ≡ c ∷ r ++ (b + 1) ∷ []
    kept [] = refl
    kept (d ∷ r) = refl

-- what is below something that begins with the prefix is below its end
pub below_more : (p h k : List ℕ) → end_of p ≢ [] → is_lt (slice_cmp nat_cmp k (p ++ h)) ≡ true → is_lt (slice_cmp nat_cmp k (end_of p)) ≡ true
below_more p h k some lower = ap is_lt (nat_list_cmp_total.trans k (p ++ h) (end_of p) (less_of _ lower) (below_end p h some))

behind_some : (b : ℕ) (e : List ℕ) → b ≢ 255 → end_behind b e ≢ []
behind_some b [] other is = let some = sym (an_end b other) ∙ is in absurd cc
behind_some b (c ∷ e) other is = absurd cc

pub end_some : (addr : List ℕ) → end_of (prefix_of addr) ≢ []
unfolding key_bytes
end_some addr = behind_some 5 _ (λ is. omega (arith, is))
