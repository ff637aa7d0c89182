-- The keys of one address's balances, in the order of bytes.
use Rattle.std.proofs.Common.{◌≡◌, ℕ, ◌<◌, ◌≤◌, Bool, true, false, ◌&&◌, ◌||◌, List, [], ◌∷◌, ◌++◌, length, refl, sym, ap, ◌∙◌, subst, arith, leb}
use Rattle.std.specs.declared.cmp.Ordering.{Ordering}
use Rattle.std.specs.declared.cmp.Ordering.TheVariants.{Less, Equal, Greater}
use Rattle.std.specs.Ordering.{nat_cmp, is_le, is_lt, ordering_then, ordering_reverse, MatchOrdering}
use Rattle.std.specs.Cmp.{tied_itself, ranked}
use Rattle.std.specs.Cmp.Lexicographic.{slice_cmp}
use Rattle.std.specs.FinMap.{nat_cmp-IsAntisymmetric}
use Rattle.std.proofs.lemmas.Cmp.{nat_cmp_total}
use Rattle.std.proofs.lemmas.Bool.Decides.{nat_tests}
use Rattle.std.specs.Int.{is_in_range}
use Rattle.coin_amounts.specs.Denom.{IsDenom}
use Rattle.chain_records.specs.Keys.{PlainKey, key_bytes}
use Rattle.chain_records.specs.Keys as keys

pub cmp-prefix : (p x y : List ℕ) → slice_cmp nat_cmp (p ++ x) (p ++ y) ≡ slice_cmp nat_cmp x y
cmp-prefix [] x y = refl
cmp-prefix (b ∷ p) x y = ap (λ r. ordering_then r (slice_cmp nat_cmp (p ++ x) (p ++ y))) (tied_itself nat_cmp_total b) ∙ cmp-prefix p x y

-- what lies between two bytes that begin with a prefix begins with it too
pub between : (p l h k : List ℕ) → is_le (slice_cmp nat_cmp (p ++ l) k) ≡ true → is_lt (slice_cmp nat_cmp k (p ++ h)) ≡ true → (x : List ℕ) × (k ≡ p ++ x)
between [] l h k from below = (k, refl)
between (b ∷ p) l h [] from below = absurd cc
between (b ∷ p) l h (y ∷ k) from below = go (nat_cmp b y) refl from (subst (λ r. is_lt (ordering_then r (slice_cmp nat_cmp k (p ++ h))) ≡ true) (nat_cmp_total.antisymm y b) below) (between p l h k)
  where
    go : (r : Ordering) → nat_cmp b y ≡ r → is_le (ordering_then r (slice_cmp nat_cmp (p ++ l) k)) ≡ true → is_lt (ordering_then (ordering_reverse r) (slice_cmp nat_cmp k (p ++ h))) ≡ true
        → (is_le (slice_cmp nat_cmp (p ++ l) k) ≡ true → is_lt (slice_cmp nat_cmp k (p ++ h)) ≡ true → (x : List ℕ) × (k ≡ p ++ x)) → (x : List ℕ) × (y ∷ k ≡ b ∷ p ++ x)
    go Less e f g rest = absurd cc
    go Greater e f g rest = absurd cc
    go Equal e f g rest =
        let r = rest f g in
        let same : b ≡ y = nat_cmp-IsAntisymmetric b y e in
        (r.0, λ i. sym same i ∷ r.1 i)

-- ---- the place of a balance

abbrev pub front : List ℕ → List ℕ
front addr = 1 ∷ length addr ∷ addr

pub place_of : (addr denom : List ℕ) → key_bytes (keys.balance addr denom) ≡ front addr ++ denom
unfolding key_bytes
place_of addr denom = refl

head_same : (a b : ℕ) (x y : List ℕ) → a ∷ x ≡ b ∷ y → a ≡ b
head_same a b x y e = cc

tail_same : (a b : ℕ) (x y : List ℕ) → a ∷ x ≡ b ∷ y → x ≡ y
tail_same a b x y e = cc

-- joined lists are the same where their fronts have the same length
pub joined_same : (a b x y : List ℕ) → length a ≡ length b → a ++ x ≡ b ++ y → (a ≡ b) × (x ≡ y)
joined_same [] [] x y n e = (refl, e)
joined_same [] (c ∷ b) x y n e = absurd (omega arith)
joined_same (c ∷ a) [] x y n e = absurd (omega arith)
joined_same (c ∷ a) (d ∷ b) x y n e =
    let rest = joined_same a b x y (omega arith) (tail_same c d (a ++ x) (b ++ y) e) in
    let same = head_same c d (a ++ x) (b ++ y) e in
    (λ i. same i ∷ rest.0 i, rest.1)

pub one_place : (a d addr x : List ℕ) → key_bytes (keys.balance a d) ≡ front addr ++ x → (a ≡ addr) × (d ≡ x)
unfolding key_bytes
one_place a d addr x e =
    let rest = tail_same 1 1 (length a ∷ a ++ d) (length addr ∷ addr ++ x) e in
    joined_same a addr d x (head_same (length a) (length addr) (a ++ d) (addr ++ x) rest) (tail_same (length a) (length addr) (a ++ d) (addr ++ x) rest)

-- what begins so is the key of a balance of the address
pub only_balance : (key : PlainKey) (addr x : List ℕ) → key_bytes key ≡ front addr ++ x → key ≡ keys.balance addr x
unfolding key_bytes
only_balance (keys.balance a d) addr x e = let same = one_place a d addr x e in λ i. keys.balance (same.0 i) (same.1 i)
only_balance keys.facts addr x e = let h = head_same _ _ _ _ e in absurd (omega arith)
only_balance keys.counters addr x e = let h = head_same _ _ _ _ e in absurd (omega arith)
only_balance (keys.supply d) addr x e = let h = head_same _ _ _ _ e in absurd (omega arith)
only_balance (keys.code id) addr x e = let h = head_same _ _ _ _ e in absurd (omega arith)
only_balance (keys.code_info id) addr x e = let h = head_same _ _ _ _ e in absurd (omega arith)
only_balance (keys.pin id) addr x e = let h = head_same _ _ _ _ e in absurd (omega arith)
only_balance (keys.contract a) addr x e = let h = head_same _ _ _ _ e in absurd (omega arith)
only_balance (keys.storage a k) addr x e = let h = head_same _ _ _ _ e in absurd (omega arith)

-- ---- denoms are short and begin with a letter

both_true : (a b : Bool) → (a && b) ≡ true → (a ≡ true) × (b ≡ true)
both_true true b e = (refl, e)
both_true false b e = absurd cc

letter_below : (b : ℕ) → (is_in_range 65 90 b || is_in_range 97 122 b) ≡ true → b < 255
letter_below b e = grind (arith, nat_tests)

pub denom_below : (denom : List ℕ) → IsDenom denom → is_lt (slice_cmp nat_cmp denom (255 ∷ [])) ≡ true
denom_below [] e = absurd cc
denom_below (b ∷ rest) e =
    let one = both_true _ _ e in
    let two = both_true _ _ one.0 in
    let three = both_true _ _ two.0 in
    go (nat_cmp b 255) (letter_below b three.0) (ranked b 255 _ refl)
  where
    go : (r : Ordering) → b < 255 → MatchOrdering r (b < 255) (b ≡ 255) (255 < b) → is_lt (ordering_then r (slice_cmp nat_cmp rest [])) ≡ true
    go Less h m = refl
    go Equal h m = absurd (omega arith)
    go Greater h m = absurd (omega arith)

within_length : (n : ℕ) → (leb n 127) ≡ true → n ≤ 127
within_length n e = grind (arith, nat_tests)

pub denom_short : (denom : List ℕ) → IsDenom denom → length denom ≤ 128
denom_short [] e = omega arith
denom_short (b ∷ rest) e =
    let one = both_true _ _ e in
    let two = both_true _ _ one.0 in
    let n = within_length (length rest) two.1 in
    omega arith
