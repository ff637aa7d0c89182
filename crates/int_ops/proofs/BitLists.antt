-- Lemmas on lists of bits: their lengths, their numbers, and what the bit instructions make of them.
use Rattle.std.proofs.Common.{◌≡◌, ℕ, zero, suc, ◌+◌, ◌*◌, ◌/◌, ◌%◌, ◌^◌, ◌<◌, List, [], ◌∷◌, ◌++◌, length, take, drop, replicate, get_or, refl, sym, ap, ap₂, ◌∙◌, subst, arith, add-zero, suc-add, pow-suc, pow-add, mod-eq_of_lt, div-lt_iff_lt-mul, pow_pos}
use Rattle.std.proofs.Math.Nat.{zero-add, div-one, mod-one, div-div-eq-div-mul, mul-div_cancel, mul-mod_left}
use Rattle.std.proofs.Math.Arith.{mod-mul}
use Rattle.std.proofs.Math.Seq.{take-append_seam, drop-append_seam}
use Rattle.std.proofs.lemmas.List.{length-replicate}
use Rattle.int_ops.specs.Bits.{bits_of, number_of}

pub length-bits_of : (n i : ℕ) → length (bits_of n i) ≡ n
unfolding bits_of
length-bits_of zero i = refl
length-bits_of (suc n) i = ap suc (length-bits_of n (i / 2))

pub half_lt : (n i : ℕ) → i < 2 ^ suc n → i / 2 < 2 ^ n
half_lt n i h = (div-lt_iff_lt-mul (zero-lt-two)).1 (subst (λ (x : ℕ). i < x) (pow-suc 2 n) h)
  where
    zero-lt-two : 0 < 2
    zero-lt-two = omega arith

-- the lower m bits, and then the others
pub bits_of-add : (m r i : ℕ) → bits_of (m + r) i ≡ bits_of m i ++ bits_of r (i / 2 ^ m)
unfolding bits_of
bits_of-add zero r i = ap₂ bits_of (zero-add r) (sym (div-one i))
bits_of-add (suc m) r i =
    ap (λ (x : ℕ). bits_of x i) (suc-add m r)
    ∙ ap (λ (s : List ℕ). i % 2 ∷ s)
    (bits_of-add m r (i / 2)
    ∙ ap (λ (x : ℕ). bits_of m (i / 2) ++ bits_of r x)
    (div-div-eq-div-mul i 2 (2 ^ m) ∙ ap (λ (x : ℕ). i / x) (omega (arith, pow-suc 2 m))))

pub number_of-append : (xs ys : List ℕ) → number_of (xs ++ ys) ≡ number_of xs + 2 ^ length xs * number_of ys
unfolding number_of
number_of-append [] ys = omega arith
number_of-append (x ∷ xs) ys =
    let ih = number_of-append xs ys in rw (pow-suc 2 (length xs)) (omega (arith, ih))

pub number_of-bits_of : (n i : ℕ) → number_of (bits_of n i) ≡ i % 2 ^ n
unfolding bits_of number_of
number_of-bits_of zero i = sym (mod-one i)
number_of-bits_of (suc n) i =
    let low : i % (2 ^ n * 2) ≡ (i / 2 % 2 ^ n) * 2 + i % 2 = mod-mul i (pow_pos n) (omega arith) in
    rw (pow-suc 2 n) (omega (arith, low, number_of-bits_of n (i / 2)))

pub number_of-zeros : (k : ℕ) → number_of (replicate k 0) ≡ 0
unfolding number_of
number_of-zeros zero = refl
number_of-zeros (suc k) = omega (arith, number_of-zeros k)

pub number_of-ones : (k : ℕ) → number_of (replicate k 1) + 1 ≡ 2 ^ k
unfolding number_of
number_of-ones zero = refl
number_of-ones (suc k) = omega (arith, number_of-ones k, pow-suc 2 k)

pub take-bits_of : (m r i : ℕ) → take m (bits_of (m + r) i) ≡ bits_of m i
take-bits_of m r i =
    ap (take m) (bits_of-add m r i)
    ∙ ap (λ (x : ℕ). take x (bits_of m i ++ bits_of r (i / 2 ^ m))) (sym (length-bits_of m i))
    ∙ take-append_seam (bits_of m i) (bits_of r (i / 2 ^ m))

pub drop-bits_of : (m r i : ℕ) → drop m (bits_of (m + r) i) ≡ bits_of r (i / 2 ^ m)
drop-bits_of m r i =
    ap (drop m) (bits_of-add m r i)
    ∙ ap (λ (x : ℕ). drop x (bits_of m i ++ bits_of r (i / 2 ^ m))) (sym (length-bits_of m i))
    ∙ drop-append_seam (bits_of m i) (bits_of r (i / 2 ^ m))

-- bit m
pub get_or-bits_of : (n i m : ℕ) → m < n → get_or (bits_of n i) m 0 ≡ i / 2 ^ m % 2
unfolding bits_of
get_or-bits_of zero i m h = absurd (omega arith)
get_or-bits_of (suc n) i zero h = ap (λ (x : ℕ). x % 2) (sym (div-one i))
get_or-bits_of (suc n) i (suc m) h =
    get_or-bits_of n (i / 2) m (omega arith)
    ∙ ap (λ (x : ℕ). x % 2) (div-div-eq-div-mul i 2 (2 ^ m) ∙ ap (λ (x : ℕ). i / x) (omega (arith, pow-suc 2 m)))

-- the number of the upper bits of one that has no more than these
above_lt : (k r i : ℕ) → i < 2 ^ (k + r) → i / 2 ^ k < 2 ^ r
above_lt k r i h =
    (div-lt_iff_lt-mul (pow_pos k)).1
    (subst (λ (x : ℕ). i < x) (ap (λ (x : ℕ). 2 ^ x) (omega arith) ∙ pow-add 2 r k) h)

upper : (k r i : ℕ) → i < 2 ^ (k + r) → number_of (drop k (bits_of (k + r) i)) ≡ i / 2 ^ k
upper k r i h =
    ap number_of (drop-bits_of k r i) ∙ number_of-bits_of r (i / 2 ^ k) ∙ mod-eq_of_lt (above_lt k r i h)

lower : (k r i : ℕ) → number_of (take k (bits_of (k + r) i)) ≡ i % 2 ^ k
lower k r i = ap number_of (take-bits_of k r i) ∙ number_of-bits_of k i

length_upper : (k r i : ℕ) → length (drop k (bits_of (k + r) i)) ≡ r
length_upper k r i = ap length (drop-bits_of k r i) ∙ length-bits_of r (i / 2 ^ k)

-- a product with a power, cut off
shifted : (i k r : ℕ) → i * 2 ^ k % 2 ^ (r + k) ≡ (i % 2 ^ r) * 2 ^ k
shifted i k r =
    ap (λ (x : ℕ). i * 2 ^ k % x) (pow-add 2 r k)
    ∙ mod-mul (i * 2 ^ k) (pow_pos r) (pow_pos k)
    ∙ ap₂ (λ (x y : ℕ). (x % 2 ^ r) * 2 ^ k + y) (mul-div_cancel i (pow_pos k)) (mul-mod_left i (2 ^ k))
    ∙ add-zero ((i % 2 ^ r) * 2 ^ k)

-- ---- shifts and rotations by k of n bits, where r more are left

shl_sum : (k r i : ℕ) → number_of (replicate k 0 ++ take r (bits_of (r + k) i)) ≡ i * 2 ^ k % 2 ^ (r + k)
shl_sum k r i =
    number_of-append (replicate k 0) (take r (bits_of (r + k) i))
    ∙ ap₂ (λ (x y : ℕ). x + 2 ^ y * number_of (take r (bits_of (r + k) i))) (number_of-zeros k) (length-replicate k 0)
    ∙ ap (λ (x : ℕ). 0 + 2 ^ k * x) (lower r k i)
    ∙ omega (arith, shifted i k r)

pub shl_is : (n k r i : ℕ) → r + k ≡ n → number_of (replicate k 0 ++ take r (bits_of n i)) ≡ i * 2 ^ k % 2 ^ n
shl_is n k r i e =
    subst (λ (x : ℕ). number_of (replicate k 0 ++ take r (bits_of x i)) ≡ i * 2 ^ k % 2 ^ x) e (shl_sum k r i)

-- the upper bits, and then others
upper_then : (k r i : ℕ) (others : List ℕ) → i < 2 ^ (k + r)
    → number_of (drop k (bits_of (k + r) i) ++ others) ≡ i / 2 ^ k + 2 ^ r * number_of others
upper_then k r i others h =
    number_of-append (drop k (bits_of (k + r) i)) others
    ∙ ap₂ (λ (x y : ℕ). x + 2 ^ y * number_of others) (upper k r i h) (length_upper k r i)

pub upper_then_is : (n k r i : ℕ) (others : List ℕ) → k + r ≡ n → i < 2 ^ n
    → number_of (drop k (bits_of n i) ++ others) ≡ i / 2 ^ k + 2 ^ r * number_of others
upper_then_is n k r i others e =
    subst (λ (x : ℕ). i < 2 ^ x → number_of (drop k (bits_of x i) ++ others) ≡ i / 2 ^ k + 2 ^ r * number_of others) e
    (upper_then k r i others)

pub lower_is : (n k r i : ℕ) → k + r ≡ n → number_of (take k (bits_of n i)) ≡ i % 2 ^ k
lower_is n k r i e = subst (λ (x : ℕ). number_of (take k (bits_of x i)) ≡ i % 2 ^ k) e (lower k r i)

pub above_is : (n k r i : ℕ) → k + r ≡ n → i < 2 ^ n → i / 2 ^ k < 2 ^ r
above_is n k r i e = subst (λ (x : ℕ). i < 2 ^ x → i / 2 ^ k < 2 ^ r) e (above_lt k r i)

pub shifted_is : (n k r i : ℕ) → r + k ≡ n → i * 2 ^ k % 2 ^ n ≡ (i % 2 ^ r) * 2 ^ k
shifted_is n k r i e = subst (λ (x : ℕ). i * 2 ^ k % 2 ^ x ≡ (i % 2 ^ r) * 2 ^ k) e (shifted i k r)
