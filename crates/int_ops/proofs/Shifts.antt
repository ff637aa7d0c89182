-- What the shifts and rotations of lists of bits are on whole numbers.
use Rattle.std.proofs.Common.{◌≡◌, ℕ, ◌+◌, ◌-◌, ◌*◌, ◌/◌, ◌%◌, ◌^◌, ◌<◌, ◌++◌, take, drop, replicate, sym, ap, ap₂, ◌∙◌, subst, arith, mod-lt, mod-eq_of_lt, inl, inr, ◌⊎◌, eq-zero-or-pos}
use Rattle.std.proofs.Math.Nat.{div-one, mod-one, mod_self, mod-mod, div-eq_of_lt}
use lib.Bits.{bit_or, or_shifted, or_shifted_r, or_self}
use Rattle.int_ops.specs.Bits.{bits_of, number_of}
use Rattle.int_ops.specs.Integers.{ishl, ishr_u, irotl, irotr}
use Rattle.int_ops.proofs.BitLists.{shl_is, upper_then_is, lower_is, above_is, shifted_is, number_of-zeros}

pub ishl-is : (n i j : ℕ) → 0 < n → ishl n i j ≡ i * 2 ^ (j % n) % 2 ^ n
unfolding ishl
ishl-is n i j p =
    let below : j % n < n = mod-lt j p in shl_is n (j % n) (n - j % n) i (omega arith)

pub ishr_u-is : (n i j : ℕ) → 0 < n → i < 2 ^ n → ishr_u n i j ≡ i / 2 ^ (j % n)
unfolding ishr_u
ishr_u-is n i j p h =
    let below : j % n < n = mod-lt j p in
    upper_then_is n (j % n) (n - j % n) i (replicate (j % n) 0) (omega arith) h
    ∙ ap (λ (x : ℕ). i / 2 ^ (j % n) + 2 ^ (n - j % n) * x) (number_of-zeros (j % n))
    ∙ omega arith

-- the two parts of a rotation change places
rotl_sum : (n k r i : ℕ) → r + k ≡ n → i < 2 ^ n
    → number_of (drop r (bits_of n i) ++ take r (bits_of n i)) ≡ i / 2 ^ r + 2 ^ k * (i % 2 ^ r)
rotl_sum n k r i e h =
    upper_then_is n r k i (take r (bits_of n i)) e h
    ∙ ap (λ (x : ℕ). i / 2 ^ r + 2 ^ k * x) (lower_is n r k i e)

rotl_or : (n k r i : ℕ) → r + k ≡ n → 0 < k → i < 2 ^ n
    → bit_or (i * 2 ^ k % 2 ^ n) (i / 2 ^ (r % n)) ≡ i / 2 ^ r + 2 ^ k * (i % 2 ^ r)
rotl_or n k r i e p h =
    ap₂ (λ (x y : ℕ). bit_or x (i / 2 ^ y)) (shifted_is n k r i e) (mod-eq_of_lt (omega arith))
    ∙ or_shifted (i % 2 ^ r) k (i / 2 ^ r) (above_is n r k i e h)
    ∙ omega arith

-- by no places nothing changes
same : (n i : ℕ) → i < 2 ^ n → bit_or (i * 2 ^ 0 % 2 ^ n) (i / 2 ^ 0) ≡ i
same n i h =
    ap₂ bit_or (ap (λ (x : ℕ). x % 2 ^ n) (omega arith) ∙ mod-eq_of_lt h) (div-one i) ∙ or_self i

rotl_none : (n m i : ℕ) → m ≡ n → i < 2 ^ n → i / 2 ^ m + 2 ^ 0 * (i % 2 ^ m) ≡ bit_or (i * 2 ^ 0 % 2 ^ n) (i / 2 ^ (m % n))
rotl_none n m i e h =
    subst (λ (x : ℕ). i / 2 ^ x + 2 ^ 0 * (i % 2 ^ x) ≡ bit_or (i * 2 ^ 0 % 2 ^ n) (i / 2 ^ (x % n))) (sym e)
    (ap₂ (λ (x y : ℕ). x + 2 ^ 0 * y) (div-eq_of_lt h) (mod-eq_of_lt h) ∙ omega arith ∙ sym (same n i h)
    ∙ ap (λ (x : ℕ). bit_or (i * 2 ^ 0 % 2 ^ n) (i / 2 ^ x)) (sym (mod_self n)))

rotl_cases : (n k i : ℕ) → (k ≡ 0) ⊎ (0 < k) → k < n → i < 2 ^ n
    → number_of (drop (n - k) (bits_of n i) ++ take (n - k) (bits_of n i)) ≡ bit_or (i * 2 ^ k % 2 ^ n) (i / 2 ^ ((n - k) % n))
rotl_cases n k i (inl none) below h =
    rotl_sum n k (n - k) i (omega arith) h
    ∙ subst (λ (x : ℕ). i / 2 ^ (n - x) + 2 ^ x * (i % 2 ^ (n - x)) ≡ bit_or (i * 2 ^ x % 2 ^ n) (i / 2 ^ ((n - x) % n))) (sym none)
    (rotl_none n (n - 0) i (omega arith) h)
rotl_cases n k i (inr some) below h =
    rotl_sum n k (n - k) i (omega arith) h ∙ sym (rotl_or n k (n - k) i (omega arith) some h)

pub irotl-is : (n i j : ℕ) → 0 < n → i < 2 ^ n
    → irotl n i j ≡ bit_or (i * 2 ^ (j % n) % 2 ^ n) (i / 2 ^ ((n - j % n) % n))
unfolding irotl
irotl-is n i j p h = rotl_cases n (j % n) i (eq-zero-or-pos (j % n)) (mod-lt j p) h

rotr_sum : (n k r i : ℕ) → k + r ≡ n → i < 2 ^ n
    → number_of (drop k (bits_of n i) ++ take k (bits_of n i)) ≡ i / 2 ^ k + 2 ^ r * (i % 2 ^ k)
rotr_sum n k r i e h =
    upper_then_is n k r i (take k (bits_of n i)) e h
    ∙ ap (λ (x : ℕ). i / 2 ^ k + 2 ^ r * x) (lower_is n k r i e)

rotr_or : (n k r i : ℕ) → k + r ≡ n → 0 < k → i < 2 ^ n
    → bit_or (i / 2 ^ k) (i * 2 ^ (r % n) % 2 ^ n) ≡ i / 2 ^ k + 2 ^ r * (i % 2 ^ k)
rotr_or n k r i e p h =
    ap (λ (x : ℕ). bit_or (i / 2 ^ k) (i * 2 ^ x % 2 ^ n)) (mod-eq_of_lt (omega arith))
    ∙ ap (bit_or (i / 2 ^ k)) (shifted_is n r k i e)
    ∙ or_shifted_r (i % 2 ^ k) r (i / 2 ^ k) (above_is n k r i e h)
    ∙ omega arith

rotr_none : (n m i : ℕ) → m ≡ n → i < 2 ^ n → i / 2 ^ 0 + 2 ^ m * (i % 2 ^ 0) ≡ bit_or (i / 2 ^ 0) (i * 2 ^ (m % n) % 2 ^ n)
rotr_none n m i e h =
    ap₂ (λ (x y : ℕ). x + 2 ^ m * y) (div-one i) (mod-one i) ∙ omega arith ∙ sym (or_self i)
    ∙ ap₂ bit_or (sym (div-one i))
    (sym (mod-eq_of_lt h) ∙ ap (λ (x : ℕ). x % 2 ^ n) (omega arith)
    ∙ ap (λ (x : ℕ). i * 2 ^ x % 2 ^ n) (sym (ap (λ (x : ℕ). x % n) e ∙ mod_self n)))

rotr_cases : (n k i : ℕ) → (k ≡ 0) ⊎ (0 < k) → k < n → i < 2 ^ n
    → number_of (drop k (bits_of n i) ++ take k (bits_of n i)) ≡ bit_or (i / 2 ^ k) (i * 2 ^ ((n - k) % n) % 2 ^ n)
rotr_cases n k i (inl none) below h =
    rotr_sum n k (n - k) i (omega arith) h
    ∙ subst (λ (x : ℕ). i / 2 ^ x + 2 ^ (n - x) * (i % 2 ^ x) ≡ bit_or (i / 2 ^ x) (i * 2 ^ ((n - x) % n) % 2 ^ n)) (sym none)
    (rotr_none n (n - 0) i (omega arith) h)
rotr_cases n k i (inr some) below h =
    rotr_sum n k (n - k) i (omega arith) h ∙ sym (rotr_or n k (n - k) i (omega arith) some h)

pub irotr-is : (n i j : ℕ) → 0 < n → i < 2 ^ n
    → irotr n i j ≡ bit_or (i / 2 ^ (j % n)) (i * 2 ^ ((n - j % n) % n) % 2 ^ n)
unfolding irotr
irotr-is n i j p h = rotr_cases n (j % n) i (eq-zero-or-pos (j % n)) (mod-lt j p) h

-- ---- only the number of places modulo the width counts

pub ishl-places : (n i j k : ℕ) → k % n ≡ j % n → ishl n i j ≡ ishl n i k
unfolding ishl
ishl-places n i j k e = ap (λ (m : ℕ). number_of (replicate m 0 ++ take (n - m) (bits_of n i))) (sym e)

pub ishr_u-places : (n i j k : ℕ) → k % n ≡ j % n → ishr_u n i j ≡ ishr_u n i k
unfolding ishr_u
ishr_u-places n i j k e = ap (λ (m : ℕ). number_of (drop m (bits_of n i) ++ replicate m 0)) (sym e)

pub irotl-places : (n i j k : ℕ) → k % n ≡ j % n → irotl n i j ≡ irotl n i k
unfolding irotl
irotl-places n i j k e = ap (λ (m : ℕ). number_of (drop (n - m) (bits_of n i) ++ take (n - m) (bits_of n i))) (sym e)

pub irotr-places : (n i j k : ℕ) → k % n ≡ j % n → irotr n i j ≡ irotr n i k
unfolding irotr
irotr-places n i j k e = ap (λ (m : ℕ). number_of (drop m (bits_of n i) ++ take m (bits_of n i))) (sym e)

pub places_are : (n j k : ℕ) → k ≡ j % n → k % n ≡ j % n
places_are n j k e = ap (λ (x : ℕ). x % n) e ∙ mod-mod j n
