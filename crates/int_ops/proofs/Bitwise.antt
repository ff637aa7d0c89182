-- What the bit instructions on lists of bits are on whole numbers.
use Rattle.std.proofs.Common.{◌≡◌, ℕ, zero, suc, ◌+◌, ◌/◌, ◌%◌, ◌^◌, ◌<◌, min, max, List, [], ◌∷◌, ◌++◌, length, reverse, refl, sym, ap, ap₂, ◌∙◌, subst, arith, inl, inr, ◌⊎◌, eq-zero-or-pos, add-zero, lt_irrefl}
use Rattle.std.proofs.Math.Arith.{lt-one}
use Rattle.std.proofs.lemmas.List.{reverse-append, length-reverse}
use Rattle.std.proofs.lemmas.List.Sums.{sum_by-append, sum_by-cons}
use Rattle.std.specs.Prelude.{sum}
use Prim.Native.Nat.{differ}
use lib.Bits.{bit_and, bit_or, bit_xor, and_step, or_step, xor_step}
use lib.Count.{ones, ones_step, count_trailing_zeros, count_leading_zeros, under}
use Rattle.int_ops.specs.Bits.{bits_of, number_of, joined, zeros_in_front}
use Rattle.int_ops.specs.Integers.{iand, ior, ixor, iclz, ictz, ipopcnt}
use Rattle.int_ops.proofs.BitLists.{half_lt, length-bits_of}

and_bits : (n i j : ℕ) → i < 2 ^ n → number_of (joined min (bits_of n i) (bits_of n j)) ≡ bit_and i j
unfolding bits_of number_of joined
and_bits zero i j h = sym (ap (λ (x : ℕ). bit_and x j) (lt-one h))
and_bits (suc n) i j h = omega (arith, and_bits n (i / 2) (j / 2) (half_lt n i h), and_step i j)

pub iand-is : (n i j : ℕ) → i < 2 ^ n → iand n i j ≡ bit_and i j
unfolding iand
iand-is n i j h = and_bits n i j h

or_bits : (n i j : ℕ) → i < 2 ^ n → j < 2 ^ n → number_of (joined max (bits_of n i) (bits_of n j)) ≡ bit_or i j
unfolding bits_of number_of joined
or_bits zero i j h k = sym (ap₂ bit_or (lt-one h) (lt-one k))
or_bits (suc n) i j h k = omega (arith, or_bits n (i / 2) (j / 2) (half_lt n i h) (half_lt n j k), or_step i j)

pub ior-is : (n i j : ℕ) → i < 2 ^ n → j < 2 ^ n → ior n i j ≡ bit_or i j
unfolding ior
ior-is n i j h k = or_bits n i j h k

-- two bits that differ
differ_bits : (a b : ℕ) → a < 2 → b < 2 → differ a b ≡ (a + b) % 2
differ_bits zero zero h k = refl
differ_bits zero (suc b) h k = omega arith
differ_bits (suc a) zero h k = omega arith
differ_bits (suc a) (suc b) h k =
    ap₂ differ ones.0 ones.1 ∙ ap₂ (λ (x y : ℕ). (suc x + suc y) % 2) (sym ones.0) (sym ones.1)
  where
    ones : (a ≡ 0) × (b ≡ 0)
    ones = (omega arith, omega arith)

xor_bits : (n i j : ℕ) → i < 2 ^ n → j < 2 ^ n → number_of (joined (λ a b. (a + b) % 2) (bits_of n i) (bits_of n j)) ≡ bit_xor i j
unfolding bits_of number_of joined
xor_bits zero i j h k = sym (ap₂ bit_xor (lt-one h) (lt-one k))
xor_bits (suc n) i j h k =
    omega (
      arith,
      xor_bits n (i / 2) (j / 2) (half_lt n i h) (half_lt n j k),
      xor_step i j,
      differ_bits (i % 2) (j % 2) (omega arith) (omega arith),
    )

pub ixor-is : (n i j : ℕ) → i < 2 ^ n → j < 2 ^ n → ixor n i j ≡ bit_xor i j
unfolding ixor
ixor-is n i j h k = xor_bits n i j h k

-- ---- counts

front : (bit : ℕ) (bits : List ℕ) → zeros_in_front (bit ∷ bits) ≡ under bit (zeros_in_front bits)
unfolding zeros_in_front
front zero bits = refl
front (suc bit) bits = refl

trailing : (n i : ℕ) → zeros_in_front (bits_of n i) ≡ count_trailing_zeros n i
unfolding bits_of zeros_in_front count_trailing_zeros
trailing zero i = refl
trailing (suc n) i = front (i % 2) (bits_of n (i / 2)) ∙ ap (under (i % 2)) (trailing n (i / 2))

pub ictz-is : (n i : ℕ) → ictz n i ≡ count_trailing_zeros n i
unfolding ictz
ictz-is n i = trailing n i

sum_step : (x : ℕ) (xs : List ℕ) → sum (x ∷ xs) ≡ x + sum xs
sum_step x xs = sum_by-cons (λ y. y) x xs

set_bits : (n i : ℕ) → i < 2 ^ n → sum (bits_of n i) ≡ ones i
unfolding bits_of ones
set_bits zero i h = sym (ap ones (lt-one h))
set_bits (suc n) i h =
    omega (arith, sum_step (i % 2) (bits_of n (i / 2)), set_bits n (i / 2) (half_lt n i h), ones_step i)

pub ipopcnt-is : (n i : ℕ) → i < 2 ^ n → ipopcnt n i ≡ ones i
unfolding ipopcnt
ipopcnt-is n i h = set_bits n i h

-- zeros go on where a list has no 1, and end where it has one
zeros_then : (xs ys : List ℕ) → sum xs ≡ 0 → zeros_in_front (xs ++ ys) ≡ length xs + zeros_in_front ys
unfolding zeros_in_front
zeros_then [] ys e = omega arith
zeros_then (zero ∷ xs) ys e =
    omega (arith, zeros_then xs ys (omega (arith, sum_step 0 xs)))
zeros_then (suc x ∷ xs) ys e = absurd (omega (arith, sum_step (suc x) xs))

zeros_before : (xs ys : List ℕ) → 0 < sum xs → zeros_in_front (xs ++ ys) ≡ zeros_in_front xs
unfolding zeros_in_front
zeros_before [] ys p = absurd (omega arith)
zeros_before (zero ∷ xs) ys p = ap suc (zeros_before xs ys (omega (arith, sum_step 0 xs)))
zeros_before (suc x ∷ xs) ys p = refl

sum-reverse : (xs : List ℕ) → sum (reverse xs) ≡ sum xs
sum-reverse [] = refl
sum-reverse (x ∷ xs) =
    ap sum (reverse-append (x ∷ []) xs) ∙ sum_by-append (λ y. y) (reverse xs) (x ∷ [])
    ∙ omega (arith, sum-reverse xs, sum_step x xs)

-- a number that is not 0 has a 1
some_bit : (n i : ℕ) → 0 < i → i < 2 ^ n → 0 < sum (bits_of n i)
unfolding bits_of
some_bit zero i p h = absurd (omega arith)
some_bit (suc n) i p h = by (λ q. some_bit n (i / 2) q (half_lt n i h)) (eq-zero-or-pos (i / 2))
  where
    by : (0 < i / 2 → 0 < sum (bits_of n (i / 2))) → (i / 2 ≡ 0) ⊎ (0 < i / 2) → 0 < sum (i % 2 ∷ bits_of n (i / 2))
    by upper (inl e) = omega (arith, sum_step (i % 2) (bits_of n (i / 2)))
    by upper (inr q) = omega (arith, sum_step (i % 2) (bits_of n (i / 2)), upper q)

no_bit : (n : ℕ) → sum (bits_of n 0) ≡ 0
unfolding bits_of
no_bit zero = refl
no_bit (suc n) = omega (arith, sum_step 0 (bits_of n 0), no_bit n)

all_zeros : (xs : List ℕ) → sum xs ≡ 0 → zeros_in_front xs ≡ length xs
unfolding zeros_in_front
all_zeros [] e = refl
all_zeros (zero ∷ xs) e = ap suc (all_zeros xs (omega (arith, sum_step 0 xs)))
all_zeros (suc x ∷ xs) e = absurd (omega (arith, sum_step (suc x) xs))

-- of 0 each bit is a zero
none : (n : ℕ) → zeros_in_front (reverse (bits_of n 0)) ≡ n
none n =
    all_zeros (reverse (bits_of n 0)) (sum-reverse (bits_of n 0) ∙ no_bit n)
    ∙ length-reverse (bits_of n 0)
    ∙ length-bits_of n 0

-- the lowest bit counts only where all others are zeros
last : (n i : ℕ) → i < 2 ^ n → (bit : ℕ) → (i ≡ 0 → 0 < bit) → zeros_in_front (reverse (bits_of n i) ++ bit ∷ []) ≡ zeros_in_front (reverse (bits_of n i))
unfolding zeros_in_front
last n i h bit p = by bit p (eq-zero-or-pos i)
  where
    by : (b : ℕ) → (i ≡ 0 → 0 < b) → (i ≡ 0) ⊎ (0 < i) → zeros_in_front (reverse (bits_of n i) ++ b ∷ []) ≡ zeros_in_front (reverse (bits_of n i))
    by zero q (inl e) = absurd (lt_irrefl 0 (q e))
    by (suc b) q (inl e) =
        let clear : sum (reverse (bits_of n i)) ≡ 0 = sum-reverse (bits_of n i) ∙ ap (λ (x : ℕ). sum (bits_of n x)) e ∙ no_bit n in
        zeros_then (reverse (bits_of n i)) (suc b ∷ []) clear ∙ add-zero (length (reverse (bits_of n i)))
        ∙ sym (all_zeros (reverse (bits_of n i)) clear)
    by b q (inr some) =
        zeros_before (reverse (bits_of n i)) (b ∷ [])
        (subst (λ (x : ℕ). 0 < x) (sym (sum-reverse (bits_of n i))) (some_bit n i some h))

leading : (n i : ℕ) → i < 2 ^ n → zeros_in_front (reverse (bits_of n i)) ≡ count_leading_zeros n i
unfolding bits_of zeros_in_front count_leading_zeros
leading zero i h = refl
leading (suc n) zero h = none (suc n)
leading (suc n) (suc i) h =
    let below : suc i / 2 < 2 ^ n = half_lt n (suc i) h in
    ap zeros_in_front (reverse-append (suc i % 2 ∷ []) (bits_of n (suc i / 2)))
    ∙ last n (suc i / 2) below (suc i % 2) (λ e. omega arith)
    ∙ leading n (suc i / 2) below

pub iclz-is : (n i : ℕ) → i < 2 ^ n → iclz n i ≡ count_leading_zeros n i
unfolding iclz
iclz-is n i h = leading n i h
