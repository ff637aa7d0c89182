-- Signed readings and what rests on them, at the widths of machine words.
use Rattle.std.proofs.Common.{◌≡◌, ℕ, zero, suc, ◌+◌, ◌-◌, ◌*◌, ◌/◌, ◌%◌, ◌^◌, ◌<◌, ◌≤◌, Bool, true, false, cond, ltb, ℤ, pos, negsuc, neg_ℤ, ◌+ℤ◌, ◌-ℤ◌, ◌*ℤ◌, ◌++◌, drop, replicate, get_or, refl, sym, ap, ap₂, ◌∙◌, subst, arith, add-one, mod-lt, mod-eq_of_lt, pow_pos, pow-add, le_trans, ltb-true, ltb-false}
use Rattle.std.proofs.Math.Nat.{add-mul-div_right, div-eq_of_lt, div-le_self}
use Rattle.std.proofs.lemmas.Int.{ints, of_z-to_z, quot-rem}
use Rattle.std.proofs.Math.IntN.{*ℤ_comm}
use mir.Syntax.{Width, w8, w16, w32, w64, w128}
use mir.Val.{bits, hbits, to_z, of_z, sel}
use lib.Signed.{mag, quot_z, rem_z, shr_z, mag_rem}
use Rattle.int_ops.specs.Bits.{bits_of, number_of}
use Rattle.int_ops.specs.Integers.{signed, unsigned, truncated, ishr_s}
use Rattle.int_ops.proofs.BitLists.{upper_then_is, get_or-bits_of, number_of-zeros, number_of-ones, above_is}

pub half : (w : Width) → bits w - 1 ≡ hbits w
half w8 = refl
half w16 = refl
half w32 = refl
half w64 = refl
half w128 = refl

pub twice_half : (w : Width) → 2 ^ bits w ≡ 2 * 2 ^ hbits w
twice_half w8 = refl
twice_half w16 = refl
twice_half w32 = refl
twice_half w64 = refl
twice_half w128 = refl

minus : (i top : ℕ) → i < top → pos i -ℤ pos top ≡ negsuc (top - suc i)
minus i top h = omega (arith, ints)

pick : (b : Bool) (i top : ℕ) → i < top → cond b (pos i) (pos i -ℤ pos top) ≡ sel b (pos i) (negsuc (top - suc i))
pick true i top h = refl
pick false i top h = minus i top h

pub signed-is : (w : Width) (i : ℕ) → i < 2 ^ bits w → signed (bits w) i ≡ to_z w i
unfolding signed
signed-is w i h =
    ap (λ (x : ℕ). cond (ltb i (2 ^ x)) (pos i) (pos i -ℤ pos (2 ^ bits w))) (half w)
    ∙ pick (ltb i (2 ^ hbits w)) i (2 ^ bits w) h

pub unsigned-is : (w : Width) (z : ℤ) → mag z < 2 ^ bits w → unsigned (bits w) z ≡ of_z w z
unfolding unsigned
unsigned-is w (pos m) h = mod-eq_of_lt h
unsigned-is w (negsuc m) h = ap (λ (x : ℕ). 2 ^ bits w - 1 - x) (mod-eq_of_lt h) ∙ omega arith

pub of_z_lt : (w : Width) (z : ℤ) → mag z < 2 ^ bits w → of_z w z < 2 ^ bits w
of_z_lt w (pos m) h = h
of_z_lt w (negsuc m) h = omega arith

-- a reading is within the half on either side of 0
mag_sel : (w : Width) (b : Bool) (i : ℕ) → ltb i (2 ^ hbits w) ≡ b → i < 2 ^ bits w
    → mag (sel b (pos i) (negsuc (2 ^ bits w - suc i))) < 2 ^ hbits w
mag_sel w true i e h = ltb-true i (2 ^ hbits w) e
mag_sel w false i e h = omega (arith, ltb-false i (2 ^ hbits w) e, twice_half w)

pub mag-to_z : (w : Width) (i : ℕ) → i < 2 ^ bits w → mag (to_z w i) < 2 ^ hbits w
mag-to_z w i h = mag_sel w (ltb i (2 ^ hbits w)) i refl h

half_lt_whole : (w : Width) (m : ℕ) → m ≤ 2 ^ hbits w → m < 2 ^ bits w
half_lt_whole w m h = omega (arith, twice_half w, pow_pos (hbits w))

-- ---- division

truncated-is : (x y : ℤ) → truncated x y ≡ quot_z x y
truncated-is (pos a) (pos b) = refl
truncated-is (pos a) (negsuc b) = ap (λ (x : ℕ). neg_ℤ (pos (a / x))) (add-one b)
truncated-is (negsuc a) (pos b) = ap (λ (x : ℕ). neg_ℤ (pos (x / b))) (add-one a)
truncated-is (negsuc a) (negsuc b) = ap₂ (λ (x y : ℕ). pos (x / y)) (add-one a) (add-one b)

mag_neg : (r : ℕ) → mag (neg_ℤ (pos r)) ≤ r
mag_neg zero = omega arith
mag_neg (suc r) = omega arith

mag_quot : (x y : ℤ) → mag (quot_z x y) ≤ mag x + 1
mag_quot (pos a) (pos b) = le_trans (div-le_self a b) (omega arith)
mag_quot (pos a) (negsuc b) = le_trans (mag_neg (a / suc b)) (le_trans (div-le_self a (suc b)) (omega arith))
mag_quot (negsuc a) (pos b) = le_trans (mag_neg (suc a / b)) (le_trans (div-le_self (suc a) b) (omega arith))
mag_quot (negsuc a) (negsuc b) = le_trans (div-le_self (suc a) (suc b)) (omega arith)

pub quot_lt : (w : Width) (i : ℕ) (y : ℤ) → i < 2 ^ bits w → mag (quot_z (to_z w i) y) < 2 ^ bits w
quot_lt w i y h = half_lt_whole w _ (omega (arith, mag_quot (to_z w i) y, mag-to_z w i h))

-- the quotient, as the machine gives it
pub quotient_is : (w : Width) (i j : ℕ) → i < 2 ^ bits w → j < 2 ^ bits w
    → unsigned (bits w) (truncated (signed (bits w) i) (signed (bits w) j)) ≡ of_z w (to_z w (of_z w (quot_z (to_z w i) (to_z w j))))
quotient_is w i j h k =
    ap₂ (λ (x y : ℤ). unsigned (bits w) (truncated x y)) (signed-is w i h) (signed-is w j k)
    ∙ ap (unsigned (bits w)) (truncated-is (to_z w i) (to_z w j))
    ∙ unsigned-is w (quot_z (to_z w i) (to_z w j)) (quot_lt w i (to_z w j) h)
    ∙ sym (of_z-to_z w (of_z w (quot_z (to_z w i) (to_z w j))) (of_z_lt w (quot_z (to_z w i) (to_z w j)) (quot_lt w i (to_z w j) h)))

cancelled : (p r a : ℤ) → p +ℤ r ≡ a → a -ℤ p ≡ r
cancelled p r a e = omega (arith, ints)

rest_is : (x y : ℤ) → x -ℤ y *ℤ truncated x y ≡ rem_z x y
rest_is x y =
    ap (λ (z : ℤ). x -ℤ y *ℤ z) (truncated-is x y)
    ∙ ap (λ (z : ℤ). x -ℤ z) (*ℤ_comm y (quot_z x y))
    ∙ cancelled (quot_z x y *ℤ y) (rem_z x y) x (quot-rem x y)

-- the remainder, as the machine gives it
pub remainder_is : (w : Width) (i j : ℕ) → i < 2 ^ bits w → j < 2 ^ bits w
    → unsigned (bits w) (signed (bits w) i -ℤ signed (bits w) j *ℤ truncated (signed (bits w) i) (signed (bits w) j)) ≡ of_z w (rem_z (to_z w i) (to_z w j))
remainder_is w i j h k =
    ap₂ (λ (x y : ℤ). unsigned (bits w) (x -ℤ y *ℤ truncated x y)) (signed-is w i h) (signed-is w j k)
    ∙ ap (unsigned (bits w)) (rest_is (to_z w i) (to_z w j))
    ∙ unsigned-is w (rem_z (to_z w i) (to_z w j))
    (half_lt_whole w _ (omega (arith, mag_rem (to_z w i) (to_z w j), mag-to_z w i h)))

-- ---- the shift that keeps the sign

-- a number counted from the top of a product, divided
from_top : (p q t i : ℕ) → 0 < p → q ≡ suc (i / p) + t → (q * p - suc i) / p ≡ t
from_top p q t i h e =
    let below : i % p < p = mod-lt i h in
    let parts : q * p - suc i ≡ (p - suc (i % p)) + t * p = rw e (omega (arith, below)) in
    ap (λ (x : ℕ). x / p) parts
    ∙ add-mul-div_right (p - suc (i % p)) t h
    ∙ ap (λ (x : ℕ). x + t) (div-eq_of_lt (omega (arith, below)))
    ∙ omega arith

-- k copies of the sign above the others
sign_of : (n h i : ℕ) → h + 1 ≡ n → i < 2 ^ h → get_or (bits_of n i) h 0 ≡ 0
sign_of n h i e below = get_or-bits_of n i h (omega arith) ∙ ap (λ (x : ℕ). x % 2) (div-eq_of_lt below)

sign_set : (n h i : ℕ) → h + 1 ≡ n → 2 ^ h ≤ i → i < 2 * 2 ^ h → get_or (bits_of n i) h 0 ≡ 1
sign_set n h i e above below =
    get_or-bits_of n i h (omega arith)
    ∙ ap (λ (x : ℕ). x / 2 ^ h % 2) (omega arith)
    ∙ ap (λ (x : ℕ). x % 2) (add-mul-div_right (i - 2 ^ h) 1 (pow_pos h))
    ∙ ap (λ (x : ℕ). (x + 1) % 2) (div-eq_of_lt (omega arith))

half_and_one : (w : Width) → hbits w + 1 ≡ bits w
half_and_one w8 = refl
half_and_one w16 = refl
half_and_one w32 = refl
half_and_one w64 = refl
half_and_one w128 = refl

-- copies of a bit above the upper ones
copies : (n k i bit : ℕ) → k < n → i < 2 ^ n → get_or (bits_of n i) (n - 1) 0 ≡ bit
    → number_of (drop k (bits_of n i) ++ replicate k (get_or (bits_of n i) (n - 1) 0)) ≡ i / 2 ^ k + 2 ^ (n - k) * number_of (replicate k bit)
copies n k i bit below h e =
    upper_then_is n k (n - k) i (replicate k (get_or (bits_of n i) (n - 1) 0)) (omega arith) h
    ∙ ap (λ (x : ℕ). i / 2 ^ k + 2 ^ (n - k) * number_of (replicate k x)) e

with_zeros : (n k i : ℕ) → i / 2 ^ k + 2 ^ (n - k) * number_of (replicate k 0) ≡ i / 2 ^ k
with_zeros n k i = ap (λ (x : ℕ). i / 2 ^ k + 2 ^ (n - k) * x) (number_of-zeros k) ∙ omega arith

-- with ones above, the number is counted from the top
counted : (q o p all : ℕ) (quotient : ℕ) → o + 1 ≡ p → q * p ≡ all → quotient < q
    → quotient + q * o ≡ all - suc (q - suc quotient)
counted q o p all quotient e f h =
    let whole : all ≡ q * o + q = sym f ∙ ap (λ (x : ℕ). q * x) (sym e) ∙ omega arith in omega arith

with_ones : (n k i : ℕ) → k < n → i < 2 ^ n
    → i / 2 ^ k + 2 ^ (n - k) * number_of (replicate k 1) ≡ 2 ^ n - suc ((2 ^ n - suc i) / 2 ^ k)
with_ones n k i below h =
    let whole : 2 ^ (n - k) * 2 ^ k ≡ 2 ^ n = sym (pow-add 2 (n - k) k) ∙ ap (λ (x : ℕ). 2 ^ x) (omega arith) in
    let high : i / 2 ^ k < 2 ^ (n - k) = above_is n k (n - k) i (omega arith) h in
    counted (2 ^ (n - k)) (number_of (replicate k 1)) (2 ^ k) (2 ^ n) (i / 2 ^ k) (number_of-ones k) whole high
    ∙ ap (λ (x : ℕ). 2 ^ n - suc x)
    (sym (from_top (2 ^ k) (2 ^ (n - k)) (2 ^ (n - k) - suc (i / 2 ^ k)) i (pow_pos k) (omega arith))
    ∙ ap (λ (x : ℕ). (x - suc i) / 2 ^ k) whole)

shr_cases : (w : Width) (b : Bool) (i k : ℕ) → ltb i (2 ^ hbits w) ≡ b → k < bits w → i < 2 ^ bits w
    → number_of (drop k (bits_of (bits w) i) ++ replicate k (get_or (bits_of (bits w) i) (bits w - 1) 0)) ≡ of_z w (shr_z (sel b (pos i) (negsuc (2 ^ bits w - suc i))) (2 ^ k))
shr_cases w true i k e below h =
    copies (bits w) k i 0 below h
    (ap (λ (x : ℕ). get_or (bits_of (bits w) i) x 0) (half w)
    ∙ sign_of (bits w) (hbits w) i (half_and_one w) (ltb-true i (2 ^ hbits w) e))
    ∙ with_zeros (bits w) k i
shr_cases w false i k e below h =
    copies (bits w) k i 1 below h
    (ap (λ (x : ℕ). get_or (bits_of (bits w) i) x 0) (half w)
    ∙ sign_set (bits w) (hbits w) i (half_and_one w) (ltb-false i (2 ^ hbits w) e) (subst (λ (x : ℕ). i < x) (twice_half w) h))
    ∙ with_ones (bits w) k i below h

pub ishr_s-is : (w : Width) (i j : ℕ) → i < 2 ^ bits w → ishr_s (bits w) i j ≡ of_z w (shr_z (to_z w i) (2 ^ (j % bits w)))
unfolding ishr_s
ishr_s-is w i j h =
    shr_cases w (ltb i (2 ^ hbits w)) i (j % bits w) refl (mod-lt j (some w)) h
  where
    some : (v : Width) → 0 < bits v
    some w8 = omega arith
    some w16 = omega arith
    some w32 = omega arith
    some w64 = omega arith
    some w128 = omega arith
