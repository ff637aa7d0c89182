-- Numbers and their bytes, as the machine computes them.
use Rattle.std.proofs.Common.{◌≡◌, ℕ, zero, suc, ◌+◌, ◌-◌, ◌*◌, ◌/◌, ◌%◌, ◌^◌, ◌<◌, ◌≤◌, List, [], ◌∷◌, length, take, drop, get_or, refl, sym, ap, ap₂, ◌∙◌, arith, pow-suc, mod-lt, drop-cons, w16, w32, w64}
use Rattle.std.specs.Int.{from_le_bytes, bytes_low_first, byte_at}
use Rattle.std.proofs.Math.Nat.{div-one, div-div-eq-div-mul, add-mul-div_right, mul-add-mod_self_right, div-eq_of_lt}
use Rattle.std.proofs.Math.Arith.{mod-mul}
use lib.Bits.{bit_and, and_mask}
use Rattle.linear_memory.specs.Numbers.{number_of, bytes_of, number_at}

pub number_of_two : (xs : List ℕ) → length xs ≡ 2 → from_le_bytes w16 xs ≡ number_of xs
unfolding number_of
number_of_two [] h = absurd (omega arith)
number_of_two (a ∷ []) h = absurd (omega arith)
number_of_two (a ∷ b ∷ []) h = omega arith
number_of_two (a ∷ b ∷ c ∷ rest) h = absurd (omega arith)

pub number_of_four : (xs : List ℕ) → length xs ≡ 4 → from_le_bytes w32 xs ≡ number_of xs
unfolding number_of
number_of_four [] h = absurd (omega arith)
number_of_four (a ∷ []) h = absurd (omega arith)
number_of_four (a ∷ b ∷ []) h = absurd (omega arith)
number_of_four (a ∷ b ∷ c ∷ []) h = absurd (omega arith)
number_of_four (a ∷ b ∷ c ∷ d ∷ []) h = omega arith
number_of_four (a ∷ b ∷ c ∷ d ∷ e ∷ rest) h = absurd (omega arith)

pub number_of_eight : (xs : List ℕ) → length xs ≡ 8 → from_le_bytes w64 xs ≡ number_of xs
unfolding number_of
number_of_eight [] h = absurd (omega arith)
number_of_eight (a ∷ []) h = absurd (omega arith)
number_of_eight (a ∷ b ∷ []) h = absurd (omega arith)
number_of_eight (a ∷ b ∷ c ∷ []) h = absurd (omega arith)
number_of_eight (a ∷ b ∷ c ∷ d ∷ []) h = absurd (omega arith)
number_of_eight (a ∷ b ∷ c ∷ d ∷ e ∷ []) h = absurd (omega arith)
number_of_eight (a ∷ b ∷ c ∷ d ∷ e ∷ f ∷ []) h = absurd (omega arith)
number_of_eight (a ∷ b ∷ c ∷ d ∷ e ∷ f ∷ g ∷ []) h = absurd (omega arith)
number_of_eight (a ∷ b ∷ c ∷ d ∷ e ∷ f ∷ g ∷ k ∷ []) h = omega arith
number_of_eight (a ∷ b ∷ c ∷ d ∷ e ∷ f ∷ g ∷ k ∷ m ∷ rest) h = absurd (omega arith)

-- one byte
pub number_of_one : (xs : List ℕ) (at : ℕ) → at < length xs → number_of (take (at + 1 - at) (drop at xs)) ≡ get_or xs at 0
unfolding number_of
number_of_one xs at h =
    let one : at + 1 - at ≡ 1 = omega arith in
    let single : number_of (get_or xs at 0 ∷ []) ≡ get_or xs at 0 = omega arith in
    ap (λ (n : ℕ). number_of (take n (drop at xs))) one
    ∙ ap (λ (s : List ℕ). number_of (take 1 s)) (drop-cons xs at 0 h)
    ∙ single

-- the byte at a place of a number
byte_is : (i n : ℕ) → byte_at i n ≡ n / 256 ^ i % 256
byte_is zero n = ap (λ (x : ℕ). x % 256) (sym (div-one n))
byte_is (suc i) n = refl

pub bytes_low_first-is : (i width n : ℕ) → bytes_low_first i width n ≡ bytes_of width (n / 256 ^ i)
unfolding bytes_of
bytes_low_first-is i zero n = refl
bytes_low_first-is i (suc width) n =
    ap₂ (λ (b : ℕ) (bs : List ℕ). b ∷ bs) (byte_is i n)
    (bytes_low_first-is (suc i) width n
    ∙ ap (bytes_of width) (ap (λ (x : ℕ). n / x) (pow-suc 256 i) ∙ sym (div-div-eq-div-mul n (256 ^ i) 256)))

pub to_le-is : (width n : ℕ) → bytes_low_first 0 width n ≡ bytes_of width n
to_le-is width n = bytes_low_first-is 0 width n ∙ ap (bytes_of width) (div-one n)

pos_256 : (k : ℕ) → 0 < 256 ^ k
pos_256 zero = omega arith
pos_256 (suc k) = rw (pow-suc 256 k) (omega (arith, pos_256 k))

-- only the lowest part counts
pub bytes_of-mod : (width n : ℕ) → bytes_of width (n % 256 ^ width) ≡ bytes_of width n
unfolding bytes_of
bytes_of-mod zero n = refl
bytes_of-mod (suc width) n =
    ap₂ (λ (b : ℕ) (bs : List ℕ). b ∷ bs) (ap (λ (x : ℕ). x % 256) whole ∙ mul-add-mod_self_right (n / 256 % 256 ^ width) 256 (n % 256) ∙ small)
    (ap (λ (x : ℕ). bytes_of width (x / 256)) whole
    ∙ ap (bytes_of width) (ap (λ (x : ℕ). x / 256) (omega arith) ∙ add-mul-div_right (n % 256) (n / 256 % 256 ^ width) some ∙ ap (λ (x : ℕ). x + n / 256 % 256 ^ width) (div-eq_of_lt (mod-lt n some)) ∙ omega arith)
    ∙ bytes_of-mod width (n / 256))
  where
    some : 0 < 256
    some = omega arith

    whole : n % 256 ^ suc width ≡ (n / 256 % 256 ^ width) * 256 + n % 256
    whole = ap (λ (x : ℕ). n % x) (pow-suc 256 width) ∙ mod-mul n (pos_256 width) some

    small : n % 256 % 256 ≡ n % 256
    small = omega arith

-- ---- loads and stores of one byte

any_default : (xs : List ℕ) (k d e : ℕ) → k < length xs → get_or xs k d ≡ get_or xs k e
any_default [] k d e h = absurd (omega arith)
any_default (x ∷ xs) zero d e h = refl
any_default (x ∷ xs) (suc k) d e h = any_default xs k d e (omega arith)

pub loaded_one : (memory items : List ℕ) (at width x y : ℕ) → items ≡ memory → width ≡ 1 → at + width ≤ length memory
    → x ≡ get_or items at x → y ≡ x → y ≡ number_at memory at width
loaded_one memory items at width x y same one fits found read =
    let inside : at < length memory = omega arith in
    read ∙ found ∙ ap (λ (xs : List ℕ). get_or xs at x) same ∙ any_default memory at x 0 inside
    ∙ sym (number_of_one memory at inside) ∙ ap (λ (n : ℕ). number_at memory at n) (sym one)

pub bytes_of_one : (width n : ℕ) → width ≡ 1 → bit_and n 255 ∷ [] ≡ bytes_of width n
unfolding bytes_of
bytes_of_one width n one =
    ap (λ (x : ℕ). x ∷ []) (and_mask n 8) ∙ ap (λ (w : ℕ). bytes_of w n) (sym one)
