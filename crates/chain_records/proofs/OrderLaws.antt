-- The bytes of keys stand in the order of their kinds and of their numbers.
use Rattle.std.proofs.Common.{◌≡◌, ℕ, ◌+◌, ◌*◌, ◌/◌, ◌%◌, ◌^◌, ◌<◌, ◌≤◌, List, ◌∷◌, refl, sym, ap, ◌∙◌, arith}
use Rattle.std.specs.declared.cmp.Ordering.{Ordering}
use Rattle.std.specs.declared.cmp.Ordering.TheVariants.{Less, Equal, Greater}
use Rattle.std.specs.Ordering.{nat_cmp, ordering_then, MatchOrdering}
use Rattle.std.specs.Cmp.{nat_cmp_is, ranked}
use Rattle.std.specs.Cmp.Lexicographic.{slice_cmp}
use Rattle.std.proofs.Math.Nat.{mul-le-mul_right, add-mul}
use Rattle.chain_records.specs.Pieces.{be8}
use Rattle.chain_records.specs.Keys.{PlainKey, facts, counters, balance, supply, code, code_info, pin, contract, storage, key_bytes}
use Rattle.chain_records.specs.Order.{kind, OrdersNumbers, OrdersKinds}

above : (w a b : ℕ) → a < b → a * w + w ≤ b * w
above w a b lt =
    let next : a + 1 ≤ b = omega arith in
    let more : (a + 1) * w ≤ b * w = mul-le-mul_right w next in
    omega (arith, more, add-mul a 1 w)

-- two numbers are compared by their high parts, and then by their low ones
compared : (w a c b d : ℕ) → c < w → d < w → nat_cmp (a * w + c) (b * w + d) ≡ ordering_then (nat_cmp a b) (nat_cmp c d)
compared w a c b d small less = sym (nat_cmp_is (a * w + c) (b * w + d) (ordering_then (nat_cmp a b) (nat_cmp c d)) (go (nat_cmp a b) refl))
  where
    low : (t : Ordering) → t ≡ nat_cmp c d → a * w ≡ b * w → MatchOrdering t (a * w + c < b * w + d) (a * w + c ≡ b * w + d) (b * w + d < a * w + c)
    low Less e same = let r = ranked c d Less e in omega arith
    low Equal e same = let r = ranked c d Equal e in omega arith
    low Greater e same = let r = ranked c d Greater e in omega arith

    go : (r : Ordering) → r ≡ nat_cmp a b → MatchOrdering (ordering_then r (nat_cmp c d)) (a * w + c < b * w + d) (a * w + c ≡ b * w + d) (b * w + d < a * w + c)
    go Less e = omega (arith, above w a b (ranked a b Less e))
    go Equal e = low (nat_cmp c d) refl (ap (λ (n : ℕ). n * w) (ranked a b Equal e))
    go Greater e = omega (arith, above w b a (ranked a b Greater e))

then_equal : (r : Ordering) → ordering_then r Equal ≡ r
then_equal Less = refl
then_equal Equal = refl
then_equal Greater = refl

-- a byte, and what is below it
record Splits (m w : ℕ) : Type 0 where
  parts : (n : ℕ) → n % m ≡ n / w % 256 * w + n % w
  below : (n : ℕ) → n % w < w

abbrev byte : ℕ → ℕ → ℕ → Ordering
byte w a b = nat_cmp (a / w % 256) (b / w % 256)

step : (m w : ℕ) → Splits m w → (a b : ℕ) → nat_cmp (a % m) (b % m) ≡ ordering_then (byte w a b) (nat_cmp (a % w) (b % w))
step m w s a b = (λ i. nat_cmp (s.parts a i) (s.parts b i)) ∙ compared w (a / w % 256) (a % w) (b / w % 256) (b % w) (s.below a) (s.below b)

splits_7 : Splits (2 ^ 64) (2 ^ 56)
splits_7 = record { parts = λ n. omega arith; below = λ n. omega arith }

splits_6 : Splits (2 ^ 56) (2 ^ 48)
splits_6 = record { parts = λ n. omega arith; below = λ n. omega arith }

splits_5 : Splits (2 ^ 48) (2 ^ 40)
splits_5 = record { parts = λ n. omega arith; below = λ n. omega arith }

splits_4 : Splits (2 ^ 40) (2 ^ 32)
splits_4 = record { parts = λ n. omega arith; below = λ n. omega arith }

splits_3 : Splits (2 ^ 32) (2 ^ 24)
splits_3 = record { parts = λ n. omega arith; below = λ n. omega arith }

splits_2 : Splits (2 ^ 24) (2 ^ 16)
splits_2 = record { parts = λ n. omega arith; below = λ n. omega arith }

splits_1 : Splits (2 ^ 16) (2 ^ 8)
splits_1 = record { parts = λ n. omega arith; below = λ n. omega arith }

-- numbers of eight bytes are compared byte by byte
numbers : (a b : ℕ) → slice_cmp nat_cmp (be8 a) (be8 b) ≡ nat_cmp (a % 2 ^ 64) (b % 2 ^ 64)
numbers a b = sym (
    step (2 ^ 64) (2 ^ 56) splits_7 a b
    ∙ ap (ordering_then (byte (2 ^ 56) a b)) (
    step (2 ^ 56) (2 ^ 48) splits_6 a b
    ∙ ap (ordering_then (byte (2 ^ 48) a b)) (
    step (2 ^ 48) (2 ^ 40) splits_5 a b
    ∙ ap (ordering_then (byte (2 ^ 40) a b)) (
    step (2 ^ 40) (2 ^ 32) splits_4 a b
    ∙ ap (ordering_then (byte (2 ^ 32) a b)) (
    step (2 ^ 32) (2 ^ 24) splits_3 a b
    ∙ ap (ordering_then (byte (2 ^ 24) a b)) (
    step (2 ^ 24) (2 ^ 16) splits_2 a b
    ∙ ap (ordering_then (byte (2 ^ 16) a b)) (
    step (2 ^ 16) (2 ^ 8) splits_1 a b
    ∙ ap (ordering_then (byte (2 ^ 8) a b)) (sym (then_equal (nat_cmp (a % 256) (b % 256))))))))))
    )

small_numbers : (a b : ℕ) → a < 2 ^ 64 → b < 2 ^ 64 → slice_cmp nat_cmp (be8 a) (be8 b) ≡ nat_cmp a b
small_numbers a b la lb =
    let one : a % 2 ^ 64 ≡ a = omega arith in
    let other : b % 2 ^ 64 ≡ b = omega arith in
    numbers a b ∙ (λ i. nat_cmp (one i) (other i))

pub orders_codes : OrdersNumbers code
unfolding key_bytes
orders_codes = small_numbers

pub orders_code_infos : OrdersNumbers code_info
unfolding key_bytes
orders_code_infos = small_numbers

pub orders_pins : OrdersNumbers pin
unfolding key_bytes
orders_pins = small_numbers

-- ---- kinds

kind_first : (key : PlainKey) → (rest : List ℕ) × (key_bytes key ≡ kind key ∷ rest)
unfolding key_bytes
kind_first facts = (_, refl)
kind_first counters = (_, refl)
kind_first (balance addr denom) = (_, refl)
kind_first (supply denom) = (_, refl)
kind_first (code id) = (_, refl)
kind_first (code_info id) = (_, refl)
kind_first (pin id) = (_, refl)
kind_first (contract addr) = (_, refl)
kind_first (storage addr key) = (_, refl)

pub orders_kinds : OrdersKinds
orders_kinds one other lt =
    let a = kind_first one in
    let b = kind_first other in
    (λ i. slice_cmp nat_cmp (a.1 i) (b.1 i)) ∙ ap (λ (r : Ordering). ordering_then r (slice_cmp nat_cmp a.0 b.0)) (sym (nat_cmp_is (kind one) (kind other) Less lt))
