-- The operations on integers of n bits, which are whole numbers below 2^n (WebAssembly core 1.0, section 4.3.2).
-- The names are the standard's.
use Rattle.std.specs.Prelude.{ℕ, ◌+◌, ◌-◌, ◌*◌, ◌/◌, ◌%◌, ◌^◌, ◌==◌, ◌&&◌, not, Bool, nat_lt, nat_le, min, max, ℤ, pos, negsuc, neg_ℤ, ◌-ℤ◌, ◌*ℤ◌, int_lt, int_le, ◌++◌, take, drop, replicate, reverse, sum, slice_index, Result, Ok, Err, if◌then◌else◌}
use Rattle.int_ops.specs.Bits.{bits_of, number_of, joined, zeros_in_front}
use Rattle.int_ops.specs.declared.num.NumTrap.{NumTrap}
use Rattle.int_ops.specs.declared.num.NumTrap.TheVariants.{DivideByZero, IntegerOverflow}

-- ---- signed readings

-- an integer read with sign: the upper half of the numbers stands for the negative ones
unfoldable pub signed : ℕ → ℕ → ℤ
signed n i = if nat_lt i (2 ^ (n - 1)) then pos i else pos i -ℤ pos (2 ^ n)

-- the integer that is read as this number: the one that differs from it by a multiple of 2^n
unfoldable pub unsigned : ℕ → ℤ → ℕ
unsigned n (pos m) = m % 2 ^ n
unsigned n (negsuc m) = 2 ^ n - 1 - m % 2 ^ n

-- ---- arithmetic

unfoldable pub iadd : ℕ → ℕ → ℕ → ℕ
iadd n i j = (i + j) % 2 ^ n

unfoldable pub isub : ℕ → ℕ → ℕ → ℕ
isub n i j = (i + 2 ^ n - j) % 2 ^ n

unfoldable pub imul : ℕ → ℕ → ℕ → ℕ
imul n i j = (i * j) % 2 ^ n

unfoldable pub idiv_u : ℕ → ℕ → ℕ → Result ℕ NumTrap
idiv_u n i j = if j == 0 then Err DivideByZero else Ok (i / j)

unfoldable pub irem_u : ℕ → ℕ → ℕ → Result ℕ NumTrap
irem_u n i j = if j == 0 then Err DivideByZero else Ok (i - j * (i / j))

-- the quotient of two whole numbers without its fraction
abbrev pub truncated : ℤ → ℤ → ℤ
truncated (pos a) (pos b) = pos (a / b)
truncated (pos a) (negsuc b) = neg_ℤ (pos (a / (b + 1)))
truncated (negsuc a) (pos b) = neg_ℤ (pos ((a + 1) / b))
truncated (negsuc a) (negsuc b) = pos ((a + 1) / (b + 1))

-- the least value over -1 would be 2^(n-1), which no integer of n bits is read as
unfoldable pub idiv_s : ℕ → ℕ → ℕ → Result ℕ NumTrap
idiv_s n i j =
    if j == 0 then Err DivideByZero
    else if (i == 2 ^ (n - 1)) && (j == 2 ^ n - 1) then Err IntegerOverflow
    else Ok (unsigned n (truncated (signed n i) (signed n j)))

unfoldable pub irem_s : ℕ → ℕ → ℕ → Result ℕ NumTrap
irem_s n i j =
    if j == 0 then Err DivideByZero
    else Ok (unsigned n (signed n i -ℤ signed n j *ℤ truncated (signed n i) (signed n j)))

-- ---- bits

unfoldable pub iand : ℕ → ℕ → ℕ → ℕ
iand n i j = number_of (joined min (bits_of n i) (bits_of n j))

unfoldable pub ior : ℕ → ℕ → ℕ → ℕ
ior n i j = number_of (joined max (bits_of n i) (bits_of n j))

unfoldable pub ixor : ℕ → ℕ → ℕ → ℕ
ixor n i j = number_of (joined (λ a b. (a + b) % 2) (bits_of n i) (bits_of n j))

-- the bits move up by j modulo n places, and zeros come in below
unfoldable pub ishl : ℕ → ℕ → ℕ → ℕ
ishl n i j = let k = j % n in number_of (replicate k 0 ++ take (n - k) (bits_of n i))

-- the bits move down, and zeros come in above
unfoldable pub ishr_u : ℕ → ℕ → ℕ → ℕ
ishr_u n i j = let k = j % n in number_of (drop k (bits_of n i) ++ replicate k 0)

-- the bits move down, and copies of the highest one come in above
unfoldable pub ishr_s : ℕ → ℕ → ℕ → ℕ
ishr_s n i j =
    let k = j % n in number_of (drop k (bits_of n i) ++ replicate k (slice_index (bits_of n i) (n - 1)))

-- the bits move up, and those that leave come in below
unfoldable pub irotl : ℕ → ℕ → ℕ → ℕ
irotl n i j = let k = j % n in number_of (drop (n - k) (bits_of n i) ++ take (n - k) (bits_of n i))

-- the bits move down, and those that leave come in above
unfoldable pub irotr : ℕ → ℕ → ℕ → ℕ
irotr n i j = let k = j % n in number_of (drop k (bits_of n i) ++ take k (bits_of n i))

-- the zeros above the highest 1
unfoldable pub iclz : ℕ → ℕ → ℕ
iclz n i = zeros_in_front (reverse (bits_of n i))

-- the zeros below the lowest 1
unfoldable pub ictz : ℕ → ℕ → ℕ
ictz n i = zeros_in_front (bits_of n i)

-- the ones
unfoldable pub ipopcnt : ℕ → ℕ → ℕ
ipopcnt n i = sum (bits_of n i)

-- ---- tests

unfoldable pub ieqz : ℕ → ℕ → Bool
ieqz n i = i == 0

unfoldable pub ieq : ℕ → ℕ → ℕ → Bool
ieq n i j = i == j

unfoldable pub ine : ℕ → ℕ → ℕ → Bool
ine n i j = not (i == j)

unfoldable pub ilt_s : ℕ → ℕ → ℕ → Bool
ilt_s n i j = int_lt (signed n i) (signed n j)

unfoldable pub ilt_u : ℕ → ℕ → ℕ → Bool
ilt_u n i j = nat_lt i j

unfoldable pub igt_s : ℕ → ℕ → ℕ → Bool
igt_s n i j = int_lt (signed n j) (signed n i)

unfoldable pub igt_u : ℕ → ℕ → ℕ → Bool
igt_u n i j = nat_lt j i

unfoldable pub ile_s : ℕ → ℕ → ℕ → Bool
ile_s n i j = int_le (signed n i) (signed n j)

unfoldable pub ile_u : ℕ → ℕ → ℕ → Bool
ile_u n i j = nat_le i j

unfoldable pub ige_s : ℕ → ℕ → ℕ → Bool
ige_s n i j = int_le (signed n j) (signed n i)

unfoldable pub ige_u : ℕ → ℕ → ℕ → Bool
ige_u n i j = nat_le j i

-- ---- conversions

-- the lowest n bits
unfoldable pub wrapped : ℕ → ℕ → ℕ
wrapped n i = i % 2 ^ n

-- an integer of m bits, read with sign, as one of n bits
unfoldable pub extended_s : ℕ → ℕ → ℕ → ℕ
extended_s m n i = unsigned n (signed m i)

-- the lowest m bits, read with sign (the instructions on sign extension, core 2.0)
unfoldable pub iextend_s : ℕ → ℕ → ℕ → ℕ
iextend_s m n i = extended_s m n (wrapped m i)
