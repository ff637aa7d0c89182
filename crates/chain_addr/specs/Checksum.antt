-- The checksum of bech32 (BIP 173). A list of values of five bits is a polynomial over a field of 32
-- elements; its remainder is kept as a number of thirty bits, six values, the first the highest.
use Rattle.std.specs.Prelude.{ℕ, ◌+◌, ◌*◌, ◌/◌, ◌%◌, List, ◌∷◌, ◌++◌, map, fold, bit_xor, if◌then◌else◌, ◌==◌}

-- the generator, where the lowest bit is set
abbrev pub part : ℕ → ℕ → ℕ
part bits generator = if bits % 2 == 1 then generator else 0

-- what a value that is moved out at the top adds
abbrev pub generated : ℕ → ℕ
generated top =
    bit_xor (bit_xor (bit_xor (bit_xor (part top 0x3b6a57b2) (part (top / 2) 0x26508e6d)) (part (top / 4) 0x1ea119fa)) (part (top / 8) 0x3d4233dd)) (part (top / 16) 0x2a1462b3)

-- one more value is moved in
unfoldable pub step : ℕ → ℕ → ℕ
step state value = bit_xor (state % 0x2000000 * 32 + value) (generated (state / 0x2000000))

abbrev pub remainder : List ℕ → ℕ
remainder values = fold step 1 values

-- the values that stand for the prefix: the high bits of each character, 0, and the low five bits
abbrev pub expanded : List ℕ → List ℕ
expanded prefix = map (λ c. c / 32) prefix ++ 0 ∷ map (λ c. c % 32) prefix
