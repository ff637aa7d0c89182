-- Numbers in a list of bytes, the lowest byte first (WebAssembly core 1.0, section 4.3.1).
use Rattle.std.specs.Prelude.{◌≡◌, ℕ, zero, suc, ◌+◌, ◌*◌, ◌/◌, ◌%◌, ◌⊎◌, List, [], ◌∷◌, ◌++◌, length, take, drop, slice_range}

-- the number that these bytes spell
unfoldable pub number_of : List ℕ → ℕ
number_of [] = 0
number_of (byte ∷ bytes) = byte + 256 * number_of bytes

-- the bytes that spell the number, or its lowest part, in this width
unfoldable pub bytes_of : ℕ → ℕ → List ℕ
bytes_of zero n = []
bytes_of (suc width) n = n % 256 ∷ bytes_of width (n / 256)

-- the number of this width at a place
abbrev pub number_at : List ℕ → ℕ → ℕ → ℕ
number_at memory at width = number_of (slice_range memory at (at + width))

-- other bytes in place of those from a place on
abbrev pub overwritten : List ℕ → ℕ → List ℕ → List ℕ
overwritten memory at bytes = take at memory ++ bytes ++ drop (at + length bytes) memory

-- the widths of loads and stores
abbrev pub IsWidth : ℕ → Type 0
IsWidth width = (width ≡ 1) ⊎ (width ≡ 2) ⊎ (width ≡ 4) ⊎ (width ≡ 8)
