-- The shortest spellings of numbers in LEB128 (core 1.0, section 5.2.2). Numbers with sign stand as their two's complement.
use Rattle.std.specs.Prelude.{ℕ, zero, suc, ◌+◌, ◌-◌, ◌^◌, ◌/◌, ◌%◌, ◌&&◌, if◌then◌else◌, nat_lt, nat_le, List, [], ◌∷◌, Option, Some, None}

-- a number without sign in at most so many bytes: each but the last has seven bits more of it
unfoldable pub unsigned_in : ℕ → ℕ → List ℕ
unsigned_in zero n = []
unsigned_in (suc more) n = if nat_lt n 128 then n ∷ [] else (n % 128 + 128) ∷ unsigned_in more (n / 128)

-- an index, a length or another number without sign, of 32 bits
abbrev pub unsigned : ℕ → List ℕ
unsigned n = unsigned_in 5 n

-- the byte that spells a number with sign, of so many bits, alone, if one does: from -64 to 63 there is one
abbrev pub signed_byte : ℕ → ℕ → Option ℕ
signed_byte bits n =
    if nat_lt n 64 && nat_lt n (2 ^ (bits - 1)) then Some n
    else (if nat_le (2 ^ bits) (n + 64) then Some (n + 128 - 2 ^ bits) else None)

-- the byte alone, or else these bytes
abbrev pub alone_or : Option ℕ → List ℕ → List ℕ
alone_or (Some b) longer = b ∷ []
alone_or None longer = longer

-- a number with sign, of so many bits, in at most so many bytes
unfoldable pub signed_in : ℕ → ℕ → ℕ → List ℕ
signed_in zero bits n = []
signed_in (suc more) bits n = alone_or (signed_byte bits n) ((n % 128 + 128) ∷ signed_in more (bits - 7) (n / 128))

abbrev pub signed_32 : ℕ → List ℕ
signed_32 n = signed_in 5 32 n

abbrev pub signed_64 : ℕ → List ℕ
signed_64 n = signed_in 10 64 n
