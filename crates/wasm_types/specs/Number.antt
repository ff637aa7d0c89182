-- Numbers in LEB128 (core 1.0, section 5.2.2). Each byte has seven bits of the number, the lowest first, and is below 128
-- where it is the last. A number of so many bits has at most as many bytes as it needs for them, and the bits of the last
-- byte that don't count are zero, or copies of the sign. A signed number stands for its two's complement.
use Rattle.std.specs.Prelude.{◌≡◌, ℕ, ◌+◌, ◌-◌, ◌*◌, ◌^◌, ◌<◌, ◌≤◌, Bool, true, false, ◌&&◌, if◌then◌else◌, nat_lt, nat_le, List, [], ◌∷◌, ◌++◌, length, drop, slice_range, Option, Some, None, option_map, Result, Ok, Err}
use Rattle.wasm_types.specs.declared.kind.ReadKind.{ReadKind}
use Rattle.wasm_types.specs.declared.kind.ReadKind.TheVariants.{Cut, Leb}
use Rattle.wasm_types.specs.Place.{Place, Reading, breaks}

-- what the last byte, below 128, of a number of so many bits stands for, if it may stand there
abbrev pub last_of : Bool → ℕ → ℕ → Option ℕ
last_of false bits b = if nat_lt b (2 ^ bits) then Some b else None
last_of true bits b =
    if nat_lt b 64
    then (if nat_lt b (2 ^ (bits - 1)) then Some b else None)
    else (if nat_le 128 (b + 2 ^ (bits - 1)) then Some (2 ^ bits - (128 - b)) else None)

-- the bytes are a spelling of the number
abbrev pub IsNumber : Bool → ℕ → List ℕ → ℕ → Type 0
IsNumber signed bits [] n = ⊥
IsNumber signed bits (b ∷ []) n = (b < 128) × (last_of signed bits b ≡ Some n)
IsNumber signed bits (b ∷ c ∷ bytes) n =
    (128 ≤ b) × (7 < bits) × (high : ℕ) × (n + 128 ≡ b + 128 * high) × IsNumber signed (bits - 7) (c ∷ bytes) high

-- the bytes end within a spelling, so that more bytes complete one
abbrev pub IsCutNumber : Bool → ℕ → List ℕ → Type 0
IsCutNumber signed bits bytes = (more : List ℕ) × (n : ℕ) × (0 < length more) × IsNumber signed bits (bytes ++ more) n

-- the number at the front and the place after it
unfoldable pub number_at : Bool → ℕ → ℕ → List ℕ → Option (ℕ × Place)
number_at signed bits at [] = None
number_at signed bits at (b ∷ bytes) =
    if nat_lt b 128
    then option_map (λ n. (n, record { at = at + 1; rest = bytes })) (last_of signed bits b)
    else (if nat_lt 7 bits
    then option_map (λ x. (b - 128 + 128 * x.0, x.1)) (number_at signed (bits - 7) (at + 1) bytes)
    else None)

-- whether the bytes end within a spelling
unfoldable pub is_cut_number : ℕ → List ℕ → Bool
is_cut_number bits [] = true
is_cut_number bits (b ∷ bytes) = nat_le 128 b && (nat_lt 7 bits && is_cut_number (bits - 7) bytes)

-- why no number of so many bits stands before these bytes
abbrev pub number_kind : ℕ → List ℕ → ReadKind
number_kind bits bytes = if is_cut_number bits bytes then Cut else Leb

abbrev pub number_or : ℕ → Place → Option (ℕ × Place) → Reading ℕ
number_or bits start (Some x) = Ok x
number_or bits start None = breaks start.at (number_kind bits start.rest)

unfoldable pub number_read : Bool → ℕ → Place → Reading ℕ
number_read signed bits start = number_or bits start (number_at signed bits start.at start.rest)

-- ---- what a reader over a whole input answers at a place

abbrev pub place_at : ℕ → List ℕ → Place
place_at at bytes = record { at = at; rest = drop at bytes }

abbrev pub HasFound : List ℕ → Option (ℕ × ℕ) → Option (ℕ × Place) → Type 0
HasFound bytes None read = read ≡ None
HasFound bytes (Some x) read = (read ≡ Some (x.0, place_at x.1 bytes)) × (x.1 ≤ length bytes)

-- what a call answered, its number seen without sign
abbrev pub found_in : {X E : Type 0} → (X → ℕ) → Result (X × ℕ) E → Option (ℕ × ℕ)
found_in view (Ok x) = Some (view x.0, x.1)
found_in view (Err e) = None

-- the bytes from the one place up to the other are a spelling of the number
pub record StandsAt (signed : Bool) (bits : ℕ) (bytes : List ℕ) (at after n : ℕ) : Type 0 where
  pub ordered : at < after
  pub in_range : after ≤ length bytes
  pub spelled : IsNumber signed bits (slice_range bytes at after) n

-- no spelling of a number stands at the place
abbrev pub NoneStandsAt : Bool → ℕ → List ℕ → ℕ → Type 0
NoneStandsAt signed bits bytes at = (after n : ℕ) → StandsAt signed bits bytes at after n → ⊥
