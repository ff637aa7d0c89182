-- How the parts of a record are written one after the other, so that each can be told from what follows.
use Rattle.std.specs.Prelude.{ℕ, ◌<◌, ◌^◌, List, [], ◌∷◌, ◌++◌, length, Option, Some, None}
use Rattle.std.specs.Int.{w64, w128, to_be_bytes}
use Rattle.std.specs.List.{flat_map, AllByRecursion}
use Rattle.std.specs.Str.{IsUtf8}

-- a number of eight bytes, the highest first
abbrev pub be8 : ℕ → List ℕ
be8 n = to_be_bytes w64 n

-- a number of sixteen bytes, the highest first
abbrev pub be16 : ℕ → List ℕ
be16 n = to_be_bytes w128 n

-- bytes, or a text, behind their number
abbrev pub after_length : List ℕ → List ℕ
after_length bytes = be8 (length bytes) ++ bytes

-- items behind their number
unfoldable pub listed : {A : Type 0} → (A → List ℕ) → List A → List ℕ
listed written items = be8 (length items) ++ flat_map written items

-- a byte that tells whether there is a value, and the value
unfoldable pub optional : {A : Type 0} → (A → List ℕ) → Option A → List ℕ
optional written None = 0 ∷ []
optional written (Some a) = 1 ∷ written a

-- ---- what can be written so: lengths and numbers of items have 64 bits, and texts are UTF-8

abbrev pub IsNumber : ℕ → Type 0
IsNumber n = n < 2 ^ 64

abbrev pub HasLength : {A : Type 0} → List A → Type 0
HasLength items = length items < 2 ^ 64

abbrev pub IsText : List ℕ → Type 0
IsText bytes = HasLength bytes × IsUtf8 bytes

abbrev pub AreListed : {A : Type 0} → (A → Type 0) → List A → Type 0
AreListed Is items = HasLength items × AllByRecursion Is items

abbrev pub IsOptional : {A : Type 0} → (A → Type 0) → Option A → Type 0
IsOptional Is None = Unit {0}
IsOptional Is (Some a) = Is a
