-- The texts that name a denom: a letter, and then 2 to 127 letters, digits or `/ : . _ -`.
use Rattle.std.specs.Prelude.{ℕ, Bool, false, ◌&&◌, ◌||◌, List, [], ◌∷◌, length, ◌==◌, nat_le, IsTrue}
use Rattle.std.specs.Char.{is_ascii_alphabetic, is_ascii_alphanumeric}
use Rattle.std.specs.List.{list_all}

-- a letter, a digit, or one of `/ : . _ -`
abbrev pub is_denom_byte : ℕ → Bool
is_denom_byte b = is_ascii_alphanumeric b || b == 47 || b == 58 || b == 46 || b == 95 || b == 45

abbrev pub is_denom : List ℕ → Bool
is_denom [] = false
is_denom (first ∷ rest) =
    is_ascii_alphabetic first && nat_le 2 (length rest) && nat_le (length rest) 127 && list_all is_denom_byte rest

abbrev pub IsDenom : List ℕ → Type 0
IsDenom text = IsTrue (is_denom text)
