-- The number that a text of an amount writes: one or more decimal digits, at most 2^128 - 1.
use Rattle.std.specs.Prelude.{ℕ, ◌^◌, ◌&&◌, List, [], ◌∷◌, Option, Some, None, nat_lt, if◌then◌else◌}
use Rattle.std.specs.Char.{is_ascii_digit}
use Rattle.std.specs.List.{list_all}
use Rattle.std.specs.Str.Parse.{digits_value}

abbrev pub amount_of : List ℕ → Option ℕ
amount_of [] = None
amount_of (c ∷ cs) =
    if list_all is_ascii_digit (c ∷ cs) && nat_lt (digits_value 10 (c ∷ cs)) (2 ^ 128) then Some (digits_value 10 (c ∷ cs)) else None
