-- The plain forms of what is given and kept: a list of bytes in place of each vector.
use Rattle.std.specs.Prelude.{ℕ, List, Option}
use Rattle.std.specs.Option.{option_map}
use Rattle.std.specs.Global.{Vec}

abbrev pub bytes_view : Vec ℕ → List ℕ
bytes_view bytes = bytes.items

abbrev pub value_view : Option (Vec ℕ) → Option (List ℕ)
value_view value = option_map bytes_view value

abbrev pub entry_view : Vec ℕ × Vec ℕ → List ℕ × List ℕ
entry_view entry = (entry.0.items, entry.1.items)
