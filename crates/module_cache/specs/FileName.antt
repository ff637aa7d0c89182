-- The name of a code's file: the hex digits of its SHA-256, and an ending.
use Rattle.std.specs.Prelude.{ℕ, List, ◌++◌, codes}
use Rattle.sha2.specs.Sha256.{sha256}
use Rattle.hex.specs.Hex.{encode_lower}

abbrev pub file_name_of : List ℕ → List ℕ
file_name_of code = encode_lower (sha256 code) ++ codes ".wmf"
