-- The addresses of contracts.
use Rattle.std.specs.Prelude.{ℕ, List, [], ◌∷◌, ◌++◌, length, codes}
use Rattle.std.specs.Int.{to_be_bytes, w64}
use Rattle.sha2.specs.Sha256.{sha256}

-- a number of eight bytes, the highest first
abbrev pub be8 : ℕ → List ℕ
be8 n = to_be_bytes w64 n

abbrev pub after_length : List ℕ → List ℕ
after_length bytes = be8 (length bytes) ++ bytes

-- of the instance with this number, which was made of the code with this number
abbrev pub classic_address : ℕ → ℕ → List ℕ
classic_address code instance = sha256 (sha256 (codes "module") ++ codes "wasm" ++ 0 ∷ [] ++ be8 code ++ be8 instance)

-- of an instance that its creator made of the code with this checksum under a salt; the message is empty
abbrev pub predictable_address : List ℕ → List ℕ → List ℕ → List ℕ
predictable_address checksum creator salt =
    sha256 (sha256 (codes "module") ++ codes "wasm" ++ 0 ∷ [] ++ after_length checksum ++ after_length creator ++ after_length salt ++ after_length [])
