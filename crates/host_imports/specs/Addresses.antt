-- What the imports on addresses answer (CosmWasm 1.x): texts are those of bech32 (BIP 173) under the chain's prefix.
use Rattle.std.specs.Prelude.{ℕ, List, [], ◌∷◌, Option, Some, None, Result, Ok, Err, codes, if◌then◌else◌}
use Rattle.std.specs.List.{list_any}
use Rattle.std.specs.Str.{is_utf8}
use Rattle.chain_addr.specs.Address.{address_of}
use Rattle.chain_addr.specs.Reading.{is_upper}
use Rattle.chain_addr.specs.Text.{text_of}

-- the bytes of an address, or why a text has none
abbrev pub found : Option (List ℕ) → Result (List ℕ) (List ℕ)
found (Some bytes) = Ok bytes
found None = Err (codes "bad address")

abbrev pub canonical : List ℕ → List ℕ → Result (List ℕ) (List ℕ)
canonical prefix text = if is_utf8 text then found (address_of prefix text) else Err (codes "not utf8")

-- the text of an address, or why bytes are none
abbrev pub human : List ℕ → List ℕ → Result (List ℕ) (List ℕ)
human prefix [] = Err (codes "bad length")
human prefix (b ∷ bytes) = Ok (text_of prefix (b ∷ bytes))

abbrev pub normal : List ℕ → Result (List ℕ) (List ℕ) → Option (List ℕ)
normal text (Err why) = Some why
normal text (Ok bytes) = if list_any is_upper text then Some (codes "not normalized") else None

-- why a text isn't that of an address in lower case, if it isn't
abbrev pub refused : List ℕ → List ℕ → Option (List ℕ)
refused prefix text = normal text (canonical prefix text)
