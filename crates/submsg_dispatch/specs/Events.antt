-- The events of messages.
use Rattle.std.specs.Prelude.{ℕ, List, [], ◌∷◌, codes, decimal}
use Rattle.hex.specs.Hex.{encode_lower}
use Rattle.sha2.specs.Sha256.{sha256}
use Rattle.coin_amounts.specs.Plain.{Coin}
use Rattle.coin_amounts.specs.Text.{coins_text}
use Rattle.chain_addr.specs.Text.{text_of}
use Rattle.chain_msgs.specs.Plain.{Attribute, Event}

abbrev pub attribute : List ℕ → List ℕ → Attribute
attribute key value = record { key = key; value = value }

-- coins moved; the addresses are written under the prefix
abbrev pub transfer : List ℕ → List ℕ → List ℕ → List Coin → Event
transfer prefix from to coins = record {
  kind = codes "transfer";
  attributes = attribute (codes "recipient") (text_of prefix to) ∷ attribute (codes "sender") (text_of prefix from) ∷ attribute (codes "amount") (coins_text coins) ∷ [];
}

abbrev pub burn : List ℕ → List ℕ → List Coin → Event
burn prefix from coins = record {
  kind = codes "burn";
  attributes = attribute (codes "burner") (text_of prefix from) ∷ attribute (codes "amount") (coins_text coins) ∷ [];
}

-- a code that is stored under an id
abbrev pub code_stored : List ℕ → ℕ → Event
code_stored code id = record {
  kind = codes "store_code";
  attributes = attribute (codes "code_checksum") (encode_lower (sha256 code)) ∷ attribute (codes "code_id") (decimal id) ∷ [];
}

-- of this kind, on the code with an id
abbrev pub of_code : List ℕ → ℕ → Event
of_code kind id = record { kind = kind; attributes = attribute (codes "code_id") (decimal id) ∷ [] }
