-- The text of an address in bech32 (BIP 173).
use Rattle.std.specs.Prelude.{ℕ, ◌≡◌, ◌<◌, List, ◌∷◌, ◌++◌, All, map, length}
use Rattle.chain_addr.specs.Checksum.{remainder, expanded}
use Rattle.chain_addr.specs.Groups.{IsGrouped}
use Rattle.chain_addr.specs.Letters.{letter_of}

-- the prefix, `1`, and the letters of the bytes in groups of five bits and of the six groups with which
-- the remainder is 1
pub record IsBech32 (prefix bytes text : List ℕ) : Type 0 where
  pub groups : List ℕ
  pub padding : ℕ
  pub check : List ℕ
  pub grouped : IsGrouped bytes groups padding
  pub six : length check ≡ 6
  pub small : All (λ group. group < 32) check
  pub sum : remainder (expanded prefix ++ groups ++ check) ≡ 1
  pub text_is : text ≡ prefix ++ 49 ∷ map letter_of (groups ++ check)
