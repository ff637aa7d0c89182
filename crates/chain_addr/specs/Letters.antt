-- The letters of bech32, and the case of letters (BIP 173).
use Rattle.std.specs.Prelude.{ℕ, ◌≤◌, List, codes, slice_index, length, All}

-- the letter of the value v is the one at place v
abbrev pub letters : List ℕ
letters = codes "qpzry9x8gf2tvdw0s3jn54khce6mua7l"

abbrev pub letter_of : ℕ → ℕ
letter_of value = slice_index letters value

-- 1 to 20 letters a to z
pub record IsPrefix (prefix : List ℕ) : Type 0 where
  pub some : 1 ≤ length prefix
  pub few : length prefix ≤ 20
  pub lower : All (λ c. (97 ≤ c) × (c ≤ 122)) prefix
