-- The keys of the chain's state, and the bytes that stand for each.
use Rattle.std.specs.Prelude.{ℕ, ◌≡◌, ◌<◌, ◌≤◌, ◌^◌, List, [], ◌∷◌, ◌++◌, length, string_bytes}
use Rattle.std.specs.Str.{IsUtf8}
use Rattle.chain_records.specs.declared.key.Key.{Key}
use Rattle.chain_records.specs.declared.key.Key.TheVariants as keys
use Rattle.chain_records.specs.Pieces.{be8}

-- a key as a plain value: a list in place of each vector and of each text, which stands as its bytes
pub data PlainKey : Type 0 where
  facts : PlainKey
  counters : PlainKey
  balance : List ℕ → List ℕ → PlainKey
  supply : List ℕ → PlainKey
  code : ℕ → PlainKey
  code_info : ℕ → PlainKey
  pin : ℕ → PlainKey
  contract : List ℕ → PlainKey
  storage : List ℕ → List ℕ → PlainKey

abbrev pub plain_key : Key → PlainKey
plain_key keys.Facts = facts
plain_key keys.Counters = counters
plain_key (keys.Balance addr denom) = balance addr.items (string_bytes denom)
plain_key (keys.Supply denom) = supply (string_bytes denom)
plain_key (keys.Code id) = code id
plain_key (keys.CodeInfo id) = code_info id
plain_key (keys.Pin id) = pin id
plain_key (keys.Contract addr) = contract addr.items
plain_key (keys.Storage addr key) = storage addr.items key.items

-- a byte that tells the kind, and what names one of this kind; an address that something follows stands
-- behind a byte with its length
unfoldable pub key_bytes : PlainKey → List ℕ
key_bytes facts = 0 ∷ []
key_bytes (balance addr denom) = 1 ∷ length addr ∷ addr ++ denom
key_bytes (code id) = 2 ∷ be8 id
key_bytes (code_info id) = 3 ∷ be8 id
key_bytes (contract addr) = 4 ∷ addr
key_bytes (storage addr key) = 5 ∷ length addr ∷ addr ++ key
key_bytes (pin id) = 6 ∷ be8 id
key_bytes counters = 7 ∷ []
key_bytes (supply denom) = 8 ∷ denom

-- the length of an address fits the byte that it has in the key
abbrev pub HasShortAddress : PlainKey → Type 0
HasShortAddress (balance addr denom) = length addr ≤ 255
HasShortAddress (storage addr key) = length addr ≤ 255
HasShortAddress key = Unit {0}

-- an address of an account has 1 to 64 bytes
abbrev pub IsAddress : List ℕ → Type 0
IsAddress addr = (1 ≤ length addr) × (length addr ≤ 64)

-- a number has 64 bits, and a denom is a text
abbrev pub IsKey : PlainKey → Type 0
IsKey facts = Unit {0}
IsKey counters = Unit {0}
IsKey (balance addr denom) = (length addr ≤ 255) × IsUtf8 denom
IsKey (supply denom) = IsUtf8 denom
IsKey (code id) = id < 2 ^ 64
IsKey (code_info id) = id < 2 ^ 64
IsKey (pin id) = id < 2 ^ 64
IsKey (contract addr) = Unit {0}
IsKey (storage addr key) = length addr ≤ 255

-- the bytes are those of the key
pub record IsKeyOf (bytes : List ℕ) (key : PlainKey) : Type 0 where
  pub is_key : IsKey key
  pub same : key_bytes key ≡ bytes
