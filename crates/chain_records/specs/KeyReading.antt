-- The key that bytes stand for, read from the left.
use Rattle.std.specs.Prelude.{ℕ, List, [], ◌∷◌, Option, Some, None, ◌==◌, if◌then◌else◌}
use Rattle.chain_records.specs.Keys.{PlainKey, facts, counters, balance, supply, code, code_info, pin, contract, storage}
use Rattle.chain_records.specs.Reading.{◌>>=◌, ended, front_at, number_of, text_of}

-- an address behind a byte with its length
unfoldable pub short_at : List ℕ → Option (List ℕ × List ℕ)
short_at [] = None
short_at (n ∷ bytes) = front_at n bytes

abbrev pub balance_of : List ℕ → Option PlainKey
balance_of bytes = do
  addr ← short_at bytes
  denom ← text_of addr.1
  Some (balance addr.0 denom)

abbrev pub storage_of : List ℕ → Option PlainKey
storage_of bytes = do
  addr ← short_at bytes
  Some (storage addr.0 addr.1)

abbrev pub supply_of : List ℕ → Option PlainKey
supply_of bytes = do
  denom ← text_of bytes
  Some (supply denom)

-- a key that is named by a number
abbrev pub numbered : (ℕ → PlainKey) → List ℕ → Option PlainKey
numbered key bytes = do
  id ← number_of bytes
  Some (key id)

unfoldable pub key_behind : ℕ → List ℕ → Option PlainKey
key_behind tag bytes =
    if tag == 0 then ended facts bytes
    else if tag == 1 then balance_of bytes
    else if tag == 2 then numbered code bytes
    else if tag == 3 then numbered code_info bytes
    else if tag == 4 then Some (contract bytes)
    else if tag == 5 then storage_of bytes
    else if tag == 6 then numbered pin bytes
    else if tag == 7 then ended counters bytes
    else if tag == 8 then supply_of bytes
    else None

unfoldable pub key_of : List ℕ → Option PlainKey
key_of [] = None
key_of (tag ∷ bytes) = key_behind tag bytes
