-- What a reply has as its data, in the encoding of protobuf: a message of one or two fields of bytes, as CosmWasm's
-- `MsgExecuteContractResponse` (data) and `MsgInstantiateContractResponse` (address, data).
use Rattle.std.specs.Prelude.{ℕ, zero, suc, ◌+◌, ◌*◌, ◌/◌, ◌%◌, nat_lt, List, [], ◌∷◌, ◌++◌, length, Option, Some, None, unwrap_or, if◌then◌else◌}

-- A number to the base 128 in at most so many bytes: each byte has seven bits, the lowest first, and each but the last has
-- 128 added.
unfoldable pub varint_in : ℕ → ℕ → List ℕ
varint_in zero n = []
varint_in (suc more) n = if nat_lt n 128 then n ∷ [] else (n % 128 + 128) ∷ varint_in more (n / 128)

-- of a number below 2^64, which needs ten bytes at most
abbrev pub varint : ℕ → List ℕ
varint n = varint_in 10 n

-- the field of this number: its key, the number of bytes, and the bytes; an empty one is absent
abbrev pub bytes_field : ℕ → List ℕ → List ℕ
bytes_field number [] = []
bytes_field number (b ∷ bytes) = (8 * number + 2) ∷ varint (length (b ∷ bytes)) ++ b ∷ bytes

-- of an instantiation the address and the bytes, of other calls the bytes alone
abbrev pub reply_bytes : Option (List ℕ) → Option (List ℕ) → List ℕ
reply_bytes None out = bytes_field 1 (unwrap_or out [])
reply_bytes (Some address) out = bytes_field 1 address ++ bytes_field 2 (unwrap_or out [])
