-- The record that bytes stand for under a key, read from the left.
use Rattle.std.specs.Prelude.{ℕ, ◌+◌, ◌*◌, ◌^◌, List, [], ◌∷◌, Option, Some, None, ◌==◌, if◌then◌else◌}
use Rattle.chain_records.specs.declared.record.Counters.{Counters}
use Rattle.chain_records.specs.Keys.{PlainKey}
use Rattle.chain_records.specs.Keys as keys
use Rattle.chain_records.specs.Records.{PlainFacts, PlainCodeInfo, PlainContract, PlainStored, facts, counters, amount, code_bytes, code_info, mark, contract, value}
use Rattle.chain_records.specs.Reading.{◌>>=◌, ended, front_at, number_at, bytes_at, text_at, list_at, optional_at}

unfoldable pub facts_at : List ℕ → Option (PlainFacts × List ℕ)
facts_at bytes = do
  chain_id ← text_at bytes
  prefix ← text_at chain_id.1
  authority ← optional_at bytes_at prefix.1
  caps ← list_at text_at authority.1
  query_gas ← number_at caps.1
  height ← number_at query_gas.1
  time ← number_at height.1
  Some (
    record {
      chain_id = chain_id.0;
      prefix = prefix.0;
      authority = authority.0;
      caps = caps.0;
      query_gas = query_gas.0;
      height = height.0;
      time = time.0;
    },
    time.1,
  )

unfoldable pub counters_at : List ℕ → Option (Counters × List ℕ)
counters_at bytes = do
  next_code ← number_at bytes
  next_instance ← number_at next_code.1
  Some (record { next_code = next_code.0; next_instance = next_instance.0 }, next_instance.1)

-- the high half, and the low half
unfoldable pub amount_at : List ℕ → Option (ℕ × List ℕ)
amount_at bytes = do
  high ← number_at bytes
  low ← number_at high.1
  Some (high.0 * 2 ^ 64 + low.0, low.1)

unfoldable pub code_info_at : List ℕ → Option (PlainCodeInfo × List ℕ)
code_info_at bytes = do
  creator ← bytes_at bytes
  checksum ← front_at 32 creator.1
  allow ← optional_at (list_at bytes_at) checksum.1
  Some (record { creator = creator.0; checksum = checksum.0; allow = allow.0 }, allow.1)

unfoldable pub contract_at : List ℕ → Option (PlainContract × List ℕ)
contract_at bytes = do
  code_id ← number_at bytes
  creator ← bytes_at code_id.1
  admin ← optional_at bytes_at creator.1
  label ← text_at admin.1
  Some (record { code_id = code_id.0; creator = creator.0; admin = admin.0; label = label.0 }, label.1)

-- a record of one kind, which all of the bytes are
abbrev pub whole : {A : Type 0} → (A → PlainStored) → Option (A × List ℕ) → Option PlainStored
whole kind read = do
  a ← read
  ended (kind a.0) a.1

-- a byte 1
unfoldable pub mark_of : List ℕ → Option PlainStored
mark_of [] = None
mark_of (b ∷ bytes) = if b == 1 then ended mark bytes else None

unfoldable pub stored_of : PlainKey → List ℕ → Option PlainStored
stored_of keys.facts bytes = whole facts (facts_at bytes)
stored_of keys.counters bytes = whole counters (counters_at bytes)
stored_of (keys.balance addr denom) bytes = whole amount (amount_at bytes)
stored_of (keys.supply denom) bytes = whole amount (amount_at bytes)
stored_of (keys.code id) bytes = Some (code_bytes bytes)
stored_of (keys.code_info id) bytes = whole code_info (code_info_at bytes)
stored_of (keys.pin id) bytes = mark_of bytes
stored_of (keys.contract addr) bytes = whole contract (contract_at bytes)
stored_of (keys.storage addr key) bytes = Some (value bytes)
