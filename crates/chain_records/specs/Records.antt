-- What is kept under the keys of the chain's state, and the bytes of each record.
use Rattle.std.specs.Prelude.{ℕ, ◌≡◌, ◌<◌, ◌^◌, List, [], ◌∷◌, ◌++◌, length, map, Option, string_bytes}
use Rattle.std.specs.Option.{option_map}
use Rattle.std.specs.Global.{Vec}
use Rattle.chain_records.specs.declared.record.Facts.{Facts}
use Rattle.chain_records.specs.declared.record.Counters.{Counters}
use Rattle.chain_records.specs.declared.record.CodeInfo.{CodeInfo}
use Rattle.chain_records.specs.declared.record.Contract.{Contract}
use Rattle.chain_records.specs.declared.record.Stored.{Stored}
use Rattle.chain_records.specs.declared.record.Stored.TheVariants as records
use Rattle.chain_records.specs.Keys.{PlainKey}
use Rattle.chain_records.specs.Keys as keys
use Rattle.chain_records.specs.Pieces.{be8, be16, after_length, listed, optional, IsNumber, HasLength, IsText, AreListed, IsOptional}

-- ---- records as plain values: a list in place of each vector and of each text, which stands as its bytes

abbrev pub bytes_view : Vec ℕ → List ℕ
bytes_view bytes = bytes.items

abbrev pub list_view : Vec (Vec ℕ) → List (List ℕ)
list_view items = map bytes_view items.items

pub record PlainFacts : Type 0 where
  pub chain_id : List ℕ
  pub prefix : List ℕ
  pub authority : Option (List ℕ)
  pub caps : List (List ℕ)
  pub query_gas : ℕ
  pub height : ℕ
  pub time : ℕ

abbrev pub plain_facts : Facts → PlainFacts
plain_facts f = record {
  chain_id = string_bytes f.chain_id;
  prefix = string_bytes f.prefix;
  authority = option_map bytes_view f.authority;
  caps = map string_bytes f.caps.items;
  query_gas = f.query_gas;
  height = f.height;
  time = f.time;
}

pub record PlainCodeInfo : Type 0 where
  pub creator : List ℕ
  pub checksum : List ℕ
  pub allow : Option (List (List ℕ))

abbrev pub plain_code_info : CodeInfo → PlainCodeInfo
plain_code_info info = record { creator = info.creator.items; checksum = info.checksum; allow = option_map list_view info.allow }

pub record PlainContract : Type 0 where
  pub code_id : ℕ
  pub creator : List ℕ
  pub admin : Option (List ℕ)
  pub label : List ℕ

abbrev pub plain_contract : Contract → PlainContract
plain_contract c = record { code_id = c.code_id; creator = c.creator.items; admin = option_map bytes_view c.admin; label = string_bytes c.label }

pub data PlainStored : Type 0 where
  facts : PlainFacts → PlainStored
  counters : Counters → PlainStored
  amount : ℕ → PlainStored
  code_bytes : List ℕ → PlainStored
  code_info : PlainCodeInfo → PlainStored
  mark : PlainStored
  contract : PlainContract → PlainStored
  value : List ℕ → PlainStored

abbrev pub plain_stored : Stored → PlainStored
plain_stored (records.Facts f) = facts (plain_facts f)
plain_stored (records.Counters c) = counters c
plain_stored (records.Amount n) = amount n
plain_stored (records.CodeBytes bytes) = code_bytes bytes.items
plain_stored (records.CodeInfo info) = code_info (plain_code_info info)
plain_stored records.Mark = mark
plain_stored (records.Contract c) = contract (plain_contract c)
plain_stored (records.Value bytes) = value bytes.items

-- ---- their bytes

abbrev pub facts_bytes : PlainFacts → List ℕ
facts_bytes f = after_length f.chain_id ++ after_length f.prefix ++ optional after_length f.authority ++ listed after_length f.caps ++ be8 f.query_gas ++ be8 f.height ++ be8 f.time

abbrev pub counters_bytes : Counters → List ℕ
counters_bytes c = be8 c.next_code ++ be8 c.next_instance

abbrev pub code_info_bytes : PlainCodeInfo → List ℕ
code_info_bytes info = after_length info.creator ++ info.checksum ++ optional (listed after_length) info.allow

abbrev pub contract_bytes : PlainContract → List ℕ
contract_bytes c = be8 c.code_id ++ after_length c.creator ++ optional after_length c.admin ++ after_length c.label

-- a code and a contract's value stand as they are
unfoldable pub stored_bytes : PlainStored → List ℕ
stored_bytes (facts f) = facts_bytes f
stored_bytes (counters c) = counters_bytes c
stored_bytes (amount n) = be16 n
stored_bytes (code_bytes bytes) = bytes
stored_bytes (code_info info) = code_info_bytes info
stored_bytes mark = 1 ∷ []
stored_bytes (contract c) = contract_bytes c
stored_bytes (value bytes) = bytes

-- ---- what can be written so

pub record AreFacts (f : PlainFacts) : Type 0 where
  pub chain_id : IsText f.chain_id
  pub prefix : IsText f.prefix
  pub authority : IsOptional HasLength f.authority
  pub caps : AreListed IsText f.caps
  pub query_gas : IsNumber f.query_gas
  pub height : IsNumber f.height
  pub time : IsNumber f.time

pub record AreCounters (c : Counters) : Type 0 where
  pub next_code : IsNumber c.next_code
  pub next_instance : IsNumber c.next_instance

pub record IsCodeInfo (info : PlainCodeInfo) : Type 0 where
  pub creator : HasLength info.creator
  pub checksum : length info.checksum ≡ 32
  pub allow : IsOptional (AreListed HasLength) info.allow

pub record IsContract (c : PlainContract) : Type 0 where
  pub code_id : IsNumber c.code_id
  pub creator : HasLength c.creator
  pub admin : IsOptional HasLength c.admin
  pub label : IsText c.label

abbrev pub IsRecord : PlainStored → Type 0
IsRecord (facts f) = AreFacts f
IsRecord (counters c) = AreCounters c
IsRecord (amount n) = n < 2 ^ 128
IsRecord (code_bytes bytes) = Unit {0}
IsRecord (code_info info) = IsCodeInfo info
IsRecord mark = Unit {0}
IsRecord (contract c) = IsContract c
IsRecord (value bytes) = Unit {0}

-- which record belongs under which key
abbrev pub Belongs : PlainKey → PlainStored → Type 0
Belongs keys.facts (facts f) = Unit {0}
Belongs keys.counters (counters c) = Unit {0}
Belongs (keys.balance addr denom) (amount n) = Unit {0}
Belongs (keys.supply denom) (amount n) = Unit {0}
Belongs (keys.code id) (code_bytes bytes) = Unit {0}
Belongs (keys.code_info id) (code_info info) = Unit {0}
Belongs (keys.pin id) mark = Unit {0}
Belongs (keys.contract addr) (contract c) = Unit {0}
Belongs (keys.storage addr key) (value bytes) = Unit {0}
Belongs key stored = ⊥

-- the bytes are those of the record
pub record IsRecordOf (bytes : List ℕ) (stored : PlainStored) : Type 0 where
  pub is_record : IsRecord stored
  pub same : stored_bytes stored ≡ bytes

-- and it belongs under the key
pub record IsRecordUnder (key : PlainKey) (bytes : List ℕ) (stored : PlainStored) : Type 0 where
  pub belongs : Belongs key stored
  pub is_record : IsRecord stored
  pub same : stored_bytes stored ≡ bytes
