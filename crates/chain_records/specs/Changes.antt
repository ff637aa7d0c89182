-- Several records changed at once, and states that differ by them.
use Rattle.std.specs.Prelude.{◌≡◌, ◌≢◌, ◌+◌, List, [], ◌∷◌, Option, Some, None}
use Rattle.std.specs.List.{AllByRecursion}
use Rattle.std.specs.FinMap.{insert, remove, empty}
use Rattle.chain_records.specs.declared.record.Counters.{Counters}
use Rattle.chain_records.specs.Keys.{PlainKey, key_bytes, IsKey}
use Rattle.chain_records.specs.Keys as keys
use Rattle.chain_records.specs.Pieces.{IsOptional}
use Rattle.chain_records.specs.Records.{PlainFacts, PlainStored, facts, counters, code_bytes, code_info, stored_bytes, IsRecord}
use Rattle.chain_records.specs.State.{Bytes, Code, State, entry_of}

-- a key and the record that it gets, or none where it is removed
abbrev pub Change : Type 0
Change = PlainKey × Option PlainStored

-- the key is one that can be written, and so is the record
abbrev pub IsChange : Change → Type 0
IsChange change = IsKey change.0 × IsOptional IsRecord change.1

abbrev pub AreChanges : List Change → Type 0
AreChanges changes = AllByRecursion IsChange changes

-- the map with the bytes of a record under those of a key, or without the key
abbrev pub with_record : Bytes → PlainKey → Option PlainStored → Bytes
with_record map key None = remove map (key_bytes key)
with_record map key (Some stored) = insert map (key_bytes key) (stored_bytes stored)

-- with all changes made, in order
abbrev pub with_changes : Bytes → List Change → Bytes
with_changes map [] = map
with_changes map (change ∷ changes) = with_changes (with_record map change.0 change.1) changes

-- what was under a key became what the last change of it says, and is what it was where there is none
abbrev pub BecomesUnder : PlainKey → Option PlainStored → List Change → Option PlainStored → Type 0
BecomesUnder key old [] new = new ≡ old
BecomesUnder key old (change ∷ changes) new = (change.0 ≡ key → BecomesUnder key change.1 changes new) × (change.0 ≢ key → BecomesUnder key old changes new)

-- the second state has at each key what the changes make of the first
abbrev pub ChangesBy : State → State → List Change → Type 0
ChangesBy old new changes = (key : PlainKey) → BecomesUnder key (entry_of old key) changes (entry_of new key)

-- ---- a code that is stored: its bytes and its info, and the counters, change together

abbrev pub with_next_code : Counters → Counters
with_next_code c = record c { next_code = c.next_code + 1 }

-- the state with a code more, which has the next number
abbrev pub with_code : State → Code → State
with_code s code = record s { codes = insert s.codes s.counters.next_code code; counters = with_next_code s.counters }

abbrev pub code_changes : Counters → Code → List Change
code_changes c code = (keys.code c.next_code, Some (code_bytes code.bytes)) ∷ (keys.code_info c.next_code, Some (code_info code.info)) ∷ (keys.counters, Some (counters (with_next_code c))) ∷ []

-- ---- a chain that begins

-- facts and counters, and nothing else
abbrev pub bare : PlainFacts → Counters → State
bare f c = record { facts = f; counters = c; balances = empty; supplies = empty; codes = empty; pins = empty; contracts = empty; storage = empty }

abbrev pub first_changes : PlainFacts → Counters → List Change
first_changes f c = (keys.facts, Some (facts f)) ∷ (keys.counters, Some (counters c)) ∷ []
