-- What follows from the definitions of keys, records and the state.
use Rattle.std.specs.Prelude.{ℕ, ◌≡◌, ◌↔◌, ◌<◌, ◌+◌, ◌^◌, List, Some, None}
use Rattle.std.specs.FinMap.{get, insert, remove, empty}
use Rattle.chain_records.specs.declared.record.Counters.{Counters}
use Rattle.chain_records.specs.Keys.{PlainKey, key_bytes, IsKey, IsKeyOf}
use Rattle.chain_records.specs.Records.{PlainFacts, PlainStored, stored_bytes, IsRecord, IsRecordUnder, AreFacts, AreCounters, IsCodeInfo}
use Rattle.chain_records.specs.State.{Bytes, Code, State, entry_of, Spells, IsFound, ChangesOnly}
use Rattle.chain_records.specs.Changes.{Change, AreChanges, with_changes, ChangesBy, with_code, code_changes, bare, first_changes}
use Rattle.chain_records.specs.Spelling.{IsSpelling}

-- bytes are those of at most one key
abbrev pub TellsKeys : Type 0
TellsKeys = (bytes : List ℕ) (one other : PlainKey) → IsKeyOf bytes one → IsKeyOf bytes other → one ≡ other

-- and under a key of at most one record
abbrev pub TellsRecords : Type 0
TellsRecords =
    (key : PlainKey) (bytes : List ℕ) (one other : PlainStored) → IsRecordUnder key bytes one → IsRecordUnder key bytes other → one ≡ other

-- a map of bytes spells at most one state
abbrev pub SpellsOnce : Type 0
SpellsOnce = (map : Bytes) (one other : State) → Spells map one → Spells map other → one ≡ other

-- and one map spells a state
abbrev pub IsSpelledOnce : Type 0
IsSpelledOnce = (one other : Bytes) (s : State) → Spells one s → Spells other s → one ≡ other

-- what a map has under a key is the record of the state that it spells
abbrev pub SpellsRecords : Type 0
SpellsRecords = (map : Bytes) (s : State) (key : PlainKey) → Spells map s → IsKey key → IsFound key (get map (key_bytes key)) (entry_of s key)

-- with a record written under a key, a map spells the state that has this record there
abbrev pub SpellsWritten : Type 0
SpellsWritten =
    (map : Bytes) (old new : State) (key : PlainKey) (stored : PlainStored) → Spells map old → IsKey key → IsRecord stored
    → ChangesOnly old new key (Some stored) → Spells (insert map (key_bytes key) (stored_bytes stored)) new

-- with a key removed, it spells the state that has nothing there
abbrev pub SpellsRemoved : Type 0
SpellsRemoved =
    (map : Bytes) (old new : State) (key : PlainKey) → Spells map old → IsKey key → ChangesOnly old new key None
    → Spells (remove map (key_bytes key)) new

-- with several records written and removed in order, it spells the state that has what these changes leave
abbrev pub SpellsChanged : Type 0
SpellsChanged = (map : Bytes) (old new : State) (changes : List Change) → Spells map old → AreChanges changes → ChangesBy old new changes → Spells (with_changes map changes) new

-- with the bytes and the info of a code, and with counters that are one code further, it spells the state with a code more
abbrev pub SpellsCode : Type 0
SpellsCode =
    (map : Bytes) (s : State) (code : Code) → Spells map s → IsCodeInfo code.info → s.counters.next_code + 1 < 2 ^ 64
    → Spells (with_changes map (code_changes s.counters code)) (with_code s code)

-- facts and counters alone spell the state that has nothing else
abbrev pub SpellsFirst : Type 0
SpellsFirst = (f : PlainFacts) (c : Counters) → AreFacts f → AreCounters c → Spells (with_changes empty (first_changes f c)) (bare f c)

-- a map spells some state exactly where its entries are of keys and records, with facts, counters and whole codes
abbrev pub SpellsSome : Type 0
SpellsSome = (map : Bytes) → IsSpelling map ↔ ((s : State) × Spells map s)
