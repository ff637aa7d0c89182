-- The chain's state with one record more, changed or removed, and all else as it was.
use Rattle.std.specs.Prelude.{ℕ, List, Option}
use Rattle.std.specs.Option.{option_map}
use Rattle.std.specs.FinMap.{get, insert, remove}
use Rattle.chain_records.specs.declared.record.Counters.{Counters}
use Rattle.chain_records.specs.Records.{PlainFacts, PlainCodeInfo, PlainContract}
use Rattle.chain_records.specs.State.{State}

-- what is known of a code besides its bytes
abbrev pub info_at : State → ℕ → Option PlainCodeInfo
info_at s id = option_map (λ code. code.info) (get s.codes id)

abbrev pub with_facts : State → PlainFacts → State
with_facts s f = record s { facts = f }

abbrev pub with_counters : State → Counters → State
with_counters s c = record s { counters = c }

abbrev pub with_contract : State → List ℕ → PlainContract → State
with_contract s addr c = record s { contracts = insert s.contracts addr c }

abbrev pub with_pin : State → ℕ → State
with_pin s id = record s { pins = insert s.pins id tt }

abbrev pub without_pin : State → ℕ → State
without_pin s id = record s { pins = remove s.pins id }
