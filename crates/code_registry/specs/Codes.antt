-- Codes and pins of the chain's state: what storing, pinning and unpinning make of it, and why they are refused.
use Rattle.std.specs.Prelude.{ℕ, ◌^◌, Bool, true, false, List, [], ◌∷◌, length, Option, None, Some, nat_le, if◌then◌else◌}
use Rattle.std.specs.Option.{option_map, is_some}
use Rattle.std.specs.Ordering.{nat_cmp}
use Rattle.std.specs.Str.{bytes_eq}
use Rattle.std.specs.FinMap.{FinMap, get, insert, remove, keys}
use Rattle.sha2.specs.Sha256.{sha256}
use Rattle.wasm_types.specs.Plain.{PlainRefusal}
use Rattle.wasm_types.specs.Typing.{or_else}
use Rattle.wasm_types.specs.Gate.{gate}
use Rattle.chain_records.specs.State.{Code, State}
use Rattle.chain_records.specs.Changes.{with_code}

pub data Refusal : Type 0 where
  refused : PlainRefusal → Refusal
  not_authority : Refusal
  no_such_code : ℕ → Refusal
  too_many_codes : Refusal
  too_many_pins : Refusal

-- the bytes of a code with this id, if there is one
abbrev pub bytes_at : State → ℕ → Option (List ℕ)
bytes_at s id = option_map (λ code. code.bytes) (get s.codes id)

-- ---- storing

-- a code as it is stored: its checksum is the SHA-256 of its bytes
abbrev pub code_of : List ℕ → List ℕ → Option (List (List ℕ)) → Code
code_of creator bytes allow = record { bytes = bytes; info = record { creator = creator; checksum = sha256 bytes; allow = allow } }

-- the state with the code under the next id
abbrev pub stored : State → List ℕ → List ℕ → Option (List (List ℕ)) → State
stored s creator bytes allow = with_code s (code_of creator bytes allow)

-- the ids 1 to 2^32 - 1 are given
abbrev pub ids_are_given : State → Bool
ids_are_given s = nat_le (2 ^ 32) s.counters.next_code

-- the first rule of the gate that the code breaks under the chain's capabilities, else that no id is left
abbrev pub store_refusal : State → List ℕ → Option Refusal
store_refusal s bytes = or_else (option_map refused (gate bytes s.facts.caps)) (if ids_are_given s then Some too_many_codes else None)

-- ---- pinning

abbrev pub Pins : Type 0
Pins = FinMap nat_cmp (Unit {0})

-- some ids and those of a list
abbrev pub pins_with : Pins → List ℕ → Pins
pins_with pins [] = pins
pins_with pins (id ∷ ids) = pins_with (insert pins id tt) ids

-- some ids without those of a list
abbrev pub pins_without : Pins → List ℕ → Pins
pins_without pins [] = pins
pins_without pins (id ∷ ids) = pins_without (remove pins id) ids

abbrev pub pinned : State → List ℕ → State
pinned s ids = record s { pins = pins_with s.pins ids }

abbrev pub unpinned : State → List ℕ → State
unpinned s ids = record s { pins = pins_without s.pins ids }

-- the one is there, and is the other
abbrev pub is_the : Option (List ℕ) → List ℕ → Bool
is_the None sender = false
is_the (Some one) sender = bytes_eq one sender

abbrev pub is_authority : State → List ℕ → Bool
is_authority s sender = is_the s.facts.authority sender

-- the first id of a list that no code has
abbrev pub first_unknown : State → List ℕ → Option ℕ
first_unknown s [] = None
first_unknown s (id ∷ ids) = if is_some (get s.codes id) then first_unknown s ids else Some id

-- that the sender isn't the chain's authority, else the first id that no code has
abbrev pub unpin_refusal : State → List ℕ → List ℕ → Option Refusal
unpin_refusal s sender ids = if is_authority s sender then option_map no_such_code (first_unknown s ids) else Some not_authority

-- the same, else that more than 64 ids would be pinned
abbrev pub pin_refusal : State → List ℕ → List ℕ → Option Refusal
pin_refusal s sender ids = or_else (unpin_refusal s sender ids) (if nat_le (length (keys (pins_with s.pins ids))) 64 then None else Some too_many_pins)
