-- The events of a contract's call. `contract` is the text of the contract's address.
use Rattle.std.specs.Prelude.{ℕ, List, [], ◌∷◌, ◌++◌, map, codes, decimal}
use Rattle.chain_msgs.specs.Plain.{Attribute, Event}

abbrev pub attribute : List ℕ → List ℕ → Attribute
attribute key value = record { key = key; value = value }

-- the contract is named before these attributes
abbrev pub of_contract : List ℕ → List Attribute → List Attribute
of_contract contract attributes = attribute (codes "_contract_address") contract ∷ attributes

-- ---- that a contract is called

-- `execute`, `sudo` or `reply`
abbrev pub call_event : List ℕ → List ℕ → Event
call_event kind contract = record { kind = kind; attributes = of_contract contract [] }

-- `instantiate` or `migrate`, with the code's id
abbrev pub code_event : List ℕ → List ℕ → ℕ → Event
code_event kind contract id = record { kind = kind; attributes = of_contract contract (attribute (codes "code_id") (decimal id) ∷ []) }

-- ---- what the contract tells

-- one event of its attributes, where there are any
abbrev pub wasm_events : List ℕ → List Attribute → List Event
wasm_events contract [] = []
wasm_events contract (a ∷ more) = record { kind = codes "wasm"; attributes = of_contract contract (a ∷ more) } ∷ []

abbrev pub custom_event : List ℕ → Event → Event
custom_event contract e = record { kind = codes "wasm-" ++ e.kind; attributes = of_contract contract e.attributes }

-- and then its own events, in order
abbrev pub told_events : List ℕ → List Attribute → List Event → List Event
told_events contract attributes events = wasm_events contract attributes ++ map (custom_event contract) events
