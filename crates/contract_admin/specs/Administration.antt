-- The contracts of the chain's state: what changes of them make of it, and why they are refused.
use Rattle.std.specs.Prelude.{ℕ, ◌+◌, ◌%◌, ◌^◌, Bool, true, false, List, length, Option, None, Some, nat_le, ◌&&◌, if◌then◌else◌}
use Rattle.std.specs.Option.{is_some, option_or}
use Rattle.std.specs.List.{list_any}
use Rattle.std.specs.Str.{bytes_eq}
use Rattle.std.specs.FinMap.{get}
use Rattle.chain_records.specs.Records.{PlainContract}
use Rattle.chain_records.specs.State.{Code, State}
use Rattle.state_records.specs.Records.{with_contract, with_counters}

-- why a contract is neither made nor changed
pub data Refusal : Type 0 where
  no_such_contract : Refusal
  not_admin : Refusal
  no_such_code : ℕ → Refusal
  may_not_instantiate : Refusal
  address_taken : Refusal
  label_bad : Refusal

-- a label has 1 to 128 bytes
abbrev pub label_fits : List ℕ → Bool
label_fits label = nat_le 1 (length label) && nat_le (length label) 128

-- no refusal where the test holds
abbrev pub unless : Bool → Refusal → Option Refusal
unless holds refusal = if holds then None else Some refusal

-- ---- who may instantiate a code

-- everybody where there is no list, and nobody where it is empty
abbrev pub is_allowed : Option (List (List ℕ)) → List ℕ → Bool
is_allowed None sender = true
is_allowed (Some addresses) sender = list_any (bytes_eq sender) addresses

abbrev pub instantiating_refusal : Option Code → ℕ → List ℕ → Option Refusal
instantiating_refusal None id sender = Some (no_such_code id)
instantiating_refusal (Some code) id sender = unless (is_allowed code.info.allow sender) may_not_instantiate

-- that there is no such code, else that the sender may not instantiate it
abbrev pub make_refusal : State → List ℕ → ℕ → Option Refusal
make_refusal s sender id = instantiating_refusal (get s.codes id) id sender

-- ---- a contract that is made

abbrev pub code_refusal : State → ℕ → Option Refusal
code_refusal s id = unless (is_some (get s.codes id)) (no_such_code id)

-- that there is a contract with this address
abbrev pub taken_refusal : State → List ℕ → Option Refusal
taken_refusal s addr = if is_some (get s.contracts addr) then Some address_taken else None

-- the label first, then the code, then the address
abbrev pub create_refusal : State → List ℕ → PlainContract → Option Refusal
create_refusal s addr c = option_or (unless (label_fits c.label) label_bad) (option_or (code_refusal s c.code_id) (taken_refusal s addr))

-- the number of the next instance, counted modulo 2^64
abbrev pub instance_taken : State → State
instance_taken s = with_counters s (record s.counters { next_instance = (s.counters.next_instance + 1) % 2 ^ 64 })

-- ---- a contract that its admin changes

abbrev pub is_admin : Option (List ℕ) → List ℕ → Bool
is_admin None sender = false
is_admin (Some admin) sender = bytes_eq admin sender

abbrev pub changing_refusal : Option PlainContract → List ℕ → Option Refusal
changing_refusal None sender = Some no_such_contract
changing_refusal (Some c) sender = unless (is_admin c.admin sender) not_admin

-- that there is no such contract, else that the sender isn't its admin
abbrev pub change_refusal : State → List ℕ → List ℕ → Option Refusal
change_refusal s sender addr = changing_refusal (get s.contracts addr) sender

-- the same, else that there is no such code
abbrev pub migrate_refusal : State → List ℕ → List ℕ → ℕ → Option Refusal
migrate_refusal s sender addr id = option_or (change_refusal s sender addr) (code_refusal s id)

abbrev pub changed_in : State → List ℕ → (PlainContract → PlainContract) → Option PlainContract → State
changed_in s addr change None = s
changed_in s addr change (Some c) = with_contract s addr (change c)

-- the state with what a function makes of a contract, if there is one with this address
abbrev pub with_changed : State → List ℕ → (PlainContract → PlainContract) → State
with_changed s addr change = changed_in s addr change (get s.contracts addr)

-- a contract has another admin, or none
abbrev pub with_admin : State → List ℕ → Option (List ℕ) → State
with_admin s addr admin = with_changed s addr (λ c. record c { admin = admin })

-- a contract has another code
abbrev pub with_code_id : State → List ℕ → ℕ → State
with_code_id s addr id = with_changed s addr (λ c. record c { code_id = id })
