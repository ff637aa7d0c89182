-- Not for readers of contracts: it serves the proofs of this crate alone.
-- Messages that call contracts, from a step on, and what the code has of them in plain form.
use Rattle.std.specs.Prelude.{ℕ, ◌≡◌, Bool, true, false, List, [], ◌∷◌, ◌++◌, map, codes, Option, None, Some, option_map, IfSome, Result, Ok, Err, ⊤, string_bytes}
use Rattle.coin_amounts.specs.Plain.{Coin, RawCoin}
use Rattle.gas_meter.specs.declared.schedule.Schedule.{Schedule}
use Rattle.chain_addr.specs.Text.{text_of}
use Rattle.kv_layers.specs.declared.layers.Layers.{Layers}
use Rattle.kv_layers.specs.Layers.{Turns}
use Rattle.kv_layers.specs.Maps.{kept as kept_layer, dropped}
use Rattle.chain_records.specs.Keys.{IsAddress}
use Rattle.chain_records.specs.declared.record.Contract.{Contract}
use Rattle.chain_records.specs.Records.{PlainContract, bytes_view}
use Rattle.chain_records.specs.State.{Bytes, State}
use Rattle.code_registry.specs.Codes.{is_authority}
use Rattle.contract_admin.specs.Administration.{create_refusal, migrate_refusal, with_code_id}
use Rattle.state_records.specs.Records.{with_contract}
use Rattle.chain_msgs.specs.Messages.{response_view, ReplyResult}
use Rattle.chain_msgs.specs.Messages as messages
use Rattle.chain_msgs.specs.declared.failure.Failure as failure_type
use Rattle.chain_msgs.specs.Plain.{Event, event_view, Failure, failure_view, out_view}
use Rattle.contract_call.specs.declared.entry.Entry.{Entry}
use Rattle.contract_call.specs.declared.entry.Entry.TheVariants.{Instantiate, Execute, Migrate}
use Rattle.contract_call.specs.Calls.{arguments}
use Rattle.call_outcomes.specs.Events.{call_event, code_event}
use Rattle.submsg_dispatch.specs.declared.called.Callee.{Callee}
use Rattle.submsg_dispatch.specs.declared.called.Called as called_type
use Rattle.submsg_dispatch.specs.declared.given.Caller.{Caller}
use Rattle.submsg_dispatch.specs.declared.given.Given as given_type
use Rattle.submsg_dispatch.specs.declared.outcome.Outcome as outcome_type
use Rattle.submsg_dispatch.specs.declared.stop.HandleStop.{HandleStop}
use Rattle.submsg_dispatch.specs.declared.stop.HandleStop.TheVariants.{Failed, OutOfGas, NoMemory}
use Rattle.submsg_dispatch.specs.Parts.{Part, done, fails, needs, becomes, reads, ◌>>=◌}
use Rattle.submsg_dispatch.specs.Failures.{not_authority}
use Rattle.submsg_dispatch.specs.Failures as failures
use Rattle.submsg_dispatch.specs.Messages.{Outcome}
use Rattle.submsg_dispatch.specs.Submessages.{Given, given_at_first, told_of}
use Rattle.submsg_dispatch.specs.Views.{outcome_view}
use Rattle.submsg_dispatch.specs.Calling.{refused_if, funds_in, free_address, pays, env, info, call, Called, tells, creates}

-- ---- plain forms

abbrev pub code_id_of : Callee → ℕ
code_id_of c = c.code_id

abbrev pub nothing_view : Unit {0} → Unit {0}
nothing_view x = tt

abbrev pub called_view : called_type.Called → Called
called_view c = record {
  addr = c.addr.items;
  contract = string_bytes c.contract;
  entry = c.entry;
  own = map event_view c.own.items;
  response = response_view c.response;
}

abbrev pub given_view : given_type.Given → Given
given_view g = record { events = map event_view g.events.items; out = out_view g.out }

-- a message that was done, or the failure of one that failed
abbrev pub tried_view : Result outcome_type.Outcome failure_type.Failure → Result Outcome Failure
tried_view (Ok outcome) = Ok (outcome_view outcome)
tried_view (Err failure) = Err (failure_view failure)

abbrev pub events_told : ReplyResult → List Event
events_told (messages.done events out) = events
events_told (messages.failed text) = []

abbrev pub outcome_given : Entry → List ℕ → Given → Outcome
outcome_given entry contract g = record { events = g.events; out = g.out; reply_out = told_of entry contract g.out }

abbrev pub with_events : Given → Outcome → Given
with_events g o = record { events = g.events ++ o.events; out = g.out }

-- its text is that of its address, which is one
pub record IsCallee (prefix : List ℕ) (c : Callee) : Type 0 where
  pub address : IsAddress c.addr.items
  pub text : string_bytes c.text ≡ text_of prefix c.addr.items

-- the call was of a contract with an address
abbrev pub IsCalled : called_type.Called → Type 0
IsCalled c = IsAddress c.addr.items

-- what there is, or its failure
abbrev pub FindsWith : {X A : Type 0} → (X → A) → Result X HandleStop → Result A Failure → Type 0
FindsWith view (Ok x) wanted = wanted ≡ Ok (view x)
FindsWith view (Err (Failed failure)) wanted = wanted ≡ Err (failure_view failure)
FindsWith view (Err OutOfGas) wanted = ⊥
FindsWith view (Err NoMemory) wanted = ⊤

-- in each state whose addresses have this prefix the part gives this, and changes nothing; want of memory says nothing
abbrev pub Gives : {X A : Type 0} → List ℕ → (X → A) → Result X HandleStop → Part A → Type 0
Gives prefix view (Ok x) part = (s : State) (left : ℕ) → s.facts.prefix ≡ prefix → part s left ≡ done (view x) s left
Gives {A = A} prefix view (Err (Failed failure)) part = (s : State) (left : ℕ) → s.facts.prefix ≡ prefix → part s left ≡ fails {A = A} (failure_view failure) s left
Gives prefix view (Err OutOfGas) part = ⊥
Gives prefix view (Err NoMemory) part = ⊤

-- a record that may be written for a new contract
pub record IsNew (c : Contract) : Type 0 where
  pub creator : IsAddress c.creator.items
  pub admin : IfSome (option_map bytes_view c.admin) IsAddress

-- ---- stages

-- the bytes of a call's result
abbrev pub entered : Schedule → ℕ → List ℕ → ℕ → Entry → Option (List ℕ) → List ℕ → Part (List ℕ)
entered costs index addr id entry told msg = reads (λ s. call costs addr id entry (arguments (env s index addr) told msg))

abbrev pub needs_authority : List ℕ → Part (Unit {0})
needs_authority sender = reads (λ s. needs (is_authority s sender) not_authority)

abbrev pub execute_told : Schedule → ℕ → List ℕ → List ℕ → List ℕ → ℕ → List ℕ → List Coin → List Event → Part Called
execute_told costs index prefix sender addr id msg coins moved = tells costs index prefix addr id Execute (Some (info prefix sender coins)) msg (moved ++ call_event (codes "execute") (text_of prefix addr) ∷ [])

abbrev pub execute_paid : Schedule → ℕ → List ℕ → List ℕ → List ℕ → ℕ → List ℕ → List Coin → Part Called
execute_paid costs index prefix sender addr id msg coins = pays costs sender addr coins >>= execute_told costs index prefix sender addr id msg coins

-- the record is written, unless something speaks against it
abbrev pub create_written : List ℕ → List ℕ → PlainContract → Called → Part Called
create_written prefix addr c called = refused_if prefix addr (λ s. create_refusal s addr c) >>= λ _. becomes (λ s. with_contract s addr c) >>= λ _. done called

abbrev pub create_told : Schedule → ℕ → List ℕ → List ℕ → PlainContract → List Coin → List ℕ → List Event → Part Called
create_told costs index prefix addr c coins msg moved =
    tells costs index prefix addr c.code_id Instantiate (Some (info prefix c.creator coins)) msg (moved ++ code_event (codes "instantiate") (text_of prefix addr) c.code_id ∷ []) >>= create_written prefix addr c

abbrev pub create_paid : Schedule → ℕ → List ℕ → List ℕ → PlainContract → List Coin → List ℕ → Part Called
create_paid costs index prefix addr c coins msg = pays costs c.creator addr coins >>= create_told costs index prefix addr c coins msg

abbrev pub instantiate_of : Schedule → ℕ → List ℕ → List ℕ → List RawCoin → Option (List ℕ) → PlainContract → Part Called
instantiate_of costs index prefix msg raws salt c = funds_in raws >>= λ coins. free_address prefix c salt >>= λ addr. creates costs index prefix addr c coins msg

abbrev pub migrate_written : List ℕ → List ℕ → List ℕ → ℕ → Called → Part Called
migrate_written prefix sender addr id called = refused_if prefix addr (λ s. migrate_refusal s sender addr id) >>= λ _. becomes (λ s. with_code_id s addr id) >>= λ _. done called

abbrev pub migrate_told : Schedule → ℕ → List ℕ → List ℕ → List ℕ → ℕ → List ℕ → Part Called
migrate_told costs index prefix sender addr id msg = tells costs index prefix addr id Migrate None msg (code_event (codes "migrate") (text_of prefix addr) id ∷ []) >>= migrate_written prefix sender addr id

-- ---- what is closed

-- the newest layer is kept where a message was done, and dropped where it was stopped; want of memory says nothing
abbrev pub ClosesOne : {B : Type 0} → (B → Bytes → Type 0) → Layers B → Layers B → Result outcome_type.Outcome HandleStop → Result outcome_type.Outcome HandleStop → Type 0
ClosesOne S old new (Ok outcome) (Ok given) = (given ≡ outcome) × Turns S old new kept_layer
ClosesOne S old new (Ok outcome) (Err stop) = stop ≡ NoMemory
ClosesOne S old new (Err stop) (Ok given) = ⊥
ClosesOne S old new (Err stop) (Err given) = (given ≡ stop) × Turns S old new dropped

-- what is handed over of a message that ran on a part of the gas, whose limit counts or doesn't
abbrev pub CatchesEnd : Bool → Result (Result outcome_type.Outcome failure_type.Failure) HandleStop → Type 0
CatchesEnd true (Ok (Ok outcome)) = ⊥
CatchesEnd true (Ok (Err failure)) = failure_view failure ≡ failures.out_of_gas
CatchesEnd true (Err stop) = stop ≡ NoMemory
CatchesEnd false (Ok tried) = ⊥
CatchesEnd false (Err stop) = stop ≡ OutOfGas

abbrev pub Catches : Bool → Result outcome_type.Outcome HandleStop → Result (Result outcome_type.Outcome failure_type.Failure) HandleStop → Type 0
Catches counting (Ok outcome) result = result ≡ Ok (Ok outcome)
Catches counting (Err (Failed failure)) result = result ≡ Ok (Err failure)
Catches counting (Err OutOfGas) result = CatchesEnd counting result
Catches counting (Err NoMemory) result = result ≡ Err NoMemory

-- what a contract that was called gives before its submessages
pub record IsCallerOf (called : called_type.Called) (caller : Caller) : Type 0 where
  pub addr : caller.addr ≡ called.addr
  pub contract : caller.contract ≡ called.contract
  pub entry : caller.entry ≡ called.entry
  pub messages : caller.messages ≡ called.response.messages
  pub given : given_view caller.given ≡ given_at_first (called_view called)
