-- Messages that call contracts: what is looked at before the call, and the call itself. Addresses are written under `prefix`.
use Rattle.std.specs.Prelude.{ℕ, ◌&&◌, Bool, List, [], ◌∷◌, ◌++◌, length, codes, Option, None, Some, option_map, nat_le}
use Rattle.std.specs.Result.{result_ok}
use Rattle.std.specs.FinMap.{get}
use Rattle.coin_amounts.specs.Plain.{Coin, RawCoin}
use Rattle.coin_amounts.specs.Coins.{coins_of}
use Rattle.gas_meter.specs.declared.schedule.Schedule.{Schedule}
use Rattle.chain_addr.specs.Text.{text_of}
use Rattle.chain_addr.specs.Contract.{classic_address, predictable_address}
use Rattle.chain_records.specs.Records.{PlainContract}
use Rattle.chain_records.specs.State.{Code, State}
use Rattle.code_registry.specs.Codes.{is_authority}
use Rattle.contract_admin.specs.Administration.{Refusal, label_fits, make_refusal, taken_refusal, create_refusal, instance_taken, migrate_refusal, with_code_id}
use Rattle.state_records.specs.Records.{with_contract}
use Rattle.chain_msgs.specs.Messages.{Response, Reply}
use Rattle.chain_msgs.specs.Plain.{Event}
use Rattle.chain_msgs.specs.Texts.{env_text, info_text, reply_text}
use Rattle.gas_store.specs.Typed.{with_storage}
use Rattle.host_imports.specs.Work.{gave, faulted, ran_out}
use Rattle.host_imports.specs.Work as calls
use Rattle.contract_call.specs.declared.entry.Entry.{Entry}
use Rattle.contract_call.specs.declared.entry.Entry.TheVariants.{Instantiate, Execute, Migrate, Sudo}
use Rattle.contract_call.specs.declared.entry.Entry.TheVariants as entries
use Rattle.contract_call.specs.Calls.{arguments}
use Rattle.call_outcomes.specs.Events.{call_event, code_event}
use Rattle.call_outcomes.specs.Results.{faulted_with, response_of}
use Rattle.query_router.specs.Calls.{call_on, queries}
use Rattle.query_router.specs.Calls as runs
use Rattle.submsg_dispatch.specs.Parts.{Part, Ran, Ended, kept, failed, out_of_gas, done, or_fails, or_fails_with, needs, stops_if, becomes, reads, ◌>>=◌}
use Rattle.submsg_dispatch.specs.Failures.{coins_bad, label_bad, salt_bad, not_authority, no_such_contract, contract_failure}
use Rattle.submsg_dispatch.specs.Messages.{address_in, transfers}

-- ---- what is looked at

-- the id of the code that the contract with this address has
abbrev pub code_at : List ℕ → List ℕ → Part ℕ
code_at prefix addr = reads (λ s. or_fails (no_such_contract (text_of prefix addr)) (option_map (λ c. c.code_id) (get s.contracts addr)))

-- nothing where there is no refusal, and else its failure
abbrev pub refused_if : List ℕ → List ℕ → (State → Option Refusal) → Part (Unit {0})
refused_if prefix addr refusal = reads (λ s. stops_if (option_map (contract_failure prefix addr) (refusal s)))

-- ---- funds

-- coins that go along with a message, of which there may be none
abbrev pub funds_in : List RawCoin → Part (List Coin)
funds_in raws = or_fails coins_bad (result_ok (coins_of raws))

-- they are sent like those of a send, and nothing is told where there are none
abbrev pub pays : Schedule → List ℕ → List ℕ → List Coin → Part (List Event)
pays costs from to [] = done []
pays costs from to (coin ∷ coins) = transfers costs from to (coin ∷ coins)

-- ---- a new contract

-- a salt has 1 to 64 bytes
abbrev pub salt_fits : List ℕ → Bool
salt_fits salt = nat_le 1 (length salt) && nat_le (length salt) 64

abbrev pub fitting : Option (List ℕ) → Part (Unit {0})
fitting None = done tt
fitting (Some salt) = needs (salt_fits salt) salt_bad

-- the bytes of an address, where there is one
abbrev pub optional_address : Option (List ℕ) → Part (Option (List ℕ))
optional_address None = done None
optional_address (Some text) = address_in text >>= λ addr. done (Some addr)

-- the record of a contract that this creator makes of the code with an id
abbrev pub described : List ℕ → Option (List ℕ) → ℕ → List ℕ → Option (List ℕ) → Part PlainContract
described creator admin id label salt = do
  _ ← needs (label_fits label) label_bad
  _ ← fitting salt
  admin ← optional_address admin
  done (record { code_id = id; creator = creator; admin = admin; label = label })

abbrev pub checksum_in : Option Code → List ℕ
checksum_in None = []
checksum_in (Some code) = code.info.checksum

-- the classic one of the code and the next instance, or the predictable one under a salt
abbrev pub new_address : State → List ℕ → ℕ → Option (List ℕ) → List ℕ
new_address s creator id None = classic_address id s.counters.next_instance
new_address s creator id (Some salt) = predictable_address (checksum_in (get s.codes id)) creator salt

-- who instantiates a code may do so, and no contract has the address
abbrev pub free_address : List ℕ → PlainContract → Option (List ℕ) → Part (List ℕ)
free_address prefix c salt = do
  _ ← refused_if prefix [] (λ s. make_refusal s c.creator c.code_id)
  addr ← reads (λ s. done (new_address s c.creator c.code_id salt))
  _ ← refused_if prefix addr (λ s. taken_refusal s addr)
  done addr

-- ---- calls

-- what a contract is told of the chain in the transaction of this index
abbrev pub env : State → ℕ → List ℕ → List ℕ
env s index addr = env_text (record { height = s.facts.height; time = s.facts.time; chain_id = s.facts.chain_id; index = Some index; contract = text_of s.facts.prefix addr })

-- what it is told of who calls
abbrev pub info : List ℕ → List ℕ → List Coin → List ℕ
info prefix sender coins = info_text (text_of prefix sender) coins

abbrev pub ended_call : Entry → State → calls.Ended (List ℕ) → Ended (List ℕ)
ended_call entry t (gave bytes) = kept t bytes
ended_call entry t (faulted fault) = failed (faulted_with entry fault)
ended_call entry t ran_out = out_of_gas

abbrev pub ran_call : Entry → State → List ℕ → runs.Called → Ran (List ℕ)
ran_call entry s addr c = record { ended = ended_call entry (with_storage s addr c.storage) c.ended; left = c.left; fetched = c.fetched }

-- The contract with this address is called, as the code with this id has it. For what it asks that counts as depth 0: its queries
-- have depth 1.
unfoldable pub call : Schedule → List ℕ → ℕ → Entry → List (List ℕ) → Part (List ℕ)
call costs addr id entry args s left = ran_call entry s addr (call_on (queries costs 9) costs s addr id entry args left)

-- what it tells then
abbrev pub answered : Schedule → ℕ → List ℕ → ℕ → Entry → Option (List ℕ) → List ℕ → Part Response
answered costs index addr id entry told msg = reads (λ s. call costs addr id entry (arguments (env s index addr) told msg)) >>= λ bytes. or_fails_with (response_of entry bytes)

-- ---- what a call comes to

-- the contract that was called, by its bytes and its text, and by which entry; the events of the call itself, and what the contract tells
pub record Called : Type 0 where
  pub addr : List ℕ
  pub contract : List ℕ
  pub entry : Entry
  pub own : List Event
  pub response : Response

abbrev pub tells : Schedule → ℕ → List ℕ → List ℕ → ℕ → Entry → Option (List ℕ) → List ℕ → List Event → Part Called
tells costs index prefix addr id entry told msg own =
    answered costs index addr id entry told msg >>= λ response. done (record { addr = addr; contract = text_of prefix addr; entry = entry; own = own; response = response })

-- ---- messages that call contracts

abbrev pub executes : Schedule → ℕ → List ℕ → List ℕ → List ℕ → List ℕ → List RawCoin → Part Called
executes costs index prefix sender contract msg raws = do
  addr ← address_in contract
  id ← code_at prefix addr
  coins ← funds_in raws
  moved ← pays costs sender addr coins
  tells costs index prefix addr id Execute (Some (info prefix sender coins)) msg (moved ++ call_event (codes "execute") (text_of prefix addr) ∷ [])

-- The contract's record is written after its call. What was looked at before is looked at once more there; nothing in between can have changed it.
abbrev pub creates : Schedule → ℕ → List ℕ → List ℕ → PlainContract → List Coin → List ℕ → Part Called
creates costs index prefix addr c coins msg = do
  _ ← becomes instance_taken
  moved ← pays costs c.creator addr coins
  called ← tells costs index prefix addr c.code_id Instantiate (Some (info prefix c.creator coins)) msg (moved ++ code_event (codes "instantiate") (text_of prefix addr) c.code_id ∷ [])
  _ ← refused_if prefix addr (λ s. create_refusal s addr c)
  _ ← becomes (λ s. with_contract s addr c)
  done called

abbrev pub instantiates : Schedule → ℕ → List ℕ → List ℕ → Option (List ℕ) → ℕ → List ℕ → List RawCoin → List ℕ → Option (List ℕ) → Part Called
instantiates costs index prefix sender admin id msg raws label salt = do
  c ← described sender admin id label salt
  coins ← funds_in raws
  addr ← free_address prefix c salt
  creates costs index prefix addr c coins msg

-- the new code is called, and then the contract has it; that the sender may do so is looked at before and after the call
abbrev pub migrates : Schedule → ℕ → List ℕ → List ℕ → List ℕ → ℕ → List ℕ → Part Called
migrates costs index prefix sender contract id msg = do
  addr ← address_in contract
  _ ← refused_if prefix addr (λ s. migrate_refusal s sender addr id)
  called ← tells costs index prefix addr id Migrate None msg (code_event (codes "migrate") (text_of prefix addr) id ∷ [])
  _ ← refused_if prefix addr (λ s. migrate_refusal s sender addr id)
  _ ← becomes (λ s. with_code_id s addr id)
  done called

-- for the chain's authority alone
abbrev pub commands : Schedule → ℕ → List ℕ → List ℕ → List ℕ → List ℕ → Part Called
commands costs index prefix sender contract msg = do
  _ ← reads (λ s. needs (is_authority s sender) not_authority)
  addr ← address_in contract
  id ← code_at prefix addr
  tells costs index prefix addr id Sudo None msg (call_event (codes "sudo") (text_of prefix addr) ∷ [])

-- a reply to the contract with this address, which has by then the code that its record says
abbrev pub replies : Schedule → ℕ → List ℕ → List ℕ → Reply → Part Called
replies costs index prefix addr r = do
  id ← code_at prefix addr
  tells costs index prefix addr id entries.Reply None (reply_text r) (call_event (codes "reply") (text_of prefix addr) ∷ [])
