-- The plain forms of the chain's data: a list of bytes in place of each String, a list in place of each Vec, and
-- JSON data in place of each Value.
use Rattle.std.specs.Prelude.{ℕ, List, map, Option, option_map, String, string_bytes, Vec}
use Rattle.std.specs.declared.alloc.Global.{Global}
use Rattle.serde_json.specs.Data.{Data}
use Rattle.serde_json.specs.View.{view}
use Rattle.coin_amounts.specs.Plain.{RawCoin, raw_coin_view}
use Rattle.coin_amounts.specs.declared.coin.RawCoin as raw_type
use Rattle.chain_msgs.specs.declared.answer.Answer as answer_type
use Rattle.chain_msgs.specs.declared.answer.Answer.TheVariants as answers
use Rattle.chain_msgs.specs.declared.answer.SystemError as system_type
use Rattle.chain_msgs.specs.declared.answer.SystemError.TheVariants as systems
use Rattle.chain_msgs.specs.declared.block.Block as block_type
use Rattle.chain_msgs.specs.declared.block.Tx as tx_type
use Rattle.chain_msgs.specs.declared.block.TxResult as result_type
use Rattle.chain_msgs.specs.declared.event.Attribute as attribute_type
use Rattle.chain_msgs.specs.declared.event.Event as event_type
use Rattle.chain_msgs.specs.declared.failure.FailKind as kind_type
use Rattle.chain_msgs.specs.declared.failure.FailKind.TheVariants as kinds
use Rattle.chain_msgs.specs.declared.failure.Failure as failure_type
use Rattle.chain_msgs.specs.declared.genesis.Genesis as genesis_type

-- ---- events

pub record Attribute : Type 0 where
  pub key : List ℕ
  pub value : List ℕ

abbrev pub attribute_view : attribute_type.Attribute → Attribute
attribute_view a = record { key = string_bytes a.key; value = string_bytes a.value }

pub record Event : Type 0 where
  pub kind : List ℕ
  pub attributes : List Attribute

abbrev pub event_view : event_type.Event → Event
event_view e = record { kind = string_bytes e.kind; attributes = map attribute_view e.attributes.items }

-- ---- failures

pub data FailKind : Type 0 where
  not_authority : FailKind
  not_admin : FailKind
  may_not_instantiate : FailKind
  not_enough : List ℕ → ℕ → ℕ → FailKind
  address_bad : FailKind
  coins_bad : FailKind
  out_of_gas : FailKind
  message_bad : FailKind
  no_messages : FailKind
  label_bad : FailKind
  salt_bad : FailKind
  store_refused : List ℕ → FailKind
  address_taken : FailKind
  call_failed : FailKind
  no_such_code : ℕ → FailKind
  too_deep : FailKind
  too_many_codes : FailKind
  too_many_pins : FailKind
  unsupported : List ℕ → FailKind
  no_such_contract : List ℕ → FailKind

abbrev pub kind_view : kind_type.FailKind → FailKind
kind_view kinds.NotAuthority = not_authority
kind_view kinds.NotAdmin = not_admin
kind_view kinds.MayNotInstantiate = may_not_instantiate
kind_view (kinds.NotEnough denom have want) = not_enough (string_bytes denom) have want
kind_view kinds.AddressBad = address_bad
kind_view kinds.CoinsBad = coins_bad
kind_view kinds.OutOfGas = out_of_gas
kind_view kinds.MessageBad = message_bad
kind_view kinds.NoMessages = no_messages
kind_view kinds.LabelBad = label_bad
kind_view kinds.SaltBad = salt_bad
kind_view (kinds.StoreRefused text) = store_refused (string_bytes text)
kind_view kinds.AddressTaken = address_taken
kind_view kinds.CallFailed = call_failed
kind_view (kinds.NoSuchCode id) = no_such_code id
kind_view kinds.TooDeep = too_deep
kind_view kinds.TooManyCodes = too_many_codes
kind_view kinds.TooManyPins = too_many_pins
kind_view (kinds.Unsupported kind) = unsupported (string_bytes kind)
kind_view (kinds.NoSuchContract address) = no_such_contract (string_bytes address)

pub record Failure : Type 0 where
  pub kind : FailKind
  pub codespace : List ℕ
  pub code : ℕ
  pub detail : List ℕ

abbrev pub failure_view : failure_type.Failure → Failure
failure_view f = record { kind = kind_view f.kind; codespace = string_bytes f.codespace; code = f.code; detail = string_bytes f.detail }

-- ---- blocks

pub record Tx : Type 0 where
  pub sender : List ℕ
  pub gas : ℕ
  pub msgs : List Data

abbrev pub tx_view : tx_type.Tx → Tx
tx_view t = record { sender = string_bytes t.sender; gas = t.gas; msgs = map view t.msgs.items }

pub record Block : Type 0 where
  pub time : ℕ
  pub txs : List Tx

abbrev pub block_view : block_type.Block → Block
block_view b = record { time = b.time; txs = map tx_view b.txs.items }

pub record TxResult : Type 0 where
  pub failure : Option Failure
  pub outs : List (Option (List ℕ))
  pub events : List Event
  pub gas : ℕ

abbrev pub out_view : Option (Vec ℕ Global) → Option (List ℕ)
out_view out = option_map (λ bytes. bytes.items) out

abbrev pub result_view : result_type.TxResult → TxResult
result_view r = record {
  failure = option_map failure_view r.failure;
  outs = map out_view r.outs.items;
  events = map event_view r.events.items;
  gas = r.gas;
}

-- ---- genesis

-- an account and what it holds, as written
abbrev pub Holding : Type 0
Holding = List ℕ × List RawCoin

abbrev pub holding_view : String Global × Vec raw_type.RawCoin Global → Holding
holding_view h = (string_bytes h.0, map raw_coin_view h.1.items)

pub record Genesis : Type 0 where
  pub chain_id : List ℕ
  pub time : ℕ
  pub prefix : List ℕ
  pub authority : Option (List ℕ)
  pub capabilities : List (List ℕ)
  pub balances : List Holding
  pub query_gas : ℕ

abbrev pub genesis_view : genesis_type.Genesis → Genesis
genesis_view g = record {
  chain_id = string_bytes g.chain_id;
  time = g.time;
  prefix = string_bytes g.prefix;
  authority = option_map (λ a. string_bytes a) g.authority;
  capabilities = map (λ c. string_bytes c) g.capabilities.items;
  balances = map holding_view g.balances.items;
  query_gas = g.query_gas;
}

-- ---- answers

pub data SystemError : Type 0 where
  invalid_request : List ℕ → List ℕ → SystemError
  unsupported_request : List ℕ → SystemError
  no_contract : List ℕ → SystemError
  no_code : ℕ → SystemError

abbrev pub system_view : system_type.SystemError → SystemError
system_view (systems.InvalidRequest error request) = invalid_request (string_bytes error) request.items
system_view (systems.UnsupportedRequest kind) = unsupported_request (string_bytes kind)
system_view (systems.NoSuchContract address) = no_contract (string_bytes address)
system_view (systems.NoSuchCode id) = no_code id

pub data Answer : Type 0 where
  answered : List ℕ → Answer
  contract_error : List ℕ → Answer
  system_error : SystemError → Answer

abbrev pub answer_view : answer_type.Answer → Answer
answer_view (answers.Ok bytes) = answered bytes.items
answer_view (answers.ContractError text) = contract_error (string_bytes text)
answer_view (answers.System error) = system_error (system_view error)
