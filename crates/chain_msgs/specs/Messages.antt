-- Messages, what a contract answers, what it hears of a submessage, and what it is told of a call, as plain values.
use Rattle.std.specs.Prelude.{ℕ, List, map, Option, option_map, string_bytes}
use Rattle.coin_amounts.specs.Plain.{RawCoin, raw_coin_view}
use Rattle.chain_msgs.specs.Plain.{Attribute, attribute_view, Event, event_view, out_view}
use Rattle.chain_msgs.specs.declared.env.Env as env_type
use Rattle.chain_msgs.specs.declared.messages.CosmosMsg as cosmos_type
use Rattle.chain_msgs.specs.declared.messages.CosmosMsg.TheVariants as cosmos_msgs
use Rattle.chain_msgs.specs.declared.messages.TxMsg as tx_msg_type
use Rattle.chain_msgs.specs.declared.messages.TxMsg.TheVariants as tx_msgs
use Rattle.chain_msgs.specs.declared.reply.Reply as reply_type
use Rattle.chain_msgs.specs.declared.reply.ReplyResult as outcome_type
use Rattle.chain_msgs.specs.declared.reply.ReplyResult.TheVariants as outcomes
use Rattle.chain_msgs.specs.declared.response.ReplyOn.{ReplyOn}
use Rattle.chain_msgs.specs.declared.response.Response as response_type
use Rattle.chain_msgs.specs.declared.response.SubMsg as sub_msg_type
use Rattle.chain_msgs.specs.declared.response.Told as told_type
use Rattle.chain_msgs.specs.declared.response.Told.TheVariants as tellings

-- ---- messages

-- what a contract may ask the chain to do, and a sender too
pub data CosmosMsg : Type 0 where
  bank_send : List ℕ → List RawCoin → CosmosMsg
  bank_burn : List RawCoin → CosmosMsg
  -- contract, message, funds
  execute : List ℕ → List ℕ → List RawCoin → CosmosMsg
  -- admin, code id, message, funds, label, salt
  instantiate : Option (List ℕ) → ℕ → List ℕ → List RawCoin → List ℕ → Option (List ℕ) → CosmosMsg
  -- contract, new code id, message
  migrate : List ℕ → ℕ → List ℕ → CosmosMsg
  -- contract, admin
  update_admin : List ℕ → List ℕ → CosmosMsg
  clear_admin : List ℕ → CosmosMsg
  -- any other, by its kind
  other : List ℕ → CosmosMsg

abbrev pub cosmos_view : cosmos_type.CosmosMsg → CosmosMsg
cosmos_view (cosmos_msgs.BankSend to amount) = bank_send (string_bytes to) (map raw_coin_view amount.items)
cosmos_view (cosmos_msgs.BankBurn amount) = bank_burn (map raw_coin_view amount.items)
cosmos_view (cosmos_msgs.Execute contract msg funds) = execute (string_bytes contract) msg.items (map raw_coin_view funds.items)
cosmos_view (cosmos_msgs.Instantiate admin code_id msg funds label salt) =
    instantiate (option_map string_bytes admin) code_id msg.items (map raw_coin_view funds.items) (string_bytes label) (out_view salt)
cosmos_view (cosmos_msgs.Migrate contract new_code_id msg) = migrate (string_bytes contract) new_code_id msg.items
cosmos_view (cosmos_msgs.UpdateAdmin contract admin) = update_admin (string_bytes contract) (string_bytes admin)
cosmos_view (cosmos_msgs.ClearAdmin contract) = clear_admin (string_bytes contract)
cosmos_view (cosmos_msgs.Other kind) = other (string_bytes kind)

-- what a sender may ask in a transaction
pub data TxMsg : Type 0 where
  cosmos : CosmosMsg → TxMsg
  -- code, and who may instantiate it
  store_code : List ℕ → Option (List (List ℕ)) → TxMsg
  pin : List ℕ → TxMsg
  unpin : List ℕ → TxMsg
  -- contract, message
  sudo : List ℕ → List ℕ → TxMsg

abbrev pub tx_msg_view : tx_msg_type.TxMsg → TxMsg
tx_msg_view (tx_msgs.Cosmos msg) = cosmos (cosmos_view msg)
tx_msg_view (tx_msgs.StoreCode code allow) = store_code code.items (option_map (λ list. map string_bytes list.items) allow)
tx_msg_view (tx_msgs.Pin ids) = pin ids.items
tx_msg_view (tx_msgs.Unpin ids) = unpin ids.items
tx_msg_view (tx_msgs.Sudo contract msg) = sudo (string_bytes contract) msg.items

-- ---- answers of contracts

pub record SubMsg : Type 0 where
  pub id : ℕ
  pub msg : CosmosMsg
  pub gas_limit : Option ℕ
  pub reply_on : ReplyOn

abbrev pub sub_msg_view : sub_msg_type.SubMsg → SubMsg
sub_msg_view s = record { id = s.id; msg = cosmos_view s.msg; gas_limit = s.gas_limit; reply_on = s.reply_on }

pub record Response : Type 0 where
  pub messages : List SubMsg
  pub attributes : List Attribute
  pub events : List Event
  pub out : Option (List ℕ)

abbrev pub response_view : response_type.Response → Response
response_view r = record {
  messages = map sub_msg_view r.messages.items;
  attributes = map attribute_view r.attributes.items;
  events = map event_view r.events.items;
  out = out_view r.out;
}

-- what a contract tells: a value, or the text of its error
pub data Told (A : Type 0) : Type 0 where
  told : A → Told A
  error : List ℕ → Told A

abbrev pub told_view : {X A : Type 0} → (X → A) → told_type.Told X → Told A
told_view view (tellings.Ok x) = told (view x)
told_view view (tellings.Error text) = error (string_bytes text)

-- ---- what a contract is told

pub record Env : Type 0 where
  pub height : ℕ
  pub time : ℕ
  pub chain_id : List ℕ
  pub index : Option ℕ
  pub contract : List ℕ

abbrev pub env_view : env_type.Env → Env
env_view e = record {
  height = e.height;
  time = e.time;
  chain_id = string_bytes e.chain_id;
  index = e.index;
  contract = string_bytes e.contract;
}

-- what became of a submessage
pub data ReplyResult : Type 0 where
  done : List Event → Option (List ℕ) → ReplyResult
  failed : List ℕ → ReplyResult

abbrev pub outcome_view : outcome_type.ReplyResult → ReplyResult
outcome_view (outcomes.Ok events out) = done (map event_view events.items) (out_view out)
outcome_view (outcomes.Error text) = failed (string_bytes text)

pub record Reply : Type 0 where
  pub id : ℕ
  pub result : ReplyResult

abbrev pub reply_view : reply_type.Reply → Reply
reply_view r = record { id = r.id; result = outcome_view r.result }
