-- What is written as the compact text of a JSON value with its keys in rising order: what a contract is told, in the fields of
-- CosmWasm 1.x (`Env`, `MessageInfo`, `Reply` and `SystemResult` of cosmwasm-std), and what a client is told, of a query the same
-- and of a transaction in this chain's own fields.
use Rattle.std.specs.Prelude.{ℕ, List, [], map, codes, decimal, Option, None, Some}
use Rattle.coin_amounts.specs.Plain.{Coin}
use Rattle.serde_json.specs.Data.{Data, null, string, object, no_members, member}
use Rattle.serde_json.specs.Written.{compact_text}
use Rattle.json_shapes.specs.Values.{whole, list_data, binary_data, variant_data}
use Rattle.chain_msgs.specs.Plain.{Attribute, Event, Failure, TxResult, Answer, answered, contract_error, system_error, SystemError, invalid_request, unsupported_request, no_contract, no_code}
use Rattle.chain_msgs.specs.Messages.{Env, Reply, ReplyResult, done, failed}

-- ---- the environment

-- null in a query
abbrev pub transaction_data : Option ℕ → Data
transaction_data None = null
transaction_data (Some index) = variant_data (codes "index") (whole index)

-- the time is a text
abbrev pub env_data : Env → Data
env_data e = object (
    member (codes "block") (object (
    member (codes "chain_id") (string e.chain_id) (
    member (codes "height") (whole e.height) (
    member (codes "time") (string (decimal e.time)) no_members)))) (
    member (codes "contract") (variant_data (codes "address") (string e.contract)) (
    member (codes "transaction") (transaction_data e.index) no_members)))

-- ---- who calls, and the funds that come along

abbrev pub coin_data : Coin → Data
coin_data coin = object (member (codes "amount") (string (decimal coin.amount)) (member (codes "denom") (string coin.denom) no_members))

abbrev pub info_data : List ℕ → List Coin → Data
info_data sender funds = object (member (codes "funds") (list_data (map coin_data funds)) (member (codes "sender") (string sender) no_members))

-- ---- events

abbrev pub attribute_data : Attribute → Data
attribute_data a = object (member (codes "key") (string a.key) (member (codes "value") (string a.value) no_members))

abbrev pub event_data : Event → Data
event_data e = object (member (codes "attributes") (list_data (map attribute_data e.attributes)) (member (codes "type") (string e.kind) no_members))

-- what a message gave back, if it gave anything
abbrev pub out_data : Option (List ℕ) → Data
out_data None = null
out_data (Some bytes) = binary_data bytes

-- ---- replies

abbrev pub outcome_data : ReplyResult → Data
outcome_data (done events out) =
    variant_data (codes "ok") (object (member (codes "data") (out_data out) (member (codes "events") (list_data (map event_data events)) no_members)))
outcome_data (failed text) = variant_data (codes "error") (string text)

abbrev pub reply_data : Reply → Data
reply_data r = object (member (codes "id") (whole r.id) (member (codes "result") (outcome_data r.result) no_members))

-- ---- results of transactions

abbrev pub result_object : ℕ → List ℕ → List Data → List ℕ → List Data → ℕ → Data
result_object code codespace outs detail events gas = object (
    member (codes "code") (whole code) (
    member (codes "codespace") (string codespace) (
    member (codes "data") (list_data outs) (
    member (codes "detail") (string detail) (
    member (codes "events") (list_data events) (
    member (codes "gas") (whole gas) no_members))))))

abbrev pub success_data : TxResult → Data
success_data r = result_object 0 [] (map out_data r.outs) [] (map event_data r.events) r.gas

abbrev pub failure_data : Failure → ℕ → Data
failure_data f gas = result_object f.code f.codespace [] f.detail [] gas

-- of a failed transaction neither outs nor events are shown
abbrev pub failed_or : Option Failure → TxResult → Data
failed_or None r = success_data r
failed_or (Some f) r = failure_data f r.gas

abbrev pub result_data : TxResult → Data
result_data r = failed_or r.failure r

-- ---- answers to queries

abbrev pub system_data : SystemError → Data
system_data (invalid_request error request) =
    variant_data (codes "invalid_request") (object (member (codes "error") (string error) (member (codes "request") (binary_data request) no_members)))
system_data (unsupported_request kind) = variant_data (codes "unsupported_request") (variant_data (codes "kind") (string kind))
system_data (no_contract address) = variant_data (codes "no_such_contract") (variant_data (codes "addr") (string address))
system_data (no_code id) = variant_data (codes "no_such_code") (variant_data (codes "code_id") (whole id))

abbrev pub answer_data : Answer → Data
answer_data (answered bytes) = variant_data (codes "ok") (variant_data (codes "ok") (binary_data bytes))
answer_data (contract_error text) = variant_data (codes "ok") (variant_data (codes "error") (string text))
answer_data (system_error error) = variant_data (codes "error") (system_data error)

-- ---- the texts

unfoldable pub env_text : Env → List ℕ
env_text e = compact_text (env_data e)

unfoldable pub info_text : List ℕ → List Coin → List ℕ
info_text sender funds = compact_text (info_data sender funds)

unfoldable pub reply_text : Reply → List ℕ
reply_text r = compact_text (reply_data r)

unfoldable pub answer_text : Answer → List ℕ
answer_text a = compact_text (answer_data a)
