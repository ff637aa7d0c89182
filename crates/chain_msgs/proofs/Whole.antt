-- What is written has no number but integers.
use Rattle.std.proofs.Common.{◌≡◌, ◌∙◌, false, List, Option, None, Some, ℕ, refl, ap, Result, IfOk, Vec, Global}
use Rattle.std.proofs.lemmas.Result.{IfOk-weaker}
use Rattle.serde_json.specs.Data.{Data}
use Rattle.serde_json.specs.Written.{has_float, compact_text}
use Rattle.json_shapes.proofs.Whole.{list_whole}
use Rattle.coin_amounts.specs.Plain.{Coin}
use Rattle.chain_msgs.specs.Plain.{Event, Failure, TxResult, Answer, answered, contract_error, system_error, SystemError, invalid_request, unsupported_request, no_contract, no_code}
use Rattle.chain_msgs.specs.Messages.{Env, Reply, ReplyResult, done, failed}
use Rattle.chain_msgs.specs.Texts.{transaction_data, env_data, coin_data, info_data, attribute_data, event_data, out_data, outcome_data, reply_data, failed_or, result_data, system_data, answer_data}

-- what a writer gives of a value that is this one, and has no float
pub written : {E : Type 0} (r : Result (Vec ℕ Global) E) (given wanted : Data) → IfOk r (λ text. has_float given ≡ false → text.items ≡ compact_text given)
    → given ≡ wanted → has_float wanted ≡ false → IfOk r (λ text. text.items ≡ compact_text wanted)
written r given wanted text is whole = IfOk-weaker r _ _ (λ _ of_whole. of_whole (ap has_float is ∙ whole) ∙ ap compact_text is) text

transaction_whole : (index : Option ℕ) → has_float (transaction_data index) ≡ false
transaction_whole None = refl
transaction_whole (Some index) = refl

pub env_whole : (e : Env) → has_float (env_data e) ≡ false
env_whole e = rw (transaction_whole e.index) refl

pub info_whole : (sender : List ℕ) (funds : List Coin) → has_float (info_data sender funds) ≡ false
info_whole sender funds = rw (list_whole coin_data (λ _. refl) funds) refl

pub event_whole : (e : Event) → has_float (event_data e) ≡ false
event_whole e = rw (list_whole attribute_data (λ _. refl) e.attributes) refl

pub out_whole : (out : Option (List ℕ)) → has_float (out_data out) ≡ false
out_whole None = refl
out_whole (Some bytes) = refl

outcome_whole : (r : ReplyResult) → has_float (outcome_data r) ≡ false
outcome_whole (done events out) = rw (out_whole out, list_whole event_data event_whole events) refl
outcome_whole (failed text) = refl

pub reply_whole : (r : Reply) → has_float (reply_data r) ≡ false
reply_whole r = rw (outcome_whole r.result) refl

failed_or_whole : (failure : Option Failure) (r : TxResult) → has_float (failed_or failure r) ≡ false
failed_or_whole None r = rw (list_whole out_data out_whole r.outs, list_whole event_data event_whole r.events) refl
failed_or_whole (Some f) r = refl

pub result_whole : (r : TxResult) → has_float (result_data r) ≡ false
result_whole r = failed_or_whole r.failure r

system_whole : (error : SystemError) → has_float (system_data error) ≡ false
system_whole (invalid_request error request) = refl
system_whole (unsupported_request kind) = refl
system_whole (no_contract address) = refl
system_whole (no_code id) = refl

pub answer_whole : (a : Answer) → has_float (answer_data a) ≡ false
answer_whole (answered bytes) = refl
answer_whole (contract_error text) = refl
answer_whole (system_error error) = rw (system_whole error) refl
