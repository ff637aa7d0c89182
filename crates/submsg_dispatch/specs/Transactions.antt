-- What a transaction does: its checks, its messages in order on one amount of gas, and its result.
use Rattle.std.specs.Prelude.{ℕ, ◌-◌, List, [], ◌∷◌, map, Option, None, Some}
use Rattle.std.specs.List.{flat_map}
use Rattle.std.specs.Result.{result_ok}
use Rattle.serde_json.specs.Data.{Data}
use Rattle.gas_meter.specs.declared.schedule.Schedule.{Schedule}
use Rattle.chain_addr.specs.Address.{address_of}
use Rattle.chain_records.specs.State.{State}
use Rattle.chain_msgs.specs.Plain.{Failure, Tx, TxResult}
use Rattle.chain_msgs.specs.Messages.{TxMsg, cosmos, store_code, pin, unpin, sudo}
use Rattle.chain_msgs.specs.Forms.{tx_msg_of}
use Rattle.submsg_dispatch.specs.Parts.{Part, Ended, kept, failed, out_of_gas, Ran, done, fails, charge, or_fails, ◌>>=◌}
use Rattle.submsg_dispatch.specs.Failures.{address_bad, message_bad, no_messages}
use Rattle.submsg_dispatch.specs.Failures as failures
use Rattle.submsg_dispatch.specs.Messages.{Outcome, pin_codes, unpin_codes}
use Rattle.submsg_dispatch.specs.Submessages.{handled, commanded}
use Rattle.submsg_dispatch.specs.Messages as messages

-- ---- messages

-- one that is paid before all else that is looked at
abbrev pub paid : Schedule → Part Outcome → Part Outcome
paid costs part = charge costs.message >>= λ _. part

abbrev pub tx_handled : Schedule → List ℕ → ℕ → TxMsg → Part Outcome
tx_handled costs sender index (cosmos msg) = handled costs sender msg index 0
tx_handled costs sender index (store_code code allow) = paid costs (messages.store_code costs sender code allow)
tx_handled costs sender index (pin ids) = paid costs (pin_codes sender ids)
tx_handled costs sender index (unpin ids) = paid costs (unpin_codes sender ids)
tx_handled costs sender index (sudo contract msg) = paid costs (commanded costs sender index contract msg)

-- a message's form is looked at when its turn comes, and before it is paid
abbrev pub read_and_handled : Schedule → List ℕ → ℕ → Data → Part Outcome
read_and_handled costs sender index d = or_fails message_bad (result_ok (tx_msg_of d)) >>= tx_handled costs sender index

abbrev pub all_handled : Schedule → List ℕ → ℕ → List Data → Part (List Outcome)
all_handled costs sender index [] = done []
all_handled costs sender index (d ∷ ds) = do
  outcome ← read_and_handled costs sender index d
  outcomes ← all_handled costs sender index ds
  done (outcome ∷ outcomes)

-- ---- the result

pub record TxRan : Type 0 where
  pub state : State
  pub result : TxResult
  pub fetched : List (List ℕ)

abbrev pub failed_result : Failure → ℕ → TxResult
failed_result failure gas = record { failure = Some failure; outs = []; events = []; gas = gas }

-- one data per message, and all events in order
abbrev pub succeeded : List Outcome → ℕ → TxResult
succeeded outcomes gas = record {
  failure = None;
  outs = map (λ o. o.out) outcomes;
  events = flat_map (λ o. o.events) outcomes;
  gas = gas;
}

-- A failed transaction leaves the state as it was, and the gas that was charged stays used.
abbrev pub closed : State → ℕ → Ended (List Outcome) → ℕ → List (List ℕ) → TxRan
closed s gas (kept t outcomes) left codes = record { state = t; result = succeeded outcomes (gas - left); fetched = codes }
closed s gas (failed failure) left codes = record { state = s; result = failed_result failure (gas - left); fetched = codes }
closed s gas out_of_gas left codes = record { state = s; result = failed_result failures.out_of_gas (gas - left); fetched = codes }

abbrev pub refused : State → Failure → TxRan
refused s failure = record { state = s; result = failed_result failure 0; fetched = [] }

abbrev pub run : Schedule → State → List ℕ → ℕ → ℕ → List Data → TxRan
run costs s sender gas index [] = refused s no_messages
run costs s sender gas index (d ∷ ds) =
    let r : Ran (List Outcome) = all_handled costs sender index (d ∷ ds) s gas in
    closed s gas r.ended r.left r.fetched

abbrev pub run_from : Schedule → State → Option (List ℕ) → ℕ → ℕ → List Data → TxRan
run_from costs s None gas index ds = refused s address_bad
run_from costs s (Some sender) gas index ds = run costs s sender gas index ds

-- the transaction of this index in its block
unfoldable pub tx : Schedule → State → Tx → ℕ → TxRan
tx costs s t index = run_from costs s (address_of s.facts.prefix t.sender) t.gas index t.msgs
