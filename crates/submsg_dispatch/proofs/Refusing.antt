-- Messages by their kinds, and values as messages.
use Rattle.std.proofs.Common.{◌≡◌, ℕ, List, Option, None, Some, Result, Ok, Err, IfOk, refl, sym, ap, ◌∙◌, subst}
use Rattle.std.specs.Result.{result_ok}
use Rattle.std.specs.declared.alloc.AllocError.{AllocError}
use Rattle.serde_json.specs.Data.{Data}
use Rattle.json_shapes.specs.Answers.{IsStopOf}
use Rattle.json_shapes.specs.declared.stop.ShapeStop.{ShapeStop}
use Rattle.json_shapes.specs.declared.stop.ShapeStop.TheVariants as shape_stops
use Rattle.coin_amounts.specs.Plain.{RawCoin}
use Rattle.gas_meter.specs.declared.schedule.Schedule.{Schedule}
use Rattle.kv_layers.specs.declared.layers.Layers.{Layers}
use Rattle.chain_records.specs.State.{Bytes}
use Rattle.gatekeeper.specs.Cache.{Tally}
use Rattle.chain_msgs.specs.declared.failure.Failure as failure_type
use Rattle.chain_msgs.specs.declared.messages.CosmosMsg as cosmos_type
use Rattle.chain_msgs.specs.declared.messages.TxMsg as tx_msg_type
use Rattle.chain_msgs.specs.Plain.{failure_view}
use Rattle.chain_msgs.specs.Messages.{instantiate, cosmos_view, TxMsg, tx_msg_view}
use Rattle.chain_msgs.specs.Forms.{tx_msg_of}
use Rattle.submsg_dispatch.specs.declared.outcome.Outcome as outcome_type
use Rattle.submsg_dispatch.specs.declared.stop.HandleStop.{HandleStop}
use Rattle.submsg_dispatch.specs.declared.stop.HandleStop.TheVariants.{Failed, OutOfGas, NoMemory}
use Rattle.submsg_dispatch.specs.Parts.{Part, fails}
use Rattle.submsg_dispatch.specs.Failures.{unsupported, message_bad}
use Rattle.submsg_dispatch.specs.Messages.{Outcome}
use Rattle.submsg_dispatch.specs.Submessages.{Level, by_kind}
use Rattle.submsg_dispatch.specs.Transactions.{tx_handled, read_and_handled}
use Rattle.submsg_dispatch.specs.Views.{outcome_view}
use Rattle.submsg_dispatch.specs.Under.{MissesForm, LeadsUnder, LeadsOn}
use Rattle.submsg_dispatch.proofs.Leading.{no_memory, after_found, not_found}

module _ {B : Type 0} {S : B → Bytes → Type 0} {prefix : List ℕ} where
  -- a message of this form
  pub by_sort : {old new : Layers B} {before after : Option Tally} {l m : ℕ} {result : Result outcome_type.Outcome HandleStop} (part : Part Outcome) (lvl : Level) (costs : Schedule) (index : ℕ) (sender : List ℕ) (msg form : cosmos_type.CosmosMsg) → msg ≡ form → by_kind lvl costs index prefix sender (cosmos_view form) ≡ part
      → LeadsOn prefix S old new before after l m part outcome_view result → LeadsOn prefix S old new before after l m (by_kind lvl costs index prefix sender (cosmos_view msg)) outcome_view result
  by_sort {old = old} {new = new} {before = before} {after = after} {l = l} {m = m} {result = result} part lvl costs index sender msg form is does leads =
      subst (λ (p : Part Outcome). LeadsOn prefix S old new before after l m p outcome_view result) (sym (ap (λ x. by_kind lvl costs index prefix sender (cosmos_view x)) is ∙ does)) leads

  pub tx_sort : {old new : Layers B} {before after : Option Tally} {l m : ℕ} {result : Result outcome_type.Outcome HandleStop} (part : Part Outcome) (costs : Schedule) (sender : List ℕ) (index : ℕ) (msg form : tx_msg_type.TxMsg) → msg ≡ form → tx_handled costs sender index (tx_msg_view form) ≡ part
      → LeadsUnder prefix S old new before after l m part outcome_view result → LeadsUnder prefix S old new before after l m (tx_handled costs sender index (tx_msg_view msg)) outcome_view result
  tx_sort {old = old} {new = new} {before = before} {after = after} {l = l} {m = m} {result = result} part costs sender index msg form is does leads =
      subst (λ (p : Part Outcome). LeadsUnder prefix S old new before after l m p outcome_view result) (sym (ap (λ x. tx_handled costs sender index (tx_msg_view x)) is ∙ does)) leads

  -- a value that is a message, and one that isn't
  pub after_form : {old new : Layers B} {before after : Option Tally} {l m : ℕ} {result : Result outcome_type.Outcome HandleStop} (costs : Schedule) (sender : List ℕ) (index : ℕ) (d : Data) (msg : TxMsg) → tx_msg_of d ≡ Ok msg
      → LeadsUnder prefix S old new before after l m (tx_handled costs sender index msg) outcome_view result → LeadsUnder prefix S old new before after l m (read_and_handled costs sender index d) outcome_view result
  after_form costs sender index d msg is leads = after_found message_bad (result_ok (tx_msg_of d)) msg (tx_handled costs sender index) (ap result_ok is) leads

  pub no_form : {layers : Layers B} {l : ℕ} (tally : Option Tally) (shape : ShapeStop) (stop : HandleStop) (costs : Schedule) (sender : List ℕ) (index : ℕ) (d : Data) → IsStopOf shape (tx_msg_of d) → MissesForm shape stop
      → LeadsUnder prefix S layers layers tally tally l l (read_and_handled costs sender index d) outcome_view (Err stop)
  no_form tally (shape_stops.Shape path want) (Failed failure) costs sender index d of misses = not_found tally (Failed failure) message_bad (result_ok (tx_msg_of d)) (tx_handled costs sender index) (ap result_ok of.1, misses)
  no_form tally (shape_stops.Shape path want) OutOfGas costs sender index d of misses = absurd misses
  no_form tally (shape_stops.Shape path want) NoMemory costs sender index d of misses = no_memory
  no_form {layers = layers} {l = l} tally shape_stops.NoMemory stop costs sender index d of misses =
      subst (λ (x : HandleStop). LeadsUnder prefix S layers layers tally tally l l (read_and_handled costs sender index d) outcome_view (Err x)) (sym misses) no_memory
