-- What becomes of a contract that was called and of its submessages.
use Rattle.std.proofs.Common.{◌≡◌, ℕ, Bool, true, false, cond, List, [], ◌∷◌, ◌++◌, Option, Result, Ok, Err, map, string_bytes, refl, sym, ap, ◌∙◌, subst}
use Rattle.std.specs.Prelude.{is_ok, IsErrAnd}
use Rattle.kv_layers.specs.declared.layers.Layers.{Layers}
use Rattle.chain_records.specs.State.{Bytes}
use Rattle.gatekeeper.specs.Cache.{Tally}
use Rattle.gatekeeper.specs.Fetches.{TalliesJoin}
use Rattle.chain_msgs.specs.declared.failure.Failure as failure_type
use Rattle.chain_msgs.specs.Plain.{Event, Failure, failure_view}
use Rattle.chain_msgs.specs.declared.messages.CosmosMsg as cosmos_type
use Rattle.gas_meter.specs.declared.schedule.Schedule.{Schedule}
use Rattle.chain_msgs.specs.Messages.{cosmos_view, SubMsg, sub_msg_view, Reply, ReplyResult}
use Rattle.call_outcomes.specs.Replies.{wants_reply}
use Rattle.submsg_dispatch.specs.declared.called.Called as called_type
use Rattle.submsg_dispatch.specs.declared.given.Caller.{Caller}
use Rattle.submsg_dispatch.specs.declared.given.Given as given_type
use Rattle.submsg_dispatch.specs.declared.outcome.Outcome as outcome_type
use Rattle.submsg_dispatch.specs.declared.stop.HandleStop.{HandleStop}
use Rattle.submsg_dispatch.specs.declared.stop.HandleStop.TheVariants.{Failed}
use Rattle.submsg_dispatch.specs.Parts.{Part, done, fails, ◌>>=◌}
use Rattle.submsg_dispatch.specs.Messages.{Outcome}
use Rattle.submsg_dispatch.specs.Calling.{Called}
use Rattle.submsg_dispatch.specs.Stages.{IsCallerOf, called_view, given_view, tried_view, events_told, outcome_given, with_events}
use Rattle.submsg_dispatch.specs.Submessages.{Level, Given, given_at_first, result_told, events_of, with_reply, unreplied, settled, subs, outcome_of, responds, by_kind}
use Rattle.submsg_dispatch.specs.Under.{LeadsOn}
use Rattle.submsg_dispatch.specs.Views.{outcome_view}
use Rattle.submsg_dispatch.proofs.Chaining.{gives_on, passes_so, then_on, stop_on, then_done_on}
use Rattle.submsg_dispatch.proofs.Refusing.{by_sort}

-- ---- whether it wants to be told

pub ok_of_tried : (tried : Result outcome_type.Outcome failure_type.Failure) → is_ok (tried_view tried) ≡ is_ok tried
ok_of_tried (Ok outcome) = refl
ok_of_tried (Err failure) = refl

told_of_tried : (r : Result Outcome Failure) → events_told (result_told r) ≡ events_of r
told_of_tried (Ok outcome) = refl
told_of_tried (Err failure) = refl

module _ {B : Type 0} {S : B → Bytes → Type 0} {prefix : List ℕ} where
  settled_by : {old new : Layers B} {before after : Option Tally} {l m : ℕ} {result : Result given_type.Given HandleStop} (wants : Bool) (lvl : Level) (caller : List ℕ) (sub : SubMsg) (g : Given) (r : Result Outcome Failure) → wants_reply sub.reply_on (is_ok r) ≡ wants
      → LeadsOn prefix S old new before after l m (cond wants (lvl.reply caller (record { id = sub.id; result = result_told r }) >>= λ reply. done (with_reply g (events_of r) reply)) (unreplied g r)) given_view result → LeadsOn prefix S old new before after l m (settled lvl caller sub g r) given_view result
  settled_by {old = old} {new = new} {before = before} {after = after} {l = l} {m = m} {result = result} wants lvl caller sub g r is leads =
      subst (λ (w : Bool). LeadsOn prefix S old new before after l m (cond w (lvl.reply caller (record { id = sub.id; result = result_told r }) >>= λ reply. done (with_reply g (events_of r) reply)) (unreplied g r)) given_view result) (sym is) leads

  -- ---- nobody is told

  pub settled_ok : {layers : Layers B} {tally : Option Tally} {l : ℕ} (lvl : Level) (caller : List ℕ) (sub : SubMsg) (given all : given_type.Given) (tried : Result outcome_type.Outcome failure_type.Failure) (outcome : outcome_type.Outcome) → tried ≡ Ok outcome → wants_reply sub.reply_on (is_ok tried) ≡ false
      → given_view all ≡ with_events (given_view given) (outcome_view outcome) → LeadsOn prefix S layers layers tally tally l l (settled lvl caller sub (given_view given) (tried_view tried)) given_view (Ok all)
  settled_ok {layers = layers} {tally = tally} {l = l} lvl caller sub given all tried outcome is wants gives =
      subst (λ (r : Result Outcome Failure). LeadsOn prefix S layers layers tally tally l l (settled lvl caller sub (given_view given) r) given_view (Ok all)) (sym (ap tried_view is))
      (settled_by false lvl caller sub (given_view given) (Ok (outcome_view outcome)) (ap (λ x. wants_reply sub.reply_on (is_ok x)) (sym is) ∙ wants)
      (gives_on (done (with_events (given_view given) (outcome_view outcome))) given_view (Ok all) (λ s left same. ap (λ (x : Given). done x s left) (sym gives))))

  pub settled_failed : {layers : Layers B} {tally : Option Tally} {l : ℕ} (lvl : Level) (caller : List ℕ) (sub : SubMsg) (given : given_type.Given) (tried : Result outcome_type.Outcome failure_type.Failure) (failure : failure_type.Failure) → tried ≡ Err failure → wants_reply sub.reply_on (is_ok tried) ≡ false
      → LeadsOn prefix S layers layers tally tally l l (settled lvl caller sub (given_view given) (tried_view tried)) given_view (Err (Failed failure))
  settled_failed {layers = layers} {tally = tally} {l = l} lvl caller sub given tried failure is wants =
      subst (λ (r : Result Outcome Failure). LeadsOn prefix S layers layers tally tally l l (settled lvl caller sub (given_view given) r) given_view (Err (Failed failure))) (sym (ap tried_view is))
      (settled_by false lvl caller sub (given_view given) (Err (failure_view failure)) (ap (λ x. wants_reply sub.reply_on (is_ok x)) (sym is) ∙ wants)
      (gives_on {X = given_type.Given} (fails {A = Given} (failure_view failure)) given_view (Err (Failed failure)) (λ s left same. refl)))

  -- ---- it is told

  pub settled_stop : {old new : Layers B} {before after : Option Tally} {l m : ℕ} (lvl : Level) (caller : List ℕ) (sub : SubMsg) (g : Given) (tried : Result outcome_type.Outcome failure_type.Failure) (told : ReplyResult) (stop : HandleStop) → wants_reply sub.reply_on (is_ok tried) ≡ true → told ≡ result_told (tried_view tried)
      → LeadsOn prefix S old new before after l m (lvl.reply caller (record { id = sub.id; result = told })) outcome_view (Err stop) → LeadsOn prefix S old new before after l m (settled lvl caller sub g (tried_view tried)) given_view (Err stop)
  settled_stop {old = old} {new = new} {before = before} {after = after} {l = l} {m = m} lvl caller sub g tried told stop wants tells leads =
      let r = tried_view tried in
      let here = subst (λ (t : ReplyResult). LeadsOn prefix S old new before after l m (lvl.reply caller (record { id = sub.id; result = t })) outcome_view (Err stop)) tells leads in
      settled_by true lvl caller sub g r (ap (wants_reply sub.reply_on) (ok_of_tried tried) ∙ wants)
      (stop_on stop (lvl.reply caller (record { id = sub.id; result = result_told r })) (λ reply. done (with_reply g (events_of r) reply)) here)

  pub settled_told : {old new : Layers B} {before after : Option Tally} {l m : ℕ} (lvl : Level) (caller : List ℕ) (sub : SubMsg) (given all : given_type.Given) (tried : Result outcome_type.Outcome failure_type.Failure) (told : ReplyResult) (outcome : outcome_type.Outcome) → wants_reply sub.reply_on (is_ok tried) ≡ true → told ≡ result_told (tried_view tried)
      → given_view all ≡ with_reply (given_view given) (events_told told) (outcome_view outcome) → LeadsOn prefix S old new before after l m (lvl.reply caller (record { id = sub.id; result = told })) outcome_view (Ok outcome)
      → LeadsOn prefix S old new before after l m (settled lvl caller sub (given_view given) (tried_view tried)) given_view (Ok all)
  settled_told {old = old} {new = new} {before = before} {after = after} {l = l} {m = m} lvl caller sub given all tried told outcome wants tells gives leads =
      let r = tried_view tried in
      let here = subst (λ (t : ReplyResult). LeadsOn prefix S old new before after l m (lvl.reply caller (record { id = sub.id; result = t })) outcome_view (Ok outcome)) tells leads in
      settled_by true lvl caller sub (given_view given) r (ap (wants_reply sub.reply_on) (ok_of_tried tried) ∙ wants)
      (then_done_on outcome all (lvl.reply caller (record { id = sub.id; result = result_told r })) (with_reply (given_view given) (events_of r))
      (gives ∙ ap (λ (events : List Event). with_reply (given_view given) events (outcome_view outcome)) (ap events_told tells ∙ told_of_tried r)) here)

  -- ---- what a contract gives that was called

  subs_of : {old new : Layers B} {before after : Option Tally} {l m : ℕ} {result : Result given_type.Given HandleStop} (lvl : Level) (called : called_type.Called) (caller : Caller) → IsCallerOf called caller
      → LeadsOn prefix S old new before after l m (subs lvl caller.addr.items (map sub_msg_view caller.messages.items) (given_view caller.given)) given_view result
      → LeadsOn prefix S old new before after l m (subs lvl (called_view called).addr (called_view called).response.messages (given_at_first (called_view called))) given_view result
  subs_of {old = old} {new = new} {before = before} {after = after} {l = l} {m = m} {result = result} lvl called caller of leads =
      let same : subs lvl caller.addr.items (map sub_msg_view caller.messages.items) (given_view caller.given) ≡ subs lvl (called_view called).addr (called_view called).response.messages (given_at_first (called_view called)) =
      λ i. subs lvl (of.addr i).items (map sub_msg_view (of.messages i).items) (of.given i)
      in
      subst (λ (p : Part Given). LeadsOn prefix S old new before after l m p given_view result) same leads

  pub responds_stop : {old new : Layers B} {before after : Option Tally} {l m : ℕ} (lvl : Level) (called : called_type.Called) (caller : Caller) (stop : HandleStop) → IsCallerOf called caller
      → LeadsOn prefix S old new before after l m (subs lvl caller.addr.items (map sub_msg_view caller.messages.items) (given_view caller.given)) given_view (Err stop) → LeadsOn prefix S old new before after l m (responds lvl (called_view called)) outcome_view (Err stop)
  responds_stop lvl called caller stop of leads =
      let plain = called_view called in
      stop_on stop (subs lvl plain.addr plain.response.messages (given_at_first plain)) (λ g. done (outcome_of plain g)) (subs_of lvl called caller of leads)

  pub responds_done : {old new : Layers B} {before after : Option Tally} {l m : ℕ} (lvl : Level) (called : called_type.Called) (caller : Caller) (given : given_type.Given) (outcome : outcome_type.Outcome) → IsCallerOf called caller
      → outcome_view outcome ≡ outcome_given caller.entry (string_bytes caller.contract) (given_view given)
      → LeadsOn prefix S old new before after l m (subs lvl caller.addr.items (map sub_msg_view caller.messages.items) (given_view caller.given)) given_view (Ok given) → LeadsOn prefix S old new before after l m (responds lvl (called_view called)) outcome_view (Ok outcome)
  responds_done lvl called caller given outcome of gives leads =
      let plain = called_view called in
      let same : outcome_given caller.entry (string_bytes caller.contract) (given_view given) ≡ outcome_of plain (given_view given) = λ i. outcome_given (of.entry i) (string_bytes (of.contract i)) (given_view given) in
      then_done_on given outcome (subs lvl plain.addr plain.response.messages (given_at_first plain)) (outcome_of plain) (gives ∙ same) (subs_of lvl called caller of leads)

  -- ---- messages that call contracts

  pub kind_stops : {old new : Layers B} {before after : Option Tally} {l m : ℕ} (p : Part Called) (lvl : Level) (costs : Schedule) (index : ℕ) (sender : List ℕ) (msg form : cosmos_type.CosmosMsg) (stop : HandleStop) (result : Result outcome_type.Outcome HandleStop) → IsErrAnd result (λ y. y ≡ stop)
      → msg ≡ form → by_kind lvl costs index prefix sender (cosmos_view form) ≡ (p >>= responds lvl) → LeadsOn prefix S old new before after l m p called_view (Err stop) → LeadsOn prefix S old new before after l m (by_kind lvl costs index prefix sender (cosmos_view msg)) outcome_view result
  kind_stops p lvl costs index sender msg form stop result passed is does leads = by_sort (p >>= responds lvl) lvl costs index sender msg form is does (passes_so result stop passed (stop_on stop p (responds lvl) leads))

  pub kind_responds : {old mid new : Layers B} {before between after : Option Tally} {l m n : ℕ} {result : Result outcome_type.Outcome HandleStop} (join : TalliesJoin) (called : called_type.Called) (p : Part Called) (lvl : Level) (costs : Schedule) (index : ℕ) (sender : List ℕ) (msg form : cosmos_type.CosmosMsg)
      → msg ≡ form → by_kind lvl costs index prefix sender (cosmos_view form) ≡ (p >>= responds lvl) → LeadsOn prefix S old mid before between l m p called_view (Ok called) → LeadsOn prefix S mid new between after m n (responds lvl (called_view called)) outcome_view result
      → LeadsOn prefix S old new before after l n (by_kind lvl costs index prefix sender (cosmos_view msg)) outcome_view result
  kind_responds join called p lvl costs index sender msg form is does first second = by_sort (p >>= responds lvl) lvl costs index sender msg form is does (then_on join called p (responds lvl) first second)
