-- What a transaction does, whose messages run in a layer of their own.
use Rattle.std.proofs.Common.{◌≡◌, ℕ, ◌-◌, ◌<◌, List, [], ◌∷◌, length, Option, None, Some, Result, Ok, Err, refl, sym, ap, ◌∙◌, subst, arith, map, Bool, true, inl, inr}
use Rattle.std.specs.Prelude.{IsSome, option_map, ◌==◌}
use Rattle.std.specs.Global.{Vec}
use Rattle.std.proofs.lemmas.Bool.{false≢true}
use Rattle.std.proofs.lemmas.Bool.Decides.{eqb_tells}
use Rattle.serde_json.specs.Data.{Data}
use Rattle.gas_meter.specs.declared.schedule.Schedule.{Schedule}
use Rattle.kv_layers.specs.declared.layers.Layers.{Layers}
use Rattle.kv_layers.specs.Layers.{Stands, Turns, HasCurrent}
use Rattle.kv_layers.specs.Maps.{Maps, changed, pushed}
use Rattle.chain_addr.specs.Address.{address_of}
use Rattle.chain_records.specs.State.{Bytes, State, Spells}
use Rattle.gatekeeper.specs.Cache.{Tally}
use Rattle.gatekeeper.specs.Fetches.{Tallies}
use Rattle.chain_msgs.specs.declared.failure.Failure as failure_type
use Rattle.chain_msgs.specs.Plain.{Failure, failure_view, Tx, TxResult}
use Rattle.query_router.specs.Lawful.{IsLawful, HasLawful}
use Rattle.submsg_dispatch.specs.declared.outcome.Outcome as outcome_type
use Rattle.submsg_dispatch.specs.declared.stop.HandleStop.{HandleStop}
use Rattle.submsg_dispatch.specs.declared.stop.HandleStop.TheVariants.{Failed, OutOfGas, NoMemory}
use Rattle.submsg_dispatch.specs.Parts.{Part}
use Rattle.submsg_dispatch.specs.Failures.{no_messages}
use Rattle.submsg_dispatch.specs.Failures as failures
use Rattle.submsg_dispatch.specs.Messages.{Outcome}
use Rattle.submsg_dispatch.specs.Transactions.{TxRan, all_handled, failed_result, succeeded, closed, refused, run, run_from, tx}
use Rattle.submsg_dispatch.specs.Reaching.{Arrives, Runs, Undoes}
use Rattle.submsg_dispatch.specs.Under.{LeadsOn, Closes, RunsUnder, HasLawfulUnder, outcomes_view}
use Rattle.submsg_dispatch.proofs.Leading.{no_fetch}

none_some : {A : Type 0} (o : Option A) → o ≡ None → IsSome o → ⊥
none_some None e some = false≢true some
none_some (Some x) e some = absurd cc

-- a result whose failure is seen in its plain form
pub some_failure : (o : Option failure_type.Failure) → IsSome o → IsSome (option_map failure_view o)
some_failure None some = some
some_failure (Some x) some = refl

-- ---- the layer of the messages

abbrev closed_part : Part (List Outcome) → ℕ → State → TxRan
closed_part part gas s = closed s gas (part s gas).ended (part s gas).left (part s gas).fetched

abbrev Did : {B : Type 0} → (B → Bytes → Type 0) → Layers B → Option Tally → Option Tally → Maps → State → TxResult → TxRan → Type 0
Did S new before after maps s result ran = Arrives S new maps s ran.state × (result ≡ ran.result) × Tallies before ran.fetched after

as_before : {B : Type 0} {S : B → Bytes → Type 0} {new : Layers B} (maps : Maps) (s : State) → Stands S new maps → Spells maps.current s → IsLawful s → Arrives S new maps s s
as_before maps s stands spelled lawful = record { map = maps.current; stands = stands; spelled = spelled; lawful = lawful; facts = refl }

module _ {B : Type 0} {S : B → Bytes → Type 0} {prefix : List ℕ} where
  pub closed_runs : {old above over new : Layers B} {before after : Option Tally} {gas left used : ℕ} (part : Part (List Outcome)) (done : Result (Vec outcome_type.Outcome) HandleStop) (result : TxResult) → Turns S old above pushed
      → LeadsOn prefix S above over before after gas left part outcomes_view done → Closes S over new done used result → used ≡ gas - left → RunsUnder prefix S old new before after (closed_part part gas) result
  closed_runs {new = new} {before = before} {after = after} {gas = gas} {left = left} part (Ok outcomes) result push leads closes used = record {
    ran = λ maps s stands spelled lawful is.
        let came = leads.leads (pushed maps) s (push maps stands) spelled lawful is in
        let arrives = came.0.1 in
        let path : closed_part part gas s ≡ record { state = came.0.0; result = succeeded (outcomes_view outcomes) (gas - left); fetched = (part s gas).fetched } = λ i. closed s gas (came.0.2 i) (came.1.0 i) (part s gas).fetched in
        subst (λ (ran : TxRan). Did S new before after maps s result ran) (sym path) (
          record { map = arrives.map; stands = closes.0 (changed (pushed maps) arrives.map) arrives.stands; spelled = arrives.spelled; lawful = arrives.lawful; facts = arrives.facts },
          closes.1 ∙ ap (succeeded (outcomes_view outcomes)) used,
          came.1.1,
        );
    undone = λ some. absurd (none_some result.failure (ap (λ (r : TxResult). r.failure) closes.1) some);
  }
  closed_runs {new = new} {before = before} {after = after} {gas = gas} {left = left} part (Err (Failed failure)) result push leads closes used = record {
    ran = λ maps s stands spelled lawful is.
        let came = leads.leads (pushed maps) s (push maps stands) spelled lawful is in
        let path : closed_part part gas s ≡ record { state = s; result = failed_result (failure_view failure) (gas - left); fetched = (part s gas).fetched } = λ i. closed s gas (came.0.1 i) (came.1.0 i) (part s gas).fetched in
        subst (λ (ran : TxRan). Did S new before after maps s result ran) (sym path) (
          as_before maps s (closes.0 (changed (pushed maps) came.0.0.0) came.0.0.1) spelled lawful,
          closes.1 ∙ ap (failed_result (failure_view failure)) used,
          came.1.1,
        );
    undone = λ some maps s stands spelled lawful is.
        let came = leads.leads (pushed maps) s (push maps stands) spelled lawful is in
        closes.0 (changed (pushed maps) came.0.0.0) came.0.0.1;
  }
  closed_runs {new = new} {before = before} {after = after} {gas = gas} {left = left} part (Err OutOfGas) result push leads closes used = record {
    ran = λ maps s stands spelled lawful is.
        let came = leads.leads (pushed maps) s (push maps stands) spelled lawful is in
        let path : closed_part part gas s ≡ record { state = s; result = failed_result failures.out_of_gas (gas - left); fetched = (part s gas).fetched } = λ i. closed s gas (came.0.1 i) (came.1.0 i) (part s gas).fetched in
        subst (λ (ran : TxRan). Did S new before after maps s result ran) (sym path) (
          as_before maps s (closes.0 (changed (pushed maps) came.0.0.0) came.0.0.1) spelled lawful,
          closes.1 ∙ ap (failed_result failures.out_of_gas) used,
          came.1.1,
        );
    undone = λ some maps s stands spelled lawful is.
        let came = leads.leads (pushed maps) s (push maps stands) spelled lawful is in
        closes.0 (changed (pushed maps) came.0.0.0) came.0.0.1;
  }
  closed_runs part (Err NoMemory) result push leads closes used = absurd closes

  -- ---- the checks before

  pub runs_alike : {old new : Layers B} {before after : Option Tally} {result : TxResult} (one other : State → TxRan) → ((s : State) → s.facts.prefix ≡ prefix → one s ≡ other s) → RunsUnder prefix S old new before after other result → RunsUnder prefix S old new before after one result
  runs_alike {new = new} {before = before} {after = after} {result = result} one other same runs = record {
    ran = λ maps s stands spelled lawful is. subst (λ (ran : TxRan). Did S new before after maps s result ran) (sym (same s is)) (runs.ran maps s stands spelled lawful is);
    undone = runs.undone;
  }

  pub refuses : {layers : Layers B} {tally : Option Tally} {result : TxResult} (failure : Failure) → result ≡ failed_result failure 0 → RunsUnder prefix S layers layers tally tally (λ s. refused s failure) result
  refuses {tally = tally} failure is = record {
    ran = λ maps s stands spelled lawful same. (as_before maps s stands spelled lawful, is, no_fetch tally);
    undone = λ some maps s stands spelled lawful same. stands;
  }

  pub of_sender : {old new : Layers B} {before after : Option Tally} {result : TxResult} (costs : Schedule) (t : Tx) (index : ℕ) (sender : Option (List ℕ)) → address_of prefix t.sender ≡ sender
      → RunsUnder prefix S old new before after (λ s. run_from costs s sender t.gas index t.msgs) result → RunsUnder prefix S old new before after (λ s. tx costs s t index) result
  unfolding tx
  of_sender costs t index sender found runs =
      runs_alike (λ s. tx costs s t index) (λ s. run_from costs s sender t.gas index t.msgs)
      (λ s is. ap (λ (p : List ℕ). run_from costs s (address_of p t.sender) t.gas index t.msgs) is ∙ ap (λ o. run_from costs s o t.gas index t.msgs) found) runs

  pub of_messages : {old new : Layers B} {before after : Option Tally} {result : TxResult} (costs : Schedule) (sender : List ℕ) (gas index : ℕ) (ds : List Data) → 0 < length ds
      → RunsUnder prefix S old new before after (closed_part (all_handled costs sender index ds) gas) result → RunsUnder prefix S old new before after (λ s. run costs s sender gas index ds) result
  of_messages costs sender gas index [] some runs = absurd (omega arith)
  of_messages costs sender gas index (d ∷ ds) some runs = runs

  pub of_none : {layers : Layers B} {tally : Option Tally} {result : TxResult} (costs : Schedule) (sender : List ℕ) (gas index : ℕ) (ds : List Data) → ds ≡ [] → result ≡ failed_result no_messages 0 → RunsUnder prefix S layers layers tally tally (λ s. run costs s sender gas index ds) result
  of_none costs sender gas index ds none is = runs_alike (λ s. run costs s sender gas index ds) (λ s. refused s no_messages) (λ s same. ap (λ (l : List Data). run costs s sender gas index l) none) (refuses no_messages is)

  -- ---- for callers

  pub runs_for_all : {old new : Layers B} {before after : Option Tally} {run : State → TxRan} {result : TxResult} → ((maps : Maps) (s : State) → Stands S old maps → Spells maps.current s → s.facts.prefix ≡ prefix) → RunsUnder prefix S old new before after run result → Runs S old new before after run result
  runs_for_all is runs maps s stands spelled lawful = runs.ran maps s stands spelled lawful (is maps s stands spelled)

  pub undoes_for_all : {old new : Layers B} {before after : Option Tally} {run : State → TxRan} {result : TxResult} → ((maps : Maps) (s : State) → Stands S old maps → Spells maps.current s → s.facts.prefix ≡ prefix) → RunsUnder prefix S old new before after run result → IsSome result.failure → Undoes S old new
  undoes_for_all is runs some maps s stands spelled lawful = runs.undone some maps s stands spelled lawful (is maps s stands spelled)

  pub lawful_run : {old new : Layers B} {before after : Option Tally} {run : State → TxRan} {result : TxResult} → HasLawfulUnder prefix (HasCurrent S old) → RunsUnder prefix S old new before after run result → HasLawful (HasCurrent S new)
  lawful_run {run = run} some runs =
      let maps = some.stands.0 in
      let did = runs.ran maps some.state some.stands.1 (rw some.stands.2 some.spelled) some.holds.0 some.holds.1 in
      record { map = did.0.map; state = (run some.state).state; stands = (changed maps did.0.map, did.0.stands, refl); spelled = did.0.spelled; holds = did.0.lawful }

  -- where no message's layer is pushed yet, and where it is
  pub lawful_pushed : {old above : Layers B} → Turns S old above pushed → HasLawfulUnder prefix (HasCurrent S old) → HasLawfulUnder prefix (HasCurrent S above)
  lawful_pushed push some = record { map = some.map; state = some.state; stands = (pushed some.stands.0, push some.stands.0 some.stands.1, some.stands.2); spelled = some.spelled; holds = some.holds }

-- ---- a transaction without messages

pub zero_of : (n : ℕ) (b : Bool) → b ≡ (n == 0) → b ≡ true → n ≡ 0
zero_of n b is t = elim (eqb_tells n 0) [ inl p ↦ p.1 | inr p ↦ absurd (false≢true (sym p.0 ∙ sym is ∙ t)) ]

pub no_values : {X : Type 0} (f : X → Data) (xs : List X) → length xs ≡ 0 → map f xs ≡ []
no_values f [] none = refl
no_values f (x ∷ xs) none = absurd (omega arith)
