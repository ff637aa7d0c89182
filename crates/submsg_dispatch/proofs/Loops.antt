-- What came so far of messages that run one after the other, and what the messages left give.
use Rattle.std.proofs.Common.{◌≡◌, ℕ, List, [], ◌∷◌, ◌++◌, Option, Result, Ok, Err, append-nil, append_assoc, refl, sym, ap, ◌∙◌, subst}
use Rattle.std.specs.Prelude.{IsErrAnd}
use Rattle.std.specs.Global.{Vec}
use Rattle.serde_json.specs.Data.{Data}
use Rattle.gas_meter.specs.declared.schedule.Schedule.{Schedule}
use Rattle.kv_layers.specs.declared.layers.Layers.{Layers}
use Rattle.kv_layers.specs.Layers.{Stands, HasCurrent}
use Rattle.kv_layers.specs.Maps.{Maps, changed}
use Rattle.chain_records.specs.Records.{PlainFacts}
use Rattle.chain_records.specs.State.{Bytes, State, Spells}
use Rattle.gatekeeper.specs.Cache.{Tally}
use Rattle.gatekeeper.specs.Fetches.{Tallies, TalliesJoin}
use Rattle.chain_msgs.specs.Plain.{failure_view}
use Rattle.query_router.specs.Lawful.{IsLawful}
use Rattle.submsg_dispatch.specs.declared.outcome.Outcome as outcome_type
use Rattle.submsg_dispatch.specs.declared.stop.HandleStop.{HandleStop}
use Rattle.submsg_dispatch.specs.declared.stop.HandleStop.TheVariants.{Failed, OutOfGas, NoMemory}
use Rattle.submsg_dispatch.specs.Parts.{Part, Ran, Ended, kept, failed, out_of_gas, done, goes_on, ◌>>=◌}
use Rattle.submsg_dispatch.specs.Messages.{Outcome}
use Rattle.submsg_dispatch.specs.Transactions.{read_and_handled, all_handled}
use Rattle.submsg_dispatch.specs.Views.{outcome_view}
use Rattle.submsg_dispatch.specs.Reaching.{Arrives, Leaves}
use Rattle.submsg_dispatch.specs.Under.{LeadsUnder, LeadsOn, Ends, HasLawfulUnder, outcomes_view}
use Rattle.submsg_dispatch.proofs.Leading.{no_fetch}

-- ---- with what came before in front

abbrev pub front_end : List Outcome → Ended (List Outcome) → Ended (List Outcome)
front_end front (kept s rest) = kept s (front ++ rest)
front_end front (failed failure) = failed failure
front_end front out_of_gas = out_of_gas

abbrev pub with_front : List Outcome → List (List ℕ) → Ran (List Outcome) → Ran (List Outcome)
with_front front codes ran = record { ended = front_end front ran.ended; left = ran.left; fetched = codes ++ ran.fetched }

abbrev ran_of : Ended (List Outcome) → ℕ → List (List ℕ) → Ran (List Outcome)
ran_of ended left fetched = record { ended = ended; left = left; fetched = fetched }

no_front : (e : Ended (List Outcome)) → front_end [] e ≡ e
no_front (kept s rest) = refl
no_front (failed failure) = refl
no_front out_of_gas = refl

two_fronts : (front : List Outcome) (o : Outcome) (e : Ended (List Outcome)) → front_end front (front_end (o ∷ []) e) ≡ front_end (front ++ o ∷ []) e
two_fronts front o (kept s rest) = ap (kept s) (sym (append_assoc front (o ∷ []) rest))
two_fronts front o (failed failure) = refl
two_fronts front o out_of_gas = refl

-- one outcome in front of the others
abbrev put_first : Outcome → List Outcome → Part (List Outcome)
put_first o os = done (o ∷ os)

first_of_all : (o : Outcome) (e : Ended (List Outcome)) (left : ℕ) (codes : List (List ℕ)) → goes_on (put_first o) e left codes ≡ ran_of (front_end (o ∷ []) e) left codes
first_of_all o (kept s rest) left codes = ap (ran_of (kept s (o ∷ rest)) left) (append-nil codes)
first_of_all o (failed failure) left codes = refl
first_of_all o out_of_gas left codes = refl

-- the first message ended with an outcome, and the others go on
pub first_then : (costs : Schedule) (sender : List ℕ) (index : ℕ) (d : Data) (ds : List Data) (s t : State) (l m : ℕ) (o : Outcome) → (read_and_handled costs sender index d s l).ended ≡ kept t o → (read_and_handled costs sender index d s l).left ≡ m
    → all_handled costs sender index (d ∷ ds) s l ≡ with_front (o ∷ []) (read_and_handled costs sender index d s l).fetched (all_handled costs sender index ds t m)
first_then costs sender index d ds s t l m o ended left =
    let r : Ran Outcome = read_and_handled costs sender index d s l in
    let q : Ran (List Outcome) = all_handled costs sender index ds t m in
    let next = λ (x : Outcome). all_handled costs sender index ds >>= put_first x in
    (λ i. goes_on next (ended i) (left i) r.fetched) ∙ ap (λ (x : Ran (List Outcome)). ran_of x.ended x.left (r.fetched ++ x.fetched)) (first_of_all o q.ended q.left q.fetched)

-- the first message stops, and so do all
pub first_fails : (costs : Schedule) (sender : List ℕ) (index : ℕ) (d : Data) (ds : List Data) (s : State) (l : ℕ) (e : Ended Outcome) → (read_and_handled costs sender index d s l).ended ≡ e
    → all_handled costs sender index (d ∷ ds) s l ≡ goes_on (λ (x : Outcome). all_handled costs sender index ds >>= put_first x) e (read_and_handled costs sender index d s l).left (read_and_handled costs sender index d s l).fetched
first_fails costs sender index d ds s l e ended =
    let r : Ran Outcome = read_and_handled costs sender index d s l in
    ap (λ (x : Ended Outcome). goes_on (λ (y : Outcome). all_handled costs sender index ds >>= put_first y) x r.left r.fetched) ended

-- ---- on the way

-- Some messages were done on layers that stood for these maps, of which the current one spelled the state. What came of them and what those left give is what all give.
pub record Reached {B : Type 0} (S : B → Bytes → Type 0) (now : Layers B) (maps : Maps) (s : State) (before after : Option Tally) (front : List Outcome) (left : ℕ) (rest : Part (List Outcome)) (all : Ran (List Outcome)) : Type 0 where
  pub state : State
  pub arrives : Arrives S now maps s state
  pub codes : List (List ℕ)
  pub tallies : Tallies before codes after
  pub same : all ≡ with_front front codes (rest state left)

-- for each map and lawful state that the layers stood for at first
pub record Reaches {B : Type 0} (prefix : List ℕ) (S : B → Bytes → Type 0) (first now : Layers B) (before after : Option Tally) (start left : ℕ) (front : List Outcome) (rest all : Part (List Outcome)) : Type 0 where
  pub reached : (maps : Maps) (s : State) → Stands S first maps → Spells maps.current s → IsLawful s → s.facts.prefix ≡ prefix → Reached S now maps s before after front left rest (all s start)

module _ {B : Type 0} {S : B → Bytes → Type 0} {prefix : List ℕ} where
  pub reach_start : {layers : Layers B} {tally : Option Tally} {l : ℕ} (front : List Outcome) (all : Part (List Outcome)) → front ≡ [] → Reaches prefix S layers layers tally tally l l front all all
  reach_start {tally = tally} {l = l} front all none = record {
    reached = λ maps s stands spelled lawful is. record {
      state = s;
      arrives = record { map = maps.current; stands = stands; spelled = spelled; lawful = lawful; facts = refl };
      codes = [];
      tallies = no_fetch tally;
      same = ap (λ (e : Ended (List Outcome)). ran_of e (all s l).left (all s l).fetched) (sym (no_front (all s l).ended)) ∙ ap (λ (f : List Outcome). with_front f [] (all s l)) (sym none);
    };
  }

  -- the layers stand for a lawful state at each turn
  pub reach_lawful : {first now : Layers B} {before after : Option Tally} {l m : ℕ} {front : List Outcome} {rest all : Part (List Outcome)} → HasLawfulUnder prefix (HasCurrent S first) → Reaches prefix S first now before after l m front rest all → HasLawfulUnder prefix (HasCurrent S now)
  reach_lawful some reaches =
      let maps = some.stands.0 in
      let at = reaches.reached maps some.state some.stands.1 (rw some.stands.2 some.spelled) some.holds.0 some.holds.1 in
      record { map = at.arrives.map; state = at.state; stands = (changed maps at.arrives.map, at.arrives.stands, refl); spelled = at.arrives.spelled; holds = (at.arrives.lawful, ap (λ (f : PlainFacts). f.prefix) at.arrives.facts ∙ some.holds.1) }

  pub reach_more : {first now next : Layers B} {before between after : Option Tally} {l m n : ℕ} (costs : Schedule) (sender : List ℕ) (index : ℕ) (d : Data) (ds : List Data) (all : Part (List Outcome)) (front : List Outcome) (outcome : outcome_type.Outcome) → TalliesJoin
      → LeadsUnder prefix S now next between after m n (read_and_handled costs sender index d) outcome_view (Ok outcome) → Reaches prefix S first now before between l m front (all_handled costs sender index (d ∷ ds)) all
      → Reaches prefix S first next before after l n (front ++ outcome_view outcome ∷ []) (all_handled costs sender index ds) all
  reach_more {before = before} {between = between} {after = after} {m = m} {n = n} costs sender index d ds all front outcome join leads reaches = record {
    reached = λ maps s stands spelled lawful is.
        let at = reaches.reached maps s stands spelled lawful is in
        let came = leads.leads (changed maps at.arrives.map) at.state at.arrives.stands at.arrives.spelled at.arrives.lawful (ap (λ (f : PlainFacts). f.prefix) at.arrives.facts ∙ is) in
        let r : Ran Outcome = read_and_handled costs sender index d at.state m in
        let t : State = came.0.0 in
        let q : Ran (List Outcome) = all_handled costs sender index ds t n in
        let o = outcome_view outcome in
        record {
          state = t;
          arrives = record { map = came.0.1.map; stands = came.0.1.stands; spelled = came.0.1.spelled; lawful = came.0.1.lawful; facts = came.0.1.facts ∙ at.arrives.facts };
          codes = at.codes ++ r.fetched;
          tallies = join at.codes r.fetched before between after at.tallies came.1.1;
          same =
              at.same
              ∙ ap (with_front front at.codes) (first_then costs sender index d ds at.state t m n o came.0.2 came.1.0)
              ∙ (λ i. ran_of (two_fronts front o q.ended i) q.left (sym (append_assoc at.codes r.fetched q.fetched) i));
        };
  }

  pub reach_end : {first now : Layers B} {before after : Option Tally} {l m : ℕ} (costs : Schedule) (sender : List ℕ) (index : ℕ) (all : Part (List Outcome)) (outcomes : Vec outcome_type.Outcome) → Reaches prefix S first now before after l m (outcomes_view outcomes) (all_handled costs sender index []) all
      → LeadsOn prefix S first now before after l m all outcomes_view (Ok outcomes)
  reach_end {now = now} {before = before} {after = after} {m = m} costs sender index all outcomes reaches = record {
    leads = λ maps s stands spelled lawful is.
        let at = reaches.reached maps s stands spelled lawful is in
        let front = outcomes_view outcomes in
        let whole : kept at.state (front ++ []) ≡ kept at.state front = ap (kept at.state) (append-nil front) in
        subst (λ (ran : Ran (List Outcome)). Ends S now maps s outcomes_view (Ok outcomes) ran × Leaves m before after ran) (sym at.same)
        ((at.state, at.arrives, whole), (refl, subst (λ (codes : List (List ℕ)). Tallies before codes after) (sym (append-nil at.codes)) at.tallies));
  }

  pub no_room : {old new : Layers B} {before after : Option Tally} {l m : ℕ} {all : Part (List Outcome)} → LeadsOn prefix S old new before after l m all outcomes_view (Err NoMemory)
  no_room = record { leads = λ maps s stands spelled lawful is. (tt, tt) }

  -- a stop that is passed on
  pub passes_on : {old new : Layers B} {before after : Option Tally} {l m : ℕ} {all : Part (List Outcome)} (result : Result (Vec outcome_type.Outcome) HandleStop) (stop : HandleStop) → IsErrAnd result (λ y. y ≡ stop)
      → LeadsOn prefix S old new before after l m all outcomes_view (Err stop) → LeadsOn prefix S old new before after l m all outcomes_view result
  passes_on (Ok x) stop is leads = absurd is
  passes_on {old = old} {new = new} {before = before} {after = after} {l = l} {m = m} {all = all} (Err y) stop is leads =
      subst (λ (e : HandleStop). LeadsOn prefix S old new before after l m all outcomes_view (Err e)) (sym is) leads

  pub reach_stop : {first now next : Layers B} {before between after : Option Tally} {l m n : ℕ} {front : List Outcome} (costs : Schedule) (sender : List ℕ) (index : ℕ) (d : Data) (ds : List Data) (all : Part (List Outcome)) (stop : HandleStop) → TalliesJoin
      → LeadsUnder prefix S now next between after m n (read_and_handled costs sender index d) outcome_view (Err stop) → Reaches prefix S first now before between l m front (all_handled costs sender index (d ∷ ds)) all
      → LeadsOn prefix S first next before after l n all outcomes_view (Err stop)
  reach_stop {next = next} {before = before} {between = between} {after = after} {m = m} {n = n} {front = front} costs sender index d ds all (Failed failure) join leads reaches = record {
    leads = λ maps s stands spelled lawful is.
        let at = reaches.reached maps s stands spelled lawful is in
        let came = leads.leads (changed maps at.arrives.map) at.state at.arrives.stands at.arrives.spelled at.arrives.lawful (ap (λ (f : PlainFacts). f.prefix) at.arrives.facts ∙ is) in
        let r : Ran Outcome = read_and_handled costs sender index d at.state m in
        let path = at.same ∙ ap (with_front front at.codes) (first_fails costs sender index d ds at.state m (failed (failure_view failure)) came.0.1) in
        subst (λ (ran : Ran (List Outcome)). Ends S next maps s outcomes_view (Err (Failed failure)) ran × Leaves n before after ran) (sym path)
        (((at.arrives.map, came.0.0), refl), (came.1.0, join at.codes r.fetched before between after at.tallies came.1.1));
  }
  reach_stop {next = next} {before = before} {between = between} {after = after} {m = m} {n = n} {front = front} costs sender index d ds all OutOfGas join leads reaches = record {
    leads = λ maps s stands spelled lawful is.
        let at = reaches.reached maps s stands spelled lawful is in
        let came = leads.leads (changed maps at.arrives.map) at.state at.arrives.stands at.arrives.spelled at.arrives.lawful (ap (λ (f : PlainFacts). f.prefix) at.arrives.facts ∙ is) in
        let r : Ran Outcome = read_and_handled costs sender index d at.state m in
        let path = at.same ∙ ap (with_front front at.codes) (first_fails costs sender index d ds at.state m out_of_gas came.0.1) in
        subst (λ (ran : Ran (List Outcome)). Ends S next maps s outcomes_view (Err OutOfGas) ran × Leaves n before after ran) (sym path)
        (((at.arrives.map, came.0.0), refl), (came.1.0, join at.codes r.fetched before between after at.tallies came.1.1));
  }
  reach_stop costs sender index d ds all NoMemory join leads reaches = no_room
