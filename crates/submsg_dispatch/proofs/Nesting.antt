-- Levels of depth, messages that run in a layer of their own, and those within a limit of gas.
use Rattle.std.proofs.Common.{◌≡◌, ℕ, zero, suc, ◌+◌, ◌-◌, ◌≤◌, ◌<◌, min, Bool, true, false, List, [], ◌∷◌, Option, None, Some, Result, Ok, Err, refl, sym, ap, ◌∙◌, subst, arith}
use Rattle.std.specs.Option.{unwrap_or}
use Rattle.gas_meter.specs.declared.schedule.Schedule.{Schedule}
use Rattle.kv_layers.specs.declared.layers.Layers.{Layers}
use Rattle.kv_layers.specs.Layers.{Stands, Turns}
use Rattle.kv_layers.specs.Maps.{Maps, changed, pushed}
use Rattle.chain_records.specs.State.{Bytes, State, Spells}
use Rattle.gatekeeper.specs.Cache.{Tally}
use Rattle.gatekeeper.specs.Fetches.{Tallies, TalliesJoin}
use Rattle.chain_msgs.specs.declared.failure.Failure as failure_type
use Rattle.chain_msgs.specs.Messages.{CosmosMsg, SubMsg, Reply}
use Rattle.chain_msgs.specs.Plain.{Failure, failure_view}
use Rattle.query_router.specs.Lawful.{IsLawful}
use Rattle.submsg_dispatch.specs.declared.called.Called as called_type
use Rattle.submsg_dispatch.specs.declared.given.Given as given_type
use Rattle.submsg_dispatch.specs.declared.outcome.Outcome as outcome_type
use Rattle.submsg_dispatch.specs.declared.stop.HandleStop.{HandleStop}
use Rattle.submsg_dispatch.specs.declared.stop.HandleStop.TheVariants.{Failed, OutOfGas, NoMemory}
use Rattle.submsg_dispatch.specs.Calling.{Called, replies}
use Rattle.submsg_dispatch.specs.Failures as failures
use Rattle.submsg_dispatch.specs.Failures.{too_deep}
use Rattle.submsg_dispatch.specs.Messages.{Outcome}
use Rattle.submsg_dispatch.specs.Parts.{Part, Ran, Ended, kept, failed, out_of_gas, done, fails, charge, reads, share, counts, caught_end, caught, attempt, ◌>>=◌}
use Rattle.submsg_dispatch.specs.Reaching.{Arrives, Leaves, UnlessNoMemory}
use Rattle.submsg_dispatch.specs.Stages.{ClosesOne, CatchesEnd, Catches, tried_view, given_view, called_view}
use Rattle.submsg_dispatch.specs.Submessages.{Level, Given, lowest, above, level, at_depth, by_kind, handled, responds, sub, subs}
use Rattle.submsg_dispatch.specs.Under.{Fails, LeadsUnder, LeadsOn, Ends}
use Rattle.submsg_dispatch.specs.Views.{outcome_view}
use Rattle.submsg_dispatch.proofs.Chaining.{no_memory_on, on_of_under, prefixed_on, gives_on, then_on, stop_on}
use Rattle.submsg_dispatch.proofs.Leading.{no_memory, alike, fails_so, after_charge, without_gas}

-- ---- levels

level_zero : (costs : Schedule) (index : ℕ) → level costs index zero ≡ lowest costs
unfolding level
level_zero costs index = refl

level_suc : (costs : Schedule) (index n : ℕ) → level costs index (suc n) ≡ above (level costs index n) costs index
unfolding level
level_suc costs index n = refl

pub at_lowest : (costs : Schedule) (index depth : ℕ) → depth ≡ 32 → at_depth costs index depth ≡ lowest costs
at_lowest costs index depth is = let none : 32 - depth ≡ zero = omega (arith, is) in ap (level costs index) none ∙ level_zero costs index

pub at_above : (costs : Schedule) (index depth : ℕ) → depth ≤ 32 → (depth ≡ 32 → ⊥) → at_depth costs index depth ≡ above (at_depth costs index (depth + 1)) costs index
at_above costs index depth most other = ap (level costs index) (more (32 - depth) refl) ∙ level_suc costs index (32 - (depth + 1))
  where
    more : (n : ℕ) → n ≡ 32 - depth → 32 - depth ≡ suc (32 - (depth + 1))
    more zero is = absurd (other (omega (arith, is, most)))
    more (suc n) is = omega (arith, is, most)

pub deeper : (depth : ℕ) → depth ≤ 32 → (depth ≡ 32 → ⊥) → depth + 1 ≤ 32
deeper depth most other = more (32 - depth) refl
  where
    more : (n : ℕ) → n ≡ 32 - depth → depth + 1 ≤ 32
    more zero is = absurd (other (omega (arith, is, most)))
    more (suc n) is = omega (arith, is, most)

-- a message is paid first, at each level
paid_at : (costs : Schedule) (index n : ℕ) (sender : List ℕ) (msg : CosmosMsg) → (k : Unit {0} → Part Outcome) × ((level costs index n).message sender msg ≡ charge costs.message >>= k)
paid_at costs index zero sender msg = ((λ _. fails too_deep), ap (λ (l : Level). l.message sender msg) (level_zero costs index))
paid_at costs index (suc n) sender msg = ((λ _. reads (λ s. by_kind (level costs index n) costs index s.facts.prefix sender msg)), ap (λ (l : Level). l.message sender msg) (level_suc costs index n))

pub paid_first : (costs : Schedule) (index depth : ℕ) (sender : List ℕ) (msg : CosmosMsg) → (k : Unit {0} → Part Outcome) × ((at_depth costs index depth).message sender msg ≡ charge costs.message >>= k)
paid_first costs index depth sender msg = paid_at costs index (32 - depth) sender msg

-- ---- a message at its depth

module _ {B : Type 0} {S : B → Bytes → Type 0} {prefix : List ℕ} where
  pub paid_out : {layers : Layers B} (tally : Option Tally) (stop : HandleStop) (costs : Schedule) (sender : List ℕ) (msg : CosmosMsg) (index depth l left : ℕ) → stop ≡ OutOfGas → l < costs.message → left ≡ 0
      → LeadsUnder prefix S layers layers tally tally l left (handled costs sender msg index depth) outcome_view (Err stop)
  paid_out {layers = layers} tally stop costs sender msg index depth l left is few none =
      let paid = paid_first costs index depth sender msg in
      subst (λ (p : Part Outcome). LeadsUnder prefix S layers layers tally tally l left p outcome_view (Err stop)) (sym paid.1) (without_gas tally stop costs.message l left paid.0 is few none)

  pub paid_too_deep : {layers : Layers B} (tally : Option Tally) (stop : HandleStop) (costs : Schedule) (sender : List ℕ) (msg : CosmosMsg) (index depth l left : ℕ) → depth ≡ 32 → Fails stop too_deep → costs.message ≤ l → left ≡ l - costs.message
      → LeadsUnder prefix S layers layers tally tally l left (handled costs sender msg index depth) outcome_view (Err stop)
  paid_too_deep {layers = layers} tally stop costs sender msg index depth l left deep too enough paid =
      subst (λ (v : Level). LeadsUnder prefix S layers layers tally tally l left (v.message sender msg) outcome_view (Err stop)) (sym (at_lowest costs index depth deep))
      (after_charge costs.message l left (λ _. fails too_deep) enough paid (fails_so tally stop too_deep too))

  pub paid_kind : {old new : Layers B} {before after : Option Tally} {m : ℕ} {result : Result outcome_type.Outcome HandleStop} (costs : Schedule) (sender : List ℕ) (msg : CosmosMsg) (index depth l left : ℕ) → depth ≤ 32 → (depth ≡ 32 → ⊥) → costs.message ≤ l → left ≡ l - costs.message
      → LeadsUnder prefix S old new before after left m (by_kind (at_depth costs index (depth + 1)) costs index prefix sender msg) outcome_view result → LeadsUnder prefix S old new before after l m (handled costs sender msg index depth) outcome_view result
  paid_kind {old = old} {new = new} {before = before} {after = after} {m = m} {result = result} costs sender msg index depth l left most other enough paid leads =
      let f : List ℕ → Part Outcome = λ (p : List ℕ). by_kind (at_depth costs index (depth + 1)) costs index p sender msg in
      subst (λ (v : Level). LeadsUnder prefix S old new before after l m (v.message sender msg) outcome_view result) (sym (at_above costs index depth most other))
      (after_charge costs.message l left (λ _. reads (λ s. f s.facts.prefix)) enough paid (alike (reads (λ s. f s.facts.prefix)) (f prefix) (λ s is. ap (λ (p : List ℕ). f p s left) is) leads))

  -- a reply at its depth
  pub reply_too_deep : {layers : Layers B} (tally : Option Tally) (stop : HandleStop) (costs : Schedule) (addr : List ℕ) (r : Reply) (index depth l : ℕ) → depth ≡ 32 → Fails stop too_deep
      → LeadsOn prefix S layers layers tally tally l l ((at_depth costs index depth).reply addr r) outcome_view (Err stop)
  reply_too_deep {layers = layers} tally stop costs addr r index depth l deep too =
      subst (λ (v : Level). LeadsOn prefix S layers layers tally tally l l (v.reply addr r) outcome_view (Err stop)) (sym (at_lowest costs index depth deep)) (on_of_under (Err stop) (fails_so tally stop too_deep too))

  pub reply_stops : {old new : Layers B} {before after : Option Tally} {l m : ℕ} (stop : HandleStop) (costs : Schedule) (addr : List ℕ) (r : Reply) (index depth : ℕ) → depth ≤ 32 → (depth ≡ 32 → ⊥)
      → LeadsOn prefix S old new before after l m (replies costs index prefix addr r) called_view (Err stop) → LeadsOn prefix S old new before after l m ((at_depth costs index depth).reply addr r) outcome_view (Err stop)
  reply_stops {old = old} {new = new} {before = before} {after = after} {l = l} {m = m} stop costs addr r index depth most other leads =
      let f : List ℕ → Part Called = λ (p : List ℕ). replies costs index p addr r in
      subst (λ (v : Level). LeadsOn prefix S old new before after l m (v.reply addr r) outcome_view (Err stop)) (sym (at_above costs index depth most other))
      (stop_on stop (reads (λ s. f s.facts.prefix)) (responds (at_depth costs index (depth + 1))) (prefixed_on f leads))

  pub reply_responds : {old mid new : Layers B} {before between after : Option Tally} {l m n : ℕ} {result : Result outcome_type.Outcome HandleStop} (join : TalliesJoin) (called : called_type.Called) (costs : Schedule) (addr : List ℕ) (r : Reply) (index depth : ℕ) → depth ≤ 32 → (depth ≡ 32 → ⊥)
      → LeadsOn prefix S old mid before between l m (replies costs index prefix addr r) called_view (Ok called) → LeadsOn prefix S mid new between after m n (responds (at_depth costs index (depth + 1)) (called_view called)) outcome_view result
      → LeadsOn prefix S old new before after l n ((at_depth costs index depth).reply addr r) outcome_view result
  reply_responds {old = old} {new = new} {before = before} {after = after} {l = l} {n = n} {result = result} join called costs addr r index depth most other first second =
      let f : List ℕ → Part Called = λ (p : List ℕ). replies costs index p addr r in
      subst (λ (v : Level). LeadsOn prefix S old new before after l n (v.reply addr r) outcome_view result) (sym (at_above costs index depth most other))
      (then_on join called (reads (λ s. f s.facts.prefix)) (responds (at_depth costs index (depth + 1))) (prefixed_on f first) second)

-- ---- a layer of its own

module _ {B : Type 0} {S : B → Bytes → Type 0} {prefix : List ℕ} where
  pub closed_one : {old above over new : Layers B} {before after : Option Tally} {l m : ℕ} {part : Part Outcome} (done result : Result outcome_type.Outcome HandleStop) → Turns S old above pushed
      → LeadsOn prefix S above over before after l m part outcome_view done → ClosesOne S over new done result → LeadsUnder prefix S old new before after l m part outcome_view result
  closed_one {l = l} {part = part} (Ok outcome) (Ok given) push leads closes = record {
    leads = λ maps s stands spelled lawful is.
        let came = leads.leads (pushed maps) s (push maps stands) spelled lawful is in
        let arrives = came.0.1 in (
          (
            came.0.0,
            record { map = arrives.map; stands = closes.1 (changed (pushed maps) arrives.map) arrives.stands; spelled = arrives.spelled; lawful = arrives.lawful; facts = arrives.facts },
            came.0.2 ∙ ap (λ (o : outcome_type.Outcome). kept came.0.0 (outcome_view o)) (sym closes.0),
          ),
          came.1,
        );
  }
  closed_one {old = old} {new = new} {before = before} {after = after} {l = l} {m = m} {part = part} (Ok outcome) (Err stop) push leads closes =
      subst (λ (e : HandleStop). LeadsUnder prefix S old new before after l m part outcome_view (Err e)) (sym closes) no_memory
  closed_one (Err stop) (Ok given) push leads closes = absurd closes
  closed_one {old = old} {new = new} {before = before} {after = after} {l = l} {m = m} {part = part} (Err (Failed failure)) (Err given) push leads closes =
      subst (λ (e : HandleStop). LeadsUnder prefix S old new before after l m part outcome_view (Err e)) (sym closes.0)
      (record {
        leads = λ maps s stands spelled lawful is.
            let came = leads.leads (pushed maps) s (push maps stands) spelled lawful is in
            ((closes.1 (changed (pushed maps) came.0.0.0) came.0.0.1, came.0.1), came.1);
      })
  closed_one {old = old} {new = new} {before = before} {after = after} {l = l} {m = m} {part = part} (Err OutOfGas) (Err given) push leads closes =
      subst (λ (e : HandleStop). LeadsUnder prefix S old new before after l m part outcome_view (Err e)) (sym closes.0)
      (record {
        leads = λ maps s stands spelled lawful is.
            let came = leads.leads (pushed maps) s (push maps stands) spelled lawful is in
            ((closes.1 (changed (pushed maps) came.0.0.0) came.0.0.1, came.0.1), came.1);
      })
  closed_one {old = old} {new = new} {before = before} {after = after} {l = l} {m = m} {part = part} (Err NoMemory) (Err given) push leads closes =
      subst (λ (e : HandleStop). LeadsUnder prefix S old new before after l m part outcome_view (Err e)) (sym closes.0) no_memory

-- ---- submessages one after the other

-- whatever the rest leads to from now on, the whole leads to from the start
pub record GoesOn {B : Type 0} (prefix : List ℕ) (S : B → Bytes → Type 0) (first now : Layers B) (before between : Option Tally) (start left : ℕ) (rest whole : Part Given) : Type 0 where
  pub goes : {new : Layers B} {after : Option Tally} {n : ℕ} (result : Result given_type.Given HandleStop) → LeadsOn prefix S now new between after left n rest given_view result → LeadsOn prefix S first new before after start n whole given_view result

subs_more : (l : Level) (caller : List ℕ) (m : SubMsg) (more : List SubMsg) (g : Given) → subs l caller (m ∷ more) g ≡ (sub l caller m g >>= subs l caller more)
unfolding subs
subs_more l caller m more g = refl

subs_none : (l : Level) (caller : List ℕ) (g : Given) → subs l caller [] g ≡ done g
unfolding subs
subs_none l caller g = refl

module _ {B : Type 0} {S : B → Bytes → Type 0} {prefix : List ℕ} where
  pub goes_first : {layers : Layers B} {tally : Option Tally} {l : ℕ} (whole : Part Given) → GoesOn prefix S layers layers tally tally l l whole whole
  goes_first whole = record { goes = λ result leads. leads }

  pub goes_more : {first now next : Layers B} {before between after : Option Tally} {l m n : ℕ} (lvl : Level) (caller : List ℕ) (message : SubMsg) (more : List SubMsg) (given : Given) (whole : Part Given) (x : given_type.Given) → TalliesJoin
      → GoesOn prefix S first now before between l m (subs lvl caller (message ∷ more) given) whole → LeadsOn prefix S now next between after m n (sub lvl caller message given) given_view (Ok x)
      → GoesOn prefix S first next before after l n (subs lvl caller more (given_view x)) whole
  goes_more {now = now} {between = between} {m = m} lvl caller message more given whole x join so_far leads = record {
    goes = λ {new} {after} {n} result rest. so_far.goes result (subst (λ (p : Part Given). LeadsOn prefix S now new between after m n p given_view result) (sym (subs_more lvl caller message more given)) (then_on join x (sub lvl caller message given) (subs lvl caller more) leads rest));
  }

  pub goes_stop : {first now next : Layers B} {before between after : Option Tally} {l m n : ℕ} (lvl : Level) (caller : List ℕ) (message : SubMsg) (more : List SubMsg) (given : Given) (whole : Part Given) (stop : HandleStop)
      → GoesOn prefix S first now before between l m (subs lvl caller (message ∷ more) given) whole → LeadsOn prefix S now next between after m n (sub lvl caller message given) given_view (Err stop)
      → LeadsOn prefix S first next before after l n whole given_view (Err stop)
  goes_stop {now = now} {next = next} {between = between} {after = after} {m = m} {n = n} lvl caller message more given whole stop so_far leads =
      so_far.goes (Err stop) (subst (λ (p : Part Given). LeadsOn prefix S now next between after m n p given_view (Err stop)) (sym (subs_more lvl caller message more given)) (stop_on stop (sub lvl caller message given) (subs lvl caller more) leads))

  pub goes_end : {first now : Layers B} {before after : Option Tally} {l m : ℕ} (lvl : Level) (caller : List ℕ) (whole : Part Given) (x : given_type.Given)
      → GoesOn prefix S first now before after l m (subs lvl caller [] (given_view x)) whole → LeadsOn prefix S first now before after l m whole given_view (Ok x)
  goes_end {now = now} {after = after} {m = m} lvl caller whole x so_far =
      so_far.goes (Ok x) (subst (λ (p : Part Given). LeadsOn prefix S now now after after m m p given_view (Ok x)) (sym (subs_none lvl caller (given_view x))) (gives_on (done (given_view x)) given_view (Ok x) (λ s left is. refl)))

-- ---- a limit of gas

pub share_is : (limit : Option ℕ) (left : ℕ) → min (unwrap_or limit left) left ≡ share limit left
share_is None left = omega arith
share_is (Some limit) left = refl

pub limit_left : (l share m used first none spent left : ℕ) → share ≤ l → first ≡ share → none ≡ 0 → m + used ≡ first + none → spent ≡ used → left ≡ l - spent → (l - share) + m ≡ left
limit_left l share m used first none spent left least same unused_yet gas is after = omega (arith, least, same, unused_yet, gas, is, after)

pub share_least : (limit : Option ℕ) (left : ℕ) → share limit left ≤ left
share_least None left = omega arith
share_least (Some limit) left = omega arith

-- so much gas is left beside the part's share
abbrev pub beside : Option ℕ → ℕ → ℕ
beside limit left = left - share limit left

out_caught : {B : Type 0} {S : B → Bytes → Type 0} {new : Layers B} (maps : Maps) (s : State) (before after : Option Tally) (l n : ℕ) (codes : List (List ℕ)) (counting : Bool) (result : Result (Result outcome_type.Outcome failure_type.Failure) HandleStop) → Stands S new maps → Spells maps.current s → IsLawful s → l ≡ n → Tallies before codes after → CatchesEnd counting result
    → Ends S new maps s tried_view result (record { ended = caught_end counting s out_of_gas; left = l; fetched = codes }) × UnlessNoMemory result (Leaves n before after (record { ended = caught_end {A = Outcome} counting s out_of_gas; left = l; fetched = codes }))
out_caught maps s before after l n codes true (Ok (Ok outcome)) stands spelled lawful left fetched catches = absurd catches
out_caught maps s before after l n codes true (Ok (Err failure)) stands spelled lawful left fetched catches =
    ((s, record { map = maps.current; stands = stands; spelled = spelled; lawful = lawful; facts = refl }, ap (λ (f : Failure). kept s (Err f)) (sym catches)), (left, fetched))
out_caught {S = S} {new = new} maps s before after l n codes true (Err stop) stands spelled lawful left fetched catches =
    subst (λ (e : HandleStop). Ends S new maps s tried_view (Err e) (record { ended = caught_end true s out_of_gas; left = l; fetched = codes }) × UnlessNoMemory {X = Result outcome_type.Outcome failure_type.Failure} (Err e) (Leaves n before after (record { ended = caught_end {A = Outcome} true s out_of_gas; left = l; fetched = codes }))) (sym catches) (tt, tt)
out_caught maps s before after l n codes false (Ok tried) stands spelled lawful left fetched catches = absurd catches
out_caught {S = S} {new = new} maps s before after l n codes false (Err stop) stands spelled lawful left fetched catches =
    subst (λ (e : HandleStop). Ends S new maps s tried_view (Err e) (record { ended = caught_end false s out_of_gas; left = l; fetched = codes }) × UnlessNoMemory {X = Result outcome_type.Outcome failure_type.Failure} (Err e) (Leaves n before after (record { ended = caught_end {A = Outcome} false s out_of_gas; left = l; fetched = codes }))) (sym catches)
    (((maps.current, stands), refl), (left, fetched))

module _ {B : Type 0} {S : B → Bytes → Type 0} {prefix : List ℕ} where
  pub attempted : {old new : Layers B} {before after : Option Tally} {l m n : ℕ} (limit : Option ℕ) (part : Part Outcome) (counting : Bool) (done : Result outcome_type.Outcome HandleStop) (result : Result (Result outcome_type.Outcome failure_type.Failure) HandleStop)
      → counting ≡ counts limit l → LeadsUnder prefix S old new before after (share limit l) m part outcome_view done → Catches counting done result → beside limit l + m ≡ n
      → LeadsOn prefix S old new before after l n (attempt limit part) tried_view result
  unfolding attempt
  attempted {new = new} {before = before} {after = after} {l = l} {m = m} {n = n} limit part counting (Ok outcome) result counted leads catches left = record {
    leads = λ maps s stands spelled lawful is.
        let came = leads.leads maps s stands spelled lawful is in
        let r : Ran Outcome = part s (share limit l) in
        let path : attempt limit part s l ≡ record { ended = kept came.0.0 (Ok (outcome_view outcome)); left = n; fetched = r.fetched } =
        (λ i. record { ended = caught_end (counts limit l) s (came.0.2 i); left = beside limit l + came.1.0 i; fetched = r.fetched }) ∙ ap (λ (k : ℕ). record { ended = kept came.0.0 (Ok (outcome_view outcome)); left = k; fetched = r.fetched }) left
        in
        subst (λ (x : Result (Result outcome_type.Outcome failure_type.Failure) HandleStop). Ends S new maps s tried_view x (attempt limit part s l) × UnlessNoMemory x (Leaves n before after (attempt limit part s l))) (sym catches)
        (subst (λ (ran : Ran (Result Outcome Failure)). Ends S new maps s tried_view (Ok (Ok outcome)) ran × Leaves n before after ran) (sym path) ((came.0.0, came.0.1, refl), (refl, came.1.1)));
  }
  attempted {new = new} {before = before} {after = after} {l = l} {m = m} {n = n} limit part counting (Err (Failed failure)) result counted leads catches left = record {
    leads = λ maps s stands spelled lawful is.
        let came = leads.leads maps s stands spelled lawful is in
        let r : Ran Outcome = part s (share limit l) in
        let path : attempt limit part s l ≡ record { ended = kept s (Err (failure_view failure)); left = n; fetched = r.fetched } =
        (λ i. record { ended = caught_end (counts limit l) s (came.0.1 i); left = beside limit l + came.1.0 i; fetched = r.fetched }) ∙ ap (λ (k : ℕ). record { ended = kept s (Err (failure_view failure)); left = k; fetched = r.fetched }) left
        in
        subst (λ (x : Result (Result outcome_type.Outcome failure_type.Failure) HandleStop). Ends S new maps s tried_view x (attempt limit part s l) × UnlessNoMemory x (Leaves n before after (attempt limit part s l))) (sym catches)
        (subst (λ (ran : Ran (Result Outcome Failure)). Ends S new maps s tried_view (Ok (Err failure)) ran × Leaves n before after ran) (sym path)
        ((s, record { map = maps.current; stands = came.0.0; spelled = spelled; lawful = lawful; facts = refl }, refl), (refl, came.1.1)));
  }
  attempted {new = new} {before = before} {after = after} {l = l} {m = m} {n = n} limit part counting (Err OutOfGas) result counted leads catches left = record {
    leads = λ maps s stands spelled lawful is.
        let came = leads.leads maps s stands spelled lawful is in
        let r : Ran Outcome = part s (share limit l) in
        let path : attempt limit part s l ≡ record { ended = caught_end counting s out_of_gas; left = beside limit l + m; fetched = r.fetched } =
        λ i. record { ended = caught_end (sym counted i) s (came.0.1 i); left = beside limit l + came.1.0 i; fetched = r.fetched }
        in
        subst (λ (ran : Ran (Result Outcome Failure)). Ends S new maps s tried_view result ran × UnlessNoMemory result (Leaves n before after ran)) (sym path)
        (out_caught maps s before after (beside limit l + m) n r.fetched counting result came.0.0 spelled lawful left came.1.1 catches);
  }
  attempted {old = old} {new = new} {before = before} {after = after} {l = l} {n = n} limit part counting (Err NoMemory) result counted leads catches left =
      subst (λ (x : Result (Result outcome_type.Outcome failure_type.Failure) HandleStop). LeadsOn prefix S old new before after l n (attempt limit part) tried_view x) (sym catches) no_memory_on
