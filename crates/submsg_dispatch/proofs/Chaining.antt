-- Parts one after the other, of which those before the one that stopped are not undone.
use Rattle.std.proofs.Common.{◌≡◌, ℕ, ◌++◌, List, [], Option, None, Some, Result, Ok, Err, append-nil, refl, sym, ap, ◌∙◌, subst}
use Rattle.std.specs.Prelude.{IsErrAnd}
use Rattle.std.specs.Global.{Vec}
use Rattle.kv_layers.specs.declared.layers.Layers.{Layers}
use Rattle.kv_layers.specs.Layers.{Stands, HasCurrent}
use Rattle.kv_layers.specs.Maps.{Maps, changed}
use Rattle.chain_addr.specs.Address.{address_of}
use Rattle.chain_records.specs.Records.{PlainFacts}
use Rattle.chain_records.specs.State.{Bytes, State, Spells}
use Rattle.gatekeeper.specs.Cache.{Tally}
use Rattle.gatekeeper.specs.Fetches.{Tallies, TalliesJoin}
use Rattle.chain_msgs.specs.Plain.{Failure, failure_view}
use Rattle.query_router.specs.Lawful.{IsLawful, HasLawfulUnder}
use Rattle.submsg_dispatch.specs.declared.stop.HandleStop.{HandleStop}
use Rattle.submsg_dispatch.specs.declared.stop.HandleStop.TheVariants.{Failed, OutOfGas, NoMemory}
use Rattle.submsg_dispatch.specs.Failures.{address_bad}
use Rattle.submsg_dispatch.specs.Messages.{address_in}
use Rattle.submsg_dispatch.specs.Parts.{Part, Ran, Ended, kept, failed, out_of_gas, done, fails, or_fails, or_fails_with, reads, goes_on, fetched_before, ◌>>=◌}
use Rattle.submsg_dispatch.specs.Reaching.{Arrives, Leaves, UnlessNoMemory}
use Rattle.submsg_dispatch.specs.Stages.{Gives, FindsWith}
use Rattle.submsg_dispatch.specs.Under.{Finds, Misses, Fails, LeadsUnder, LeadsOn, Ends, bytes_view}
use Rattle.submsg_dispatch.proofs.Leading.{no_fetch}

-- ---- what is looked at without the layers

pub finds_gives : {X A : Type 0} (prefix : List ℕ) (view : X → A) (result : Result X HandleStop) (failure : Failure) (wanted : Option A) → Finds view result failure wanted → Gives prefix view result (or_fails failure wanted)
finds_gives prefix view (Ok x) failure wanted found = λ s left is. ap (λ o. or_fails failure o s left) found
finds_gives {A = A} prefix view (Err (Failed f)) failure wanted miss = λ s left is. ap (λ o. or_fails failure o s left) miss.0 ∙ ap (λ (x : Failure). fails {A = A} x s left) (sym miss.1)
finds_gives prefix view (Err OutOfGas) failure wanted miss = miss
finds_gives prefix view (Err NoMemory) failure wanted miss = tt

pub address_gives : (prefix : List ℕ) (result : Result (Vec ℕ) HandleStop) (text : List ℕ) → Finds bytes_view result address_bad (address_of prefix text) → Gives prefix bytes_view result (address_in text)
address_gives prefix (Ok x) text found = λ s left is. ap (λ (p : List ℕ). or_fails address_bad (address_of p text) s left) is ∙ ap (λ o. or_fails address_bad o s left) found
address_gives prefix (Err (Failed f)) text miss = λ s left is. ap (λ (p : List ℕ). or_fails address_bad (address_of p text) s left) is ∙ ap (λ o. or_fails address_bad o s left) miss.0 ∙ ap (λ (x : Failure). fails {A = List ℕ} x s left) (sym miss.1)
address_gives prefix (Err OutOfGas) text miss = miss
address_gives prefix (Err NoMemory) text miss = tt

pub found_with_gives : {X A : Type 0} (prefix : List ℕ) (view : X → A) (result : Result X HandleStop) (wanted : Result A Failure) → FindsWith view result wanted → Gives prefix view result (or_fails_with wanted)
found_with_gives prefix view (Ok x) wanted found = λ s left is. ap (λ r. or_fails_with r s left) found
found_with_gives prefix view (Err (Failed f)) wanted found = λ s left is. ap (λ r. or_fails_with r s left) found
found_with_gives prefix view (Err OutOfGas) wanted found = found
found_with_gives prefix view (Err NoMemory) wanted found = tt

-- ---- what calls do

abbrev pub CameOn : {B X A : Type 0} → (B → Bytes → Type 0) → Layers B → Option Tally → Option Tally → ℕ → (X → A) → Result X HandleStop → Maps → State → Ran A → Type 0
CameOn S new before after left view result maps s ran = Ends S new maps s view result ran × UnlessNoMemory result (Leaves left before after ran)

-- behind codes that were fetched before
ends_behind : {B X A : Type 0} (S : B → Bytes → Type 0) (new : Layers B) (maps : Maps) (map : Bytes) (s t : State) (before between after : Option Tally) (left : ℕ) (view : X → A) (codes : List (List ℕ)) (result : Result X HandleStop) (q : Ran A)
    → TalliesJoin → t.facts ≡ s.facts → Tallies before codes between → CameOn S new between after left view result (changed maps map) t q → CameOn S new before after left view result maps s (fetched_before codes q)
ends_behind S new maps map s t before between after left view codes (Ok y) q join facts first came =
    ((came.0.0, record { map = came.0.1.map; stands = came.0.1.stands; spelled = came.0.1.spelled; lawful = came.0.1.lawful; facts = came.0.1.facts ∙ facts }, came.0.2), (came.1.0, join codes q.fetched before between after first came.1.1))
ends_behind S new maps map s t before between after left view codes (Err (Failed failure)) q join facts first came = (came.0, (came.1.0, join codes q.fetched before between after first came.1.1))
ends_behind S new maps map s t before between after left view codes (Err OutOfGas) q join facts first came = (came.0, (came.1.0, join codes q.fetched before between after first came.1.1))
ends_behind S new maps map s t before between after left view codes (Err NoMemory) q join facts first came = (tt, tt)

module _ {B : Type 0} {S : B → Bytes → Type 0} {prefix : List ℕ} where
  pub no_memory_on : {X A : Type 0} {old new : Layers B} {before after : Option Tally} {l m : ℕ} {part : Part A} {view : X → A} → LeadsOn prefix S old new before after l m part view (Err NoMemory)
  no_memory_on = record { leads = λ maps s stands spelled lawful is. (tt, tt) }

  -- a part that runs as another does
  pub alike_on : {X A : Type 0} {old new : Layers B} {before after : Option Tally} {l k m : ℕ} {view : X → A} {result : Result X HandleStop} (p q : Part A) → ((s : State) → s.facts.prefix ≡ prefix → p s l ≡ q s k)
      → LeadsOn prefix S old new before after k m q view result → LeadsOn prefix S old new before after l m p view result
  alike_on {X = X} {A = A} {new = new} {before = before} {after = after} {m = m} {view = view} {result = result} p q same leads =
      record { leads = λ maps s stands spelled lawful is. subst (λ (ran : Ran A). CameOn S new before after m view result maps s ran) (sym (same s is)) (leads.leads maps s stands spelled lawful is) }

  -- with the prefix of the facts
  pub prefixed_on : {X A : Type 0} {old new : Layers B} {before after : Option Tally} {l m : ℕ} {view : X → A} {result : Result X HandleStop} (f : List ℕ → Part A)
      → LeadsOn prefix S old new before after l m (f prefix) view result → LeadsOn prefix S old new before after l m (reads (λ s. f s.facts.prefix)) view result
  prefixed_on {l = l} f leads = alike_on (reads (λ s. f s.facts.prefix)) (f prefix) (λ s is. ap (λ (p : List ℕ). f p s l) is) leads

  -- what is undone where it stops
  pub on_of_under : {X A : Type 0} {old new : Layers B} {before after : Option Tally} {l m : ℕ} {part : Part A} {view : X → A} (result : Result X HandleStop) → LeadsUnder prefix S old new before after l m part view result → LeadsOn prefix S old new before after l m part view result
  on_of_under (Ok x) leads = record { leads = leads.leads }
  on_of_under (Err (Failed failure)) leads = record { leads = λ maps s stands spelled lawful is. let came = leads.leads maps s stands spelled lawful is in (((maps.current, came.0.0), came.0.1), came.1) }
  on_of_under (Err OutOfGas) leads = record { leads = λ maps s stands spelled lawful is. let came = leads.leads maps s stands spelled lawful is in (((maps.current, came.0.0), came.0.1), came.1) }
  on_of_under (Err NoMemory) leads = no_memory_on

  pub gives_on : {X A : Type 0} {layers : Layers B} {tally : Option Tally} {l : ℕ} (part : Part A) (view : X → A) (result : Result X HandleStop) → Gives prefix view result part → LeadsOn prefix S layers layers tally tally l l part view result
  gives_on {tally = tally} {l = l} part view (Ok x) gives =
      alike_on part (done (view x)) (λ s is. gives s l is)
      (record { leads = λ maps s stands spelled lawful is. ((s, record { map = maps.current; stands = stands; spelled = spelled; lawful = lawful; facts = refl }, refl), (refl, no_fetch tally)) })
  gives_on {A = A} {tally = tally} {l = l} part view (Err (Failed failure)) gives =
      alike_on part (fails {A = A} (failure_view failure)) (λ s is. gives s l is) (record { leads = λ maps s stands spelled lawful is. (((maps.current, stands), refl), (refl, no_fetch tally)) })
  gives_on part view (Err OutOfGas) gives = absurd gives
  gives_on part view (Err NoMemory) gives = no_memory_on

  -- a stop that is passed on
  pub passes_so : {X A : Type 0} {old new : Layers B} {before after : Option Tally} {l m : ℕ} {part : Part A} {view : X → A} (result : Result X HandleStop) (stop : HandleStop) → IsErrAnd result (λ y. y ≡ stop)
      → LeadsOn prefix S old new before after l m part view (Err stop) → LeadsOn prefix S old new before after l m part view result
  passes_so (Ok x) stop is leads = absurd is
  passes_so {X = X} {old = old} {new = new} {before = before} {after = after} {l = l} {m = m} {part = part} {view = view} (Err y) stop is leads =
      subst (λ (e : HandleStop). LeadsOn {X = X} prefix S old new before after l m part view (Err e)) (sym is) leads

  -- ---- one part after another

  pub then_on : {X Y A C : Type 0} {old mid new : Layers B} {before between after : Option Tally} {l m n : ℕ} {view : X → A} {other : Y → C} {result : Result Y HandleStop} (join : TalliesJoin) (x : X) (p : Part A) (k : A → Part C)
      → LeadsOn prefix S old mid before between l m p view (Ok x) → LeadsOn prefix S mid new between after m n (k (view x)) other result → LeadsOn prefix S old new before after l n (p >>= k) other result
  then_on {Y = Y} {C = C} {new = new} {before = before} {between = between} {after = after} {l = l} {m = m} {n = n} {view = view} {other = other} {result = result} join x p k first second = record {
    leads = λ maps s stands spelled lawful is.
        let came = first.leads maps s stands spelled lawful is in
        let t : State = came.0.0 in
        let arrives = came.0.1 in
        let next = second.leads (changed maps arrives.map) t arrives.stands arrives.spelled arrives.lawful (ap (λ (f : PlainFacts). f.prefix) arrives.facts ∙ is) in
        let path : (p >>= k) s l ≡ fetched_before (p s l).fetched (k (view x) t m) = λ i. goes_on k (came.0.2 i) (came.1.0 i) (p s l).fetched in
        subst (λ (ran : Ran C). CameOn {X = Y} S new before after n other result maps s ran) (sym path)
        (ends_behind S new maps arrives.map s t before between after n other (p s l).fetched result (k (view x) t m) join arrives.facts came.1.1 next);
  }

  pub stop_on : {X Y A C : Type 0} {old new : Layers B} {before after : Option Tally} {l m : ℕ} {view : X → A} {other : Y → C} (stop : HandleStop) (p : Part A) (k : A → Part C)
      → LeadsOn prefix S old new before after l m p view (Err stop) → LeadsOn prefix S old new before after l m (p >>= k) other (Err stop)
  stop_on {Y = Y} {C = C} {new = new} {before = before} {after = after} {l = l} {m = m} {other = other} (Failed failure) p k leads = record {
    leads = λ maps s stands spelled lawful is.
        let came = leads.leads maps s stands spelled lawful is in
        let path : (p >>= k) s l ≡ record { ended = failed (failure_view failure); left = (p s l).left; fetched = (p s l).fetched } = ap (λ e. goes_on k e (p s l).left (p s l).fetched) came.0.1 in
        subst (λ (ran : Ran C). CameOn {X = Y} S new before after m other (Err (Failed failure)) maps s ran) (sym path) ((came.0.0, refl), came.1);
  }
  stop_on {Y = Y} {C = C} {new = new} {before = before} {after = after} {l = l} {m = m} {other = other} OutOfGas p k leads = record {
    leads = λ maps s stands spelled lawful is.
        let came = leads.leads maps s stands spelled lawful is in
        let path : (p >>= k) s l ≡ record { ended = out_of_gas; left = (p s l).left; fetched = (p s l).fetched } = ap (λ e. goes_on k e (p s l).left (p s l).fetched) came.0.1 in
        subst (λ (ran : Ran C). CameOn {X = Y} S new before after m other (Err OutOfGas) maps s ran) (sym path) ((came.0.0, refl), came.1);
  }
  stop_on NoMemory p k leads = no_memory_on

  -- the first part was passed, or stopped
  pub then_gives : {X Y A C : Type 0} {old new : Layers B} {before after : Option Tally} {l m : ℕ} {other : Y → C} {result : Result Y HandleStop} (p : Part A) (k : A → Part C) (view : X → A) (x : X) → Gives prefix view (Ok x) p
      → LeadsOn prefix S old new before after l m (k (view x)) other result → LeadsOn prefix S old new before after l m (p >>= k) other result
  then_gives {l = l} p k view x gives leads = alike_on (p >>= k) (k (view x)) (λ s is. ap (λ r. goes_on k r.ended r.left r.fetched) (gives s l is)) leads

  -- what the first part gave is only given another form
  pub then_done_on : {X Y A C : Type 0} {old new : Layers B} {before after : Option Tally} {l m : ℕ} {view : X → A} {other : Y → C} (x : X) (y : Y) (p : Part A) (f : A → C) → other y ≡ f (view x)
      → LeadsOn prefix S old new before after l m p view (Ok x) → LeadsOn prefix S old new before after l m (p >>= λ a. done (f a)) other (Ok y)
  then_done_on {Y = Y} {A = A} {C = C} {new = new} {before = before} {after = after} {l = l} {m = m} {view = view} {other = other} x y p f gives leads = record {
    leads = λ maps s stands spelled lawful is.
        let came = leads.leads maps s stands spelled lawful is in
        let t : State = came.0.0 in
        let path : (p >>= λ a. done (f a)) s l ≡ record { ended = kept t (f (view x)); left = (p s l).left; fetched = (p s l).fetched ++ [] } = ap (λ e. goes_on (λ (a : A). done (f a)) e (p s l).left (p s l).fetched) came.0.2 in
        subst (λ (ran : Ran C). CameOn {X = Y} S new before after m other (Ok y) maps s ran) (sym path)
        ((t, came.0.1, ap (kept t) (sym gives)), (came.1.0, subst (λ (codes : List (List ℕ)). Tallies before codes after) (sym (append-nil (p s l).fetched)) came.1.1));
  }

  -- ---- what is seen of the states that the layers stand for

  pub sees_on : {X A : Type 0} {layers : Layers B} {tally : Option Tally} {l : ℕ} {view : X → A} (part : Part A) (x : X) → ((maps : Maps) (s : State) → Stands S layers maps → Spells maps.current s → IsLawful s → s.facts.prefix ≡ prefix → part s l ≡ done (view x) s l)
      → LeadsOn prefix S layers layers tally tally l l part view (Ok x)
  sees_on {X = X} {A = A} {layers = layers} {tally = tally} {l = l} {view = view} part x gives = record {
    leads = λ maps s stands spelled lawful is.
        subst (λ (ran : Ran A). CameOn {X = X} S layers tally tally l view (Ok x) maps s ran) (sym (gives maps s stands spelled lawful is))
        ((s, record { map = maps.current; stands = stands; spelled = spelled; lawful = lawful; facts = refl }, refl), (refl, no_fetch tally));
  }

  pub fails_on : {X A : Type 0} {layers : Layers B} {tally : Option Tally} {l : ℕ} {view : X → A} (part : Part A) (stop : HandleStop) (failure : Failure) → Fails stop failure
      → ((maps : Maps) (s : State) → Stands S layers maps → Spells maps.current s → IsLawful s → s.facts.prefix ≡ prefix → part s l ≡ fails {A = A} failure s l) → LeadsOn prefix S layers layers tally tally l l part view (Err stop)
  fails_on {X = X} {A = A} {layers = layers} {tally = tally} {l = l} {view = view} part (Failed found) failure same gives = record {
    leads = λ maps s stands spelled lawful is.
        subst (λ (ran : Ran A). CameOn {X = X} S layers tally tally l view (Err (Failed found)) maps s ran) (sym (gives maps s stands spelled lawful is)) (((maps.current, stands), ap failed (sym same)), (refl, no_fetch tally));
  }
  fails_on part OutOfGas failure same gives = absurd same
  fails_on part NoMemory failure same gives = no_memory_on

  -- ---- lawful states

  pub lawful_on : {X A : Type 0} {old new : Layers B} {before after : Option Tally} {l m : ℕ} {part : Part A} {view : X → A} (x : X) → HasLawfulUnder prefix (HasCurrent S old)
      → LeadsOn prefix S old new before after l m part view (Ok x) → HasLawfulUnder prefix (HasCurrent S new)
  lawful_on x some leads =
      let maps = some.stands.0 in
      let came = leads.leads maps some.state some.stands.1 (rw some.stands.2 some.spelled) some.holds.0 some.holds.1 in
      record { map = came.0.1.map; state = came.0.0; stands = (changed maps came.0.1.map, came.0.1.stands, refl); spelled = came.0.1.spelled; holds = (came.0.1.lawful, ap (λ (f : PlainFacts). f.prefix) came.0.1.facts ∙ some.holds.1) }
