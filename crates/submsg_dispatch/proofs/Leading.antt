-- What a call does that goes on where another came to, or where a check was passed.
use Rattle.std.proofs.Common.{◌≡◌, ℕ, ◌-◌, ◌<◌, ◌≤◌, ◌++◌, Bool, cond, List, [], Option, None, Some, Result, Ok, Err, IfOk, append-nil, refl, sym, ap, ◌∙◌, subst}
use Rattle.std.specs.Prelude.{IsErrAnd}
use Rattle.std.proofs.lemmas.Bool.{lt-ltb, le-ltb}
use Rattle.std.specs.declared.alloc.AllocError.{AllocError}
use Rattle.kv_layers.specs.declared.layers.Layers.{Layers}
use Rattle.kv_layers.specs.Layers.{Stands}
use Rattle.kv_layers.specs.Maps.{Maps}
use Rattle.chain_records.specs.State.{Bytes, State, Spells}
use Rattle.gatekeeper.specs.Cache.{Tally}
use Rattle.gatekeeper.specs.Fetches.{Tallies}
use Rattle.chain_msgs.specs.declared.failure.Failure as failure_type
use Rattle.chain_msgs.specs.Plain.{Failure, failure_view}
use Rattle.chain_addr.specs.Address.{address_of}
use Rattle.submsg_dispatch.specs.declared.stop.HandleStop.{HandleStop}
use Rattle.submsg_dispatch.specs.declared.stop.HandleStop.TheVariants.{Failed, OutOfGas, NoMemory}
use Rattle.submsg_dispatch.specs.Parts.{Part, Ran, kept, failed, out_of_gas, done, fails, charge, or_fails, goes_on, ◌>>=◌}
use Rattle.submsg_dispatch.specs.Failures.{address_bad}
use Rattle.submsg_dispatch.specs.Messages.{address_in}
use Rattle.submsg_dispatch.specs.Reaching.{Leaves, Comes, UnlessNoMemory, Leads}
use Rattle.submsg_dispatch.specs.Under.{stop_from, Fails, Misses, StopsAt, LeadsUnder}

-- ---- stops of failures that were made

pub fails_from : (stop : HandleStop) (made : Result failure_type.Failure AllocError) (failure : Failure) → stop ≡ stop_from made → IfOk made (λ f. failure_view f ≡ failure) → Fails stop failure
fails_from stop (Ok f) failure is ok = subst (λ (x : HandleStop). Fails x failure) (sym is) ok
fails_from stop (Err e) failure is ok = subst (λ (x : HandleStop). Fails x failure) (sym is) tt

-- ---- parts

pub no_fetch : (t : Option Tally) → Tallies t [] t
no_fetch None = tt
no_fetch (Some t) = refl

-- a part that stops for want of gas
abbrev pub runs_out : {A : Type 0} → Part A
runs_out s left = record { ended = out_of_gas; left = 0; fetched = [] }

abbrev paid : ℕ → ℕ → State → Bool → Ran (Unit {0})
paid cost left s few = cond few (record { ended = out_of_gas; left = 0; fetched = [] }) (record { ended = kept s tt; left = left - cost; fetched = [] })

pub charge_passes : {C : Type 0} (cost left : ℕ) (k : Unit {0} → Part C) (s : State) → cost ≤ left → (charge cost >>= k) s left ≡ k tt s (left - cost)
charge_passes cost left k s enough = ap (λ (few : Bool). goes_on k (paid cost left s few).ended (paid cost left s few).left (paid cost left s few).fetched) (le-ltb left cost enough)

pub charge_stops : {C : Type 0} (cost left : ℕ) (k : Unit {0} → Part C) (s : State) → left < cost → (charge cost >>= k) s left ≡ runs_out s left
charge_stops cost left k s few = ap (λ (f : Bool). goes_on k (paid cost left s f).ended (paid cost left s f).left (paid cost left s f).fetched) (lt-ltb left cost few)

pub finds_passes : {A C : Type 0} (failure : Failure) (wanted : Option A) (x : A) (k : A → Part C) (s : State) (left : ℕ) → wanted ≡ Some x → (or_fails failure wanted >>= k) s left ≡ k x s left
finds_passes failure wanted x k s left found = ap (λ o. (or_fails failure o >>= k) s left) found

pub finds_stops : {A C : Type 0} (failure : Failure) (wanted : Option A) (k : A → Part C) (s : State) (left : ℕ) → wanted ≡ None → (or_fails failure wanted >>= k) s left ≡ fails {A = C} failure s left
finds_stops failure wanted k s left none = ap (λ o. (or_fails failure o >>= k) s left) none

-- ---- what calls do

-- what a call makes of layers that stood for maps and of the state that the current one spelled
abbrev pub Came : {B X A : Type 0} → (B → Bytes → Type 0) → Layers B → Option Tally → Option Tally → ℕ → (X → A) → Result X HandleStop → Maps → State → Ran A → Type 0
Came S new before after left view result maps s ran = Comes S new maps s view result ran × UnlessNoMemory result (Leaves left before after ran)

module _ {B : Type 0} {S : B → Bytes → Type 0} {prefix : List ℕ} where
  pub no_memory : {X A : Type 0} {old new : Layers B} {before after : Option Tally} {l m : ℕ} {part : Part A} {view : X → A} → LeadsUnder prefix S old new before after l m part view (Err NoMemory)
  no_memory = record { leads = λ maps s stands spelled lawful is. (tt, tt) }

  -- a part that runs as another does
  pub alike : {X A : Type 0} {old new : Layers B} {before after : Option Tally} {l k m : ℕ} {view : X → A} {result : Result X HandleStop} (p q : Part A) → ((s : State) → s.facts.prefix ≡ prefix → p s l ≡ q s k)
      → LeadsUnder prefix S old new before after k m q view result → LeadsUnder prefix S old new before after l m p view result
  alike {X = X} {A = A} {new = new} {before = before} {after = after} {m = m} {view = view} {result = result} p q same leads =
      record { leads = λ maps s stands spelled lawful is. subst (λ (ran : Ran A). Came S new before after m view result maps s ran) (sym (same s is)) (leads.leads maps s stands spelled lawful is) }

  pub stops : {X A : Type 0} {layers : Layers B} {l m : ℕ} {view : X → A} (tally : Option Tally) (stop : HandleStop) (part : Part A) → StopsAt stop l m part → LeadsUnder prefix S layers layers tally tally l m part view (Err stop)
  stops {X = X} {A = A} {layers = layers} {m = m} {view = view} tally (Failed failure) part at =
      record { leads = λ maps s stands spelled lawful is. subst (λ (ran : Ran A). Came {X = X} S layers tally tally m view (Err (Failed failure)) maps s ran) (sym (at s)) ((stands, refl), (refl, no_fetch tally)) }
  stops {X = X} {A = A} {layers = layers} {m = m} {view = view} tally OutOfGas part at =
      record { leads = λ maps s stands spelled lawful is. subst (λ (ran : Ran A). Came {X = X} S layers tally tally m view (Err OutOfGas) maps s ran) (sym (at s)) ((stands, refl), (refl, no_fetch tally)) }
  stops tally NoMemory part at = no_memory

  pub fails_so : {X A : Type 0} {layers : Layers B} {l : ℕ} {view : X → A} (tally : Option Tally) (stop : HandleStop) (failure : Failure) → Fails stop failure → LeadsUnder prefix S layers layers tally tally l l (fails {A = A} failure) view (Err stop)
  fails_so {A = A} {l = l} tally (Failed found) failure same = stops tally (Failed found) (fails {A = A} failure) (λ s. ap (λ (f : Failure). fails {A = A} f s l) (sym same))
  fails_so tally OutOfGas failure same = absurd same
  fails_so tally NoMemory failure same = no_memory

  -- a stop that is passed on
  pub passes : {X A : Type 0} {old new : Layers B} {before after : Option Tally} {l m : ℕ} {part : Part A} {view : X → A} (result : Result X HandleStop) (stop : HandleStop) → IsErrAnd result (λ y. y ≡ stop)
      → LeadsUnder prefix S old new before after l m part view (Err stop) → LeadsUnder prefix S old new before after l m part view result
  passes (Ok x) stop is leads = absurd is
  passes {X = X} {old = old} {new = new} {before = before} {after = after} {l = l} {m = m} {part = part} {view = view} (Err y) stop is leads =
      subst (λ (e : HandleStop). LeadsUnder {X = X} prefix S old new before after l m part view (Err e)) (sym is) leads

  -- ---- checks that are passed, or not

  pub after_charge : {X C : Type 0} {old new : Layers B} {before after : Option Tally} {m : ℕ} {view : X → C} {result : Result X HandleStop} (cost l left : ℕ) (k : Unit {0} → Part C) → cost ≤ l → left ≡ l - cost
      → LeadsUnder prefix S old new before after left m (k tt) view result → LeadsUnder prefix S old new before after l m (charge cost >>= k) view result
  after_charge cost l left k enough is leads = alike (charge cost >>= k) (k tt) (λ s same. charge_passes cost l k s enough ∙ ap (k tt s) (sym is)) leads

  pub without_gas : {X C : Type 0} {layers : Layers B} {view : X → C} (tally : Option Tally) (stop : HandleStop) (cost l left : ℕ) (k : Unit {0} → Part C) → stop ≡ OutOfGas → l < cost → left ≡ 0
      → LeadsUnder prefix S layers layers tally tally l left (charge cost >>= k) view (Err stop)
  without_gas {X = X} {C = C} {layers = layers} {view = view} tally stop cost l left k is few none =
      subst (λ (x : HandleStop). LeadsUnder {X = X} prefix S layers layers tally tally l left (charge cost >>= k) view (Err x)) (sym is)
      (stops tally OutOfGas (charge cost >>= k) (λ s. charge_stops cost l k s few ∙ (λ i. record { ended = out_of_gas; left = sym none i; fetched = [] })))

  pub after_found : {X A C : Type 0} {old new : Layers B} {before after : Option Tally} {l m : ℕ} {view : X → C} {result : Result X HandleStop} (failure : Failure) (wanted : Option A) (x : A) (k : A → Part C) → wanted ≡ Some x
      → LeadsUnder prefix S old new before after l m (k x) view result → LeadsUnder prefix S old new before after l m (or_fails failure wanted >>= k) view result
  after_found {l = l} failure wanted x k found leads = alike (or_fails failure wanted >>= k) (k x) (λ s same. finds_passes failure wanted x k s l found) leads

  pub not_found : {X A C : Type 0} {layers : Layers B} {l : ℕ} {view : X → C} (tally : Option Tally) (stop : HandleStop) (failure : Failure) (wanted : Option A) (k : A → Part C) → Misses stop failure wanted
      → LeadsUnder prefix S layers layers tally tally l l (or_fails failure wanted >>= k) view (Err stop)
  not_found {C = C} {l = l} tally (Failed found) failure wanted k miss = alike (or_fails failure wanted >>= k) (fails {A = C} failure) (λ s same. finds_stops failure wanted k s l miss.0) (fails_so tally (Failed found) failure miss.1)
  not_found tally OutOfGas failure wanted k miss = absurd miss
  not_found tally NoMemory failure wanted k miss = no_memory

  pub after_address : {X C : Type 0} {old new : Layers B} {before after : Option Tally} {l m : ℕ} {view : X → C} {result : Result X HandleStop} (text bytes : List ℕ) (k : List ℕ → Part C) → address_of prefix text ≡ Some bytes
      → LeadsUnder prefix S old new before after l m (k bytes) view result → LeadsUnder prefix S old new before after l m (address_in text >>= k) view result
  after_address {l = l} text bytes k found leads =
      alike (address_in text >>= k) (k bytes) (λ s same. ap (λ (p : List ℕ). (or_fails address_bad (address_of p text) >>= k) s l) same ∙ finds_passes address_bad (address_of prefix text) bytes k s l found) leads

  pub no_address : {X C : Type 0} {layers : Layers B} {l : ℕ} {view : X → C} (tally : Option Tally) (stop : HandleStop) (text : List ℕ) (k : List ℕ → Part C) → Misses stop address_bad (address_of prefix text)
      → LeadsUnder prefix S layers layers tally tally l l (address_in text >>= k) view (Err stop)
  no_address {C = C} {l = l} tally (Failed found) text k miss =
      alike (address_in text >>= k) (fails {A = C} address_bad) (λ s same. ap (λ (p : List ℕ). (or_fails address_bad (address_of p text) >>= k) s l) same ∙ finds_stops address_bad (address_of prefix text) k s l miss.0) (fails_so tally (Failed found) address_bad miss.1)
  no_address tally OutOfGas text k miss = absurd miss
  no_address tally NoMemory text k miss = no_memory

  -- ---- one part after another

  -- the first part stops
  pub stop_then : {X Y A C : Type 0} {old new : Layers B} {before after : Option Tally} {l m : ℕ} {view : X → A} {other : Y → C} (stop : HandleStop) (p : Part A) (k : A → Part C)
      → LeadsUnder prefix S old new before after l m p view (Err stop) → LeadsUnder prefix S old new before after l m (p >>= k) other (Err stop)
  stop_then {Y = Y} {C = C} {new = new} {before = before} {after = after} {l = l} {m = m} {other = other} (Failed failure) p k leads = record {
    leads = λ maps s stands spelled lawful is.
        let came = leads.leads maps s stands spelled lawful is in
        let path : (p >>= k) s l ≡ record { ended = failed (failure_view failure); left = (p s l).left; fetched = (p s l).fetched } = ap (λ e. goes_on k e (p s l).left (p s l).fetched) came.0.1 in
        subst (λ (ran : Ran C). Came {X = Y} S new before after m other (Err (Failed failure)) maps s ran) (sym path) ((came.0.0, refl), came.1);
  }
  stop_then {Y = Y} {C = C} {new = new} {before = before} {after = after} {l = l} {m = m} {other = other} OutOfGas p k leads = record {
    leads = λ maps s stands spelled lawful is.
        let came = leads.leads maps s stands spelled lawful is in
        let path : (p >>= k) s l ≡ record { ended = out_of_gas; left = (p s l).left; fetched = (p s l).fetched } = ap (λ e. goes_on k e (p s l).left (p s l).fetched) came.0.1 in
        subst (λ (ran : Ran C). Came {X = Y} S new before after m other (Err OutOfGas) maps s ran) (sym path) ((came.0.0, refl), came.1);
  }
  stop_then NoMemory p k leads = no_memory

  -- what the first part gave is only given another form
  pub then_done : {X Y A C : Type 0} {old new : Layers B} {before after : Option Tally} {l m : ℕ} {view : X → A} {other : Y → C} (x : X) (y : Y) (p : Part A) (f : A → C) → other y ≡ f (view x)
      → LeadsUnder prefix S old new before after l m p view (Ok x) → LeadsUnder prefix S old new before after l m (p >>= λ a. done (f a)) other (Ok y)
  then_done {Y = Y} {A = A} {C = C} {new = new} {before = before} {after = after} {l = l} {m = m} {view = view} {other = other} x y p f gives leads = record {
    leads = λ maps s stands spelled lawful is.
        let came = leads.leads maps s stands spelled lawful is in
        let t : State = came.0.0 in
        let path : (p >>= λ a. done (f a)) s l ≡ record { ended = kept t (f (view x)); left = (p s l).left; fetched = (p s l).fetched ++ [] } = ap (λ e. goes_on (λ (a : A). done (f a)) e (p s l).left (p s l).fetched) came.0.2 in
        subst (λ (ran : Ran C). Came {X = Y} S new before after m other (Ok y) maps s ran) (sym path)
        ((t, came.0.1, ap (kept t) (sym gives)), (came.1.0, subst (λ (codes : List (List ℕ)). Tallies before codes after) (sym (append-nil (p s l).fetched)) came.1.1));
  }

  -- ---- the prefix is that of the facts

  pub for_all : {X A : Type 0} {old new : Layers B} {before after : Option Tally} {l m : ℕ} {part : Part A} {view : X → A} {result : Result X HandleStop} → ((maps : Maps) (s : State) → Stands S old maps → Spells maps.current s → s.facts.prefix ≡ prefix)
      → LeadsUnder prefix S old new before after l m part view result → Leads S old new before after l m part view result
  for_all is leads maps s stands spelled lawful = leads.leads maps s stands spelled lawful (is maps s stands spelled)
