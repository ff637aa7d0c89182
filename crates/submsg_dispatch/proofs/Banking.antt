-- What the bank did, as parts of a message.
use Rattle.std.proofs.Common.{◌≡◌, ℕ, List, Option, None, Ok, Err, refl, sym, ap, ◌∙◌, subst}
use Rattle.coin_amounts.specs.Plain.{Coin}
use Rattle.kv_layers.specs.declared.layers.Layers.{Layers}
use Rattle.kv_layers.specs.Layers.{HasCurrent}
use Rattle.kv_layers.specs.Spelling.{Becomes}
use Rattle.chain_records.specs.Records.{PlainFacts}
use Rattle.chain_records.specs.State.{Bytes, State, Spells}
use Rattle.chain_records.specs.Spelled.{OfEach}
use Rattle.bank_ledger.specs.declared.stop.BankStop.{BankStop}
use Rattle.bank_ledger.specs.declared.stop.BankStop.TheVariants as bank_stops
use Rattle.bank_ledger.specs.Accounts.{balance, sent, burned}
use Rattle.bank_ledger.specs.Balances.{Shortfall, shortfall}
use Rattle.bank_ledger.specs.Effects.{IsSent, IsBurned, IsStop}
use Rattle.bank_ledger.specs.Effects as effects
use Rattle.bank_ledger.specs.Lawful.{HasLawfulAmounts}
use Rattle.gatekeeper.specs.Cache.{Tally}
use Rattle.query_router.specs.Lawful.{IsLawful}
use Rattle.submsg_dispatch.specs.declared.stop.HandleStop.{HandleStop}
use Rattle.submsg_dispatch.specs.declared.stop.HandleStop.TheVariants.{Failed, OutOfGas, NoMemory}
use Rattle.submsg_dispatch.specs.Parts.{Ran, kept, failed, done, reads, ◌>>=◌}
use Rattle.submsg_dispatch.specs.Messages.{unless_short}
use Rattle.submsg_dispatch.specs.Under.{Lacks, LeadsUnder}
use Rattle.submsg_dispatch.proofs.Leading.{Came, no_fetch, no_memory}
use Rattle.submsg_dispatch.proofs.Lawfulness.{lawful_sent, lawful_burned}

-- what an account's shortfall makes of a part that tells what the next state says
abbrev told : {A : Type 0} → State → (State → A) → State → ℕ → Option Shortfall → Ran A
told {A = A} next says s left short = (unless_short next short >>= λ _. reads (λ (t : State). done {A = A} (says t))) s left

-- ---- of sends and burns

pub sent_steps : (from to : List ℕ) (coins : List Coin) (s t : State) → IsLawful s → IsSent s from to coins t → (shortfall (balance s) from coins ≡ None) × (t ≡ sent s from to coins) × IsLawful t
sent_steps from to coins s t lawful is = (is.enough, is.state, lawful_sent s t from to coins lawful is)

pub burned_steps : (from : List ℕ) (coins : List Coin) (s t : State) → IsLawful s → IsBurned s from coins t → (shortfall (balance s) from coins ≡ None) × (t ≡ burned s from coins) × IsLawful t
burned_steps from coins s t lawful is = (is.enough, is.state, lawful_burned s t from coins lawful is)

-- ---- what calls do

module _ {B : Type 0} {S : B → Bytes → Type 0} {prefix : List ℕ} where
  -- the account had enough: the layers stand for the next state, and what is said of its prefix is given
  pub enough_leads : {X A : Type 0} {old new : Layers B} {l : ℕ} {view : X → A} (tally : Option Tally) (x : X) (from : List ℕ) (coins : List Coin) (next : State → State) (says : List ℕ → A) (Step : State → State → Type 0)
      → ((s t : State) → IsLawful s → Step s t → (shortfall (balance s) from coins ≡ None) × (t ≡ next s) × IsLawful t) → ((s : State) → (next s).facts ≡ s.facts)
      → view x ≡ says prefix → Becomes Spells HasLawfulAmounts S old new Step
      → LeadsUnder prefix S old new tally tally l l (reads (λ s. unless_short (next s) (shortfall (balance s) from coins)) >>= λ _. reads (λ s. done (says s.facts.prefix))) view (Ok x)
  enough_leads {X = X} {A = A} {new = new} {l = l} {view = view} tally x from coins next says Step steps facts gives becomes = record {
    leads = λ maps s stands spelled lawful is.
        let to = becomes maps s stands spelled lawful.amounts in
        let t : State = to.1 in
        let step = steps s t lawful to.4 in
        let path = ap (told (next s) (λ (u : State). says u.facts.prefix) s l) step.0 in
        let same : (next s).facts.prefix ≡ prefix = ap (λ (f : PlainFacts). f.prefix) (facts s) ∙ is in
        let ended : kept (next s) (says (next s).facts.prefix) ≡ kept t (view x) = ap (λ (p : List ℕ). kept (next s) (says p)) same ∙ ap (kept (next s)) (sym gives) ∙ ap (λ (u : State). kept u (view x)) (sym step.1) in
        subst (λ (ran : Ran A). Came {X = X} S new tally tally l view (Ok x) maps s ran) (sym path) (
          (t, record { map = to.0; stands = to.2; spelled = to.3; lawful = step.2; facts = ap (λ (u : State). u.facts) step.1 ∙ facts s }, ended),
          (refl, no_fetch tally),
        );
  }

  -- the account had too little: nothing is changed
  pub short_leads : {X A : Type 0} {old new : Layers B} {l : ℕ} {view : X → A} (tally : Option Tally) (bank : BankStop) (stop : HandleStop) (from : List ℕ) (coins : List Coin) (next : State → State) (says : List ℕ → A)
      → OfEach (HasCurrent S old) (λ s. IsStop bank (shortfall (balance s) from coins)) → effects.Leaves S old new bank → Lacks bank stop
      → LeadsUnder prefix S old new tally tally l l (reads (λ s. unless_short (next s) (shortfall (balance s) from coins)) >>= λ _. reads (λ s. done (says s.facts.prefix))) view (Err stop)
  short_leads {X = X} {A = A} {new = new} {l = l} {view = view} tally (bank_stops.NotEnough denom have want) (Failed failure) from coins next says each leaves lacks = record {
    leads = λ maps s stands spelled lawful is.
        let path = ap (told (next s) (λ (u : State). says u.facts.prefix) s l) (each maps.current s (maps, stands, refl) spelled) in
        subst (λ (ran : Ran A). Came {X = X} S new tally tally l view (Err (Failed failure)) maps s ran) (sym path) ((leaves maps stands, ap failed (sym lacks)), (refl, no_fetch tally));
  }
  short_leads tally (bank_stops.NotEnough denom have want) OutOfGas from coins next says each leaves lacks = absurd lacks
  short_leads tally (bank_stops.NotEnough denom have want) NoMemory from coins next says each leaves lacks = no_memory
  short_leads {X = X} {A = A} {old = old} {new = new} {l = l} {view = view} tally bank_stops.NoMemory stop from coins next says each leaves lacks =
      subst (λ (x : HandleStop). LeadsUnder {X = X} prefix S old new tally tally l l (reads (λ s. unless_short (next s) (shortfall (balance s) from coins)) >>= λ _. reads (λ s. done (says s.facts.prefix))) view (Err x)) (sym lacks) no_memory
