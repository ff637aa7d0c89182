-- What is seen of the chain before a contract is called.
use Rattle.std.proofs.Common.{◌≡◌, ℕ, Bool, true, false, List, [], ◌∷◌, Option, None, Some, Result, Ok, Err, refl, sym, ap, ◌∙◌, map, option_map}
use Rattle.std.specs.FinMap.{get}
use Rattle.coin_amounts.specs.Plain.{Coin}
use Rattle.chain_addr.specs.Text.{text_of}
use Rattle.chain_records.specs.declared.record.Contract.{Contract}
use Rattle.chain_records.specs.Records.{PlainFacts, PlainContract, plain_contract}
use Rattle.chain_records.specs.State.{Bytes, State}
use Rattle.chain_records.specs.Spelled.{OfEach}
use Rattle.code_registry.specs.Codes.{is_the}
use Rattle.gas_meter.specs.declared.schedule.Schedule.{Schedule}
use Rattle.gatekeeper.specs.Cache.{Tally}
use Rattle.kv_layers.specs.declared.layers.Layers.{Layers}
use Rattle.kv_layers.specs.Layers.{HasCurrent}
use Rattle.submsg_dispatch.specs.declared.called.Callee.{Callee}
use Rattle.submsg_dispatch.specs.declared.stop.HandleStop.{HandleStop}
use Rattle.submsg_dispatch.specs.Parts.{or_fails, needs}
use Rattle.submsg_dispatch.specs.Failures.{no_such_contract, not_authority}
use Rattle.submsg_dispatch.specs.Messages.{transfers}
use Rattle.submsg_dispatch.specs.Calling.{code_at, pays}
use Rattle.submsg_dispatch.specs.Stages.{code_id_of, needs_authority, nothing_view}
use Rattle.submsg_dispatch.specs.Under.{Fails, LeadsOn}
use Rattle.submsg_dispatch.proofs.Chaining.{sees_on, fails_on}

-- ---- coins

pub pays_some : (costs : Schedule) (from to : List ℕ) (coins : List Coin) → (coins ≡ [] → ⊥) → pays costs from to coins ≡ transfers costs from to coins
pays_some costs from to [] some = absurd (some refl)
pays_some costs from to (coin ∷ coins) some = refl

module _ {B : Type 0} {S : B → Bytes → Type 0} {prefix : List ℕ} where
  -- ---- contracts

  pub code_seen : {layers : Layers B} {tally : Option Tally} {l : ℕ} (at addr : List ℕ) (found : Option Contract) (c : Contract) (callee : Callee) → found ≡ Some c → at ≡ addr → OfEach (HasCurrent S layers) (λ s. option_map plain_contract found ≡ get s.contracts at) → callee.code_id ≡ c.code_id
      → LeadsOn prefix S layers layers tally tally l l (code_at prefix addr) code_id_of (Ok callee)
  code_seen {l = l} at addr found c callee is same_addr each same = sees_on (code_at prefix addr) callee
      (λ maps s stands spelled lawful under.
      let there : get s.contracts addr ≡ Some (plain_contract c) = ap (get s.contracts) (sym same_addr) ∙ sym (each maps.current s (maps, stands, refl) spelled) ∙ ap (option_map plain_contract) is in
      ap (λ (o : Option PlainContract). or_fails (no_such_contract (text_of prefix addr)) (option_map (λ k. k.code_id) o) s l) there
      ∙ ap (λ (n : ℕ). or_fails (no_such_contract (text_of prefix addr)) (Some n) s l) (sym same))

  pub no_code_seen : {layers : Layers B} {tally : Option Tally} {l : ℕ} (at addr : List ℕ) (found : Option Contract) (stop : HandleStop) → found ≡ None → at ≡ addr → OfEach (HasCurrent S layers) (λ s. option_map plain_contract found ≡ get s.contracts at) → Fails stop (no_such_contract (text_of prefix addr))
      → LeadsOn prefix S layers layers tally tally l l (code_at prefix addr) code_id_of (Err stop)
  no_code_seen {l = l} at addr found stop is same_addr each fails = fails_on (code_at prefix addr) stop (no_such_contract (text_of prefix addr)) fails
      (λ maps s stands spelled lawful under.
      let none : get s.contracts addr ≡ None = ap (get s.contracts) (sym same_addr) ∙ sym (each maps.current s (maps, stands, refl) spelled) ∙ ap (option_map plain_contract) is in
      ap (λ (o : Option PlainContract). or_fails (no_such_contract (text_of prefix addr)) (option_map (λ k. k.code_id) o) s l) none)

  -- ---- the authority

  pub authority_seen : {layers : Layers B} {tally : Option Tally} {l : ℕ} (sender : List ℕ) (p : PlainFacts) → OfEach (HasCurrent S layers) (λ s. p ≡ s.facts) → is_the p.authority sender ≡ true → LeadsOn prefix S layers layers tally tally l l (needs_authority sender) nothing_view (Ok tt)
  authority_seen {l = l} sender p each same = sees_on (needs_authority sender) tt
      (λ maps s stands spelled lawful is.
      ap (λ (f : PlainFacts). needs (is_the f.authority sender) not_authority s l) (sym (each maps.current s (maps, stands, refl) spelled)) ∙ ap (λ (b : Bool). needs b not_authority s l) same)

  pub no_authority_seen : {layers : Layers B} {tally : Option Tally} {l : ℕ} (sender : List ℕ) (p : PlainFacts) (stop : HandleStop) → OfEach (HasCurrent S layers) (λ s. p ≡ s.facts) → is_the p.authority sender ≡ false → Fails stop not_authority
      → LeadsOn prefix S layers layers tally tally l l (needs_authority sender) nothing_view (Err stop)
  no_authority_seen {l = l} sender p stop each other fails = fails_on (needs_authority sender) stop not_authority fails
      (λ maps s stands spelled lawful is.
      ap (λ (f : PlainFacts). needs (is_the f.authority sender) not_authority s l) (sym (each maps.current s (maps, stands, refl) spelled)) ∙ ap (λ (b : Bool). needs b not_authority s l) other)
