-- One writing after another.
use Rattle.std.proofs.Common.{◌≡◌, ℕ, ◌+◌, ◌≤◌, ◌<◌, ◌^◌, List, refl, sym, subst}
use Rattle.coin_amounts.specs.Plain.{Coin}
use Rattle.chain_records.specs.Keys.{PlainKey}
use Rattle.chain_records.specs.Keys as keys
use Rattle.chain_records.specs.State.{Bytes, State, Spells}
use Rattle.kv_layers.specs.declared.layers.Layers.{Layers}
use Rattle.kv_layers.specs.Layers.{HasCurrent, Turns}
use Rattle.kv_layers.specs.Maps.{changed}
use Rattle.chain_records.specs.Spelled.{OfSome, OfEach}
use Rattle.kv_layers.specs.Spelling.{Becomes, Writes}
use Rattle.bank_ledger.specs.Lawful.{HasLawfulAmounts}
use Rattle.bank_ledger.specs.Amounts.{amount_under, with_amount, with_more}
use Rattle.bank_ledger.specs.Steps.{with_less, leaving, given, drained, sent_leaving, burned_leaving, CanSend, CanBurn}

module _ {B : Type 0} (S : B → Bytes → Type 0) where
  pub Writes-trans : (a b c : Layers B) (f g : State → State) → Writes Spells S a b f → Writes Spells S b c g → Writes Spells S a c (λ s. g (f s))
  Writes-trans a b c f g first then maps s stands spelled =
      let one = first maps s stands spelled in
      let two = then (changed maps one.0) (f s) one.1 one.2 in
      (two.0, two.1, two.2)

  pub OfSome-written : (a b : Layers B) (f : State → State) (P Q : State → Type 0) → ((s : State) → P s → Q (f s)) → Writes Spells S a b f → OfSome (HasCurrent S a) P → OfSome (HasCurrent S b) Q
  OfSome-written a b f P Q step writes some =
      let maps = some.stands.0 in
      let at = writes maps some.state some.stands.1 (rw some.stands.2 some.spelled) in
      record { map = at.0; state = f some.state; stands = (changed maps at.0, at.1, refl); spelled = at.2; holds = step some.state some.holds }

  pub Writes-sent : (a b c : Layers B) (source target : PlainKey) (from to : List ℕ) (coin : Coin) (left : ℕ) → source ≡ keys.balance from coin.denom → target ≡ keys.balance to coin.denom
      → Writes Spells S a b (λ s. with_amount s source left) → Writes Spells S b c (λ s. with_more s target coin.amount) → Writes Spells S a c (λ s. sent_leaving s from to coin left)
  Writes-sent a b c source target from to coin left is_source is_target first then =
      Writes-trans a b c (λ s. leaving s from coin left) (λ s. given s to coin)
      (subst (λ (k : PlainKey). Writes Spells S a b (λ s. with_amount s k left)) is_source first)
      (subst (λ (k : PlainKey). Writes Spells S b c (λ s. with_more s k coin.amount)) is_target then)

  pub Writes-burned : (a b c : Layers B) (source supplied : PlainKey) (from : List ℕ) (coin : Coin) (left : ℕ) → source ≡ keys.balance from coin.denom → supplied ≡ keys.supply coin.denom
      → Writes Spells S a b (λ s. with_amount s source left) → Writes Spells S b c (λ s. with_less s supplied coin.amount) → Writes Spells S a c (λ s. burned_leaving s from coin left)
  Writes-burned a b c source supplied from coin left is_source is_supply first then =
      Writes-trans a b c (λ s. leaving s from coin left) (λ s. drained s coin)
      (subst (λ (k : PlainKey). Writes Spells S a b (λ s. with_amount s k left)) is_source first)
      (subst (λ (k : PlainKey). Writes Spells S b c (λ s. with_less s k coin.amount)) is_supply then)

  -- ---- what the calls for one coin require

  pub can_give : (a b : Layers B) (source target : PlainKey) (from to : List ℕ) (coin : Coin) (left : ℕ) → source ≡ keys.balance from coin.denom → target ≡ keys.balance to coin.denom
      → Writes Spells S a b (λ s. with_amount s source left) → OfSome (HasCurrent S a) (CanSend from to coin left) → OfSome (HasCurrent S b) (λ s. amount_under s target + coin.amount < 2 ^ 128)
  can_give a b source target from to coin left is_source is_target first some =
      OfSome-written a b (λ s. leaving s from coin left) (CanSend from to coin left) (λ s. amount_under s target + coin.amount < 2 ^ 128)
      (λ s can. subst (λ (k : PlainKey). amount_under (leaving s from coin left) k + coin.amount < 2 ^ 128) (sym is_target) can)
      (subst (λ (k : PlainKey). Writes Spells S a b (λ s. with_amount s k left)) is_source first) some

  pub can_drain : (a b : Layers B) (source supplied : PlainKey) (from : List ℕ) (coin : Coin) (left : ℕ) → source ≡ keys.balance from coin.denom → supplied ≡ keys.supply coin.denom
      → Writes Spells S a b (λ s. with_amount s source left) → OfSome (HasCurrent S a) (CanBurn coin) → OfSome (HasCurrent S b) (λ s. coin.amount ≤ amount_under s supplied)
  can_drain a b source supplied from coin left is_source is_supply first some =
      OfSome-written a b (λ s. leaving s from coin left) (CanBurn coin) (λ s. coin.amount ≤ amount_under s supplied)
      (λ s can. subst (λ (k : PlainKey). coin.amount ≤ amount_under (leaving s from coin left) k) (sym is_supply) can)
      (subst (λ (k : PlainKey). Writes Spells S a b (λ s. with_amount s k left)) is_source first) some

  -- ---- what is reached from the layers that there were

  pub Becomes-start : (a : Layers B) (P : State → Type 0) (Step : State → State → Type 0) → ((s : State) → HasLawfulAmounts s → P s → Step s s) → OfEach (HasCurrent S a) P → Becomes Spells HasLawfulAmounts S a a Step
  Becomes-start a P Step start each maps s stands spelled lawful = (maps.current, s, stands, spelled, start s lawful (each maps.current s (maps, stands, refl) spelled))

  pub Becomes-then : (a b c : Layers B) (f : State → State) (One Two : State → State → Type 0) → ((s t : State) → One s t → Two s (f t)) → Becomes Spells HasLawfulAmounts S a b One → Writes Spells S b c f → Becomes Spells HasLawfulAmounts S a c Two
  Becomes-then a b c f One Two step first then maps s stands spelled lawful =
      let one = first maps s stands spelled lawful in
      let two = then (changed maps one.0) one.1 one.2 one.3 in
      (two.0, f one.1, two.1, two.2, step s one.1 one.4)

  pub Becomes-only : (a b : Layers B) (One Two : State → State → Type 0) → ((s t : State) → One s t → Two s t) → Becomes Spells HasLawfulAmounts S a b One → Becomes Spells HasLawfulAmounts S a b Two
  Becomes-only a b One Two step first maps s stands spelled lawful =
      let one = first maps s stands spelled lawful in
      (one.0, one.1, one.2, one.3, step s one.1 one.4)

  pub Becomes-some : (a b : Layers B) (Step : State → State → Type 0) (Q : State → Type 0) → ((s t : State) → Step s t → Q t) → Becomes Spells HasLawfulAmounts S a b Step → OfSome (HasCurrent S a) HasLawfulAmounts → OfSome (HasCurrent S b) Q
  Becomes-some a b Step Q step first some =
      let maps = some.stands.0 in
      let one = first maps some.state some.stands.1 (rw some.stands.2 some.spelled) some.holds in
      record { map = one.0; state = one.1; stands = (changed maps one.0, one.2, refl); spelled = one.3; holds = step some.state one.1 one.4 }

  -- ---- where nothing is changed

  pub OfSome-kept : (a b : Layers B) (P : State → Type 0) → Turns S a b (λ maps. maps) → OfSome (HasCurrent S a) P → OfSome (HasCurrent S b) P
  OfSome-kept a b P kept some = record { map = some.map; state = some.state; stands = (some.stands.0, kept some.stands.0 some.stands.1, some.stands.2); spelled = some.spelled; holds = some.holds }
