-- What is reached by writing one record.
use Rattle.std.proofs.Common.{refl}
use Rattle.chain_records.specs.State.{Bytes, State, Spells}
use Rattle.chain_records.specs.Spelled.{OfSome, OfEach}
use Rattle.kv_layers.specs.declared.layers.Layers.{Layers}
use Rattle.kv_layers.specs.Layers.{HasCurrent}
use Rattle.kv_layers.specs.Maps.{changed}
use Rattle.kv_layers.specs.Spelling.{Becomes, Writes}
use Rattle.contract_admin.specs.Lawful.{HasLawfulContracts}

module _ {B : Type 0} (S : B → Bytes → Type 0) where
  -- what was found of each state that the layers stood for decides what is reached
  pub Becomes-written : (a b : Layers B) (f : State → State) (Found : State → Type 0) (Step : State → State → Type 0) → ((s : State) → HasLawfulContracts s → Found s → Step s (f s)) → OfEach (HasCurrent S a) Found → Writes Spells S a b f
      → Becomes Spells HasLawfulContracts S a b Step
  Becomes-written a b f Found Step step found writes maps s stands spelled lawful =
      let at = writes maps s stands spelled in
      (at.0, f s, at.1, at.2, step s lawful (found maps.current s (maps, stands, refl) spelled))

  pub Becomes-some : (a b : Layers B) (Step : State → State → Type 0) (Q : State → Type 0) → ((s t : State) → Step s t → Q t) → Becomes Spells HasLawfulContracts S a b Step → OfSome (HasCurrent S a) HasLawfulContracts → OfSome (HasCurrent S b) Q
  Becomes-some a b Step Q step becomes some =
      let maps = some.stands.0 in
      let one = becomes maps some.state some.stands.1 (rw some.stands.2 some.spelled) some.holds in
      record { map = one.0; state = one.1; stands = (changed maps one.0, one.2, refl); spelled = one.3; holds = step some.state one.1 one.4 }
