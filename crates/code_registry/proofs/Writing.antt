-- What is reached from the layers that there were.
use Rattle.std.proofs.Common.{refl}
use Rattle.chain_records.specs.State.{Bytes, State, Spells}
use Rattle.chain_records.specs.Spelled.{OfSome}
use Rattle.kv_layers.specs.declared.layers.Layers.{Layers}
use Rattle.kv_layers.specs.Layers.{HasCurrent}
use Rattle.kv_layers.specs.Maps.{changed}
use Rattle.kv_layers.specs.Spelling.{Becomes}
use Rattle.code_registry.specs.Lawful.{HasLawfulCodes}

module _ {B : Type 0} (S : B → Bytes → Type 0) where
  pub Becomes-lawful : (a b : Layers B) (Step : State → State → Type 0) → ((s t : State) → Step s t → HasLawfulCodes t) → Becomes Spells HasLawfulCodes S a b Step → OfSome (HasCurrent S a) HasLawfulCodes → OfSome (HasCurrent S b) HasLawfulCodes
  Becomes-lawful a b Step step becomes some =
      let maps = some.stands.0 in
      let one = becomes maps some.state some.stands.1 (rw some.stands.2 some.spelled) some.holds in
      record { map = one.0; state = one.1; stands = (changed maps one.0, one.2, refl); spelled = one.3; holds = step some.state one.1 one.4 }
