use Rattle.gas_store.proofs.Typed.{spells_changed}
use Rattle.gas_store.proofs.laws.storages_change_alone.Goals as goal

pub returns : goal.returns
returns c = λ old new s addr short spelled others. spells_changed c.bytes_tell_keys.ensures old new s addr short spelled others
