use Rattle.gas_store.proofs.Typed.{spells_storage}
use Rattle.gas_store.proofs.laws.storages_are_typed.Goals as goal

pub returns : goal.returns
returns c = spells_storage
