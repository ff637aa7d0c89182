use Rattle.chain_records.proofs.SpellingLaws.{spells_some}
use Rattle.chain_records.proofs.laws.whole_maps_spell_states.Goals as goal

pub returns : goal.returns
returns c = spells_some
