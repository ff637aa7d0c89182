use Rattle.chain_records.proofs.ChangeLaws.{spells_first}
use Rattle.chain_records.proofs.laws.facts_and_counters_begin_a_chain.Goals as goal

pub returns : goal.returns
returns c = spells_first
