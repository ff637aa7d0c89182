use Rattle.gatekeeper.proofs.Taken.{taken_is_contract}
use Rattle.gatekeeper.proofs.laws.taken_are_contracts.Goals as goal

pub returns : goal.returns
returns c = taken_is_contract c.bytes_spell_or_break.ensures.spelled
