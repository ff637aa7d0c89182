use Rattle.gatekeeper.proofs.Taken.{accepted_is_contract}
use Rattle.gatekeeper.proofs.laws.accepted_are_contracts.Goals as goal

pub returns : goal.returns
returns c = accepted_is_contract c.bytes_spell_or_break.ensures.spelled
