use Rattle.gatekeeper.proofs.Taken.{decoded_is_spelled}
use Rattle.gatekeeper.proofs.laws.decoded_are_spelled.Goals as goal

pub returns : goal.returns
returns c = decoded_is_spelled c.bytes_spell_or_break.ensures.spelled
