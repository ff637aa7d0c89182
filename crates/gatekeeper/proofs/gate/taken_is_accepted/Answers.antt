use Rattle.gatekeeper.proofs.Judged.{taken_is_accepted}
use Rattle.gatekeeper.proofs.gate.taken_is_accepted.Goals as goal

pub returns : goal.returns
returns c = taken_is_accepted
