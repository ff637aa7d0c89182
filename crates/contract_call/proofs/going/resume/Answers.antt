use Rattle.contract_call.specs.Calls.{hands}
use Rattle.contract_call.proofs.Works.{moves_does, does_then, does_stop}
use Rattle.contract_call.proofs.going.resume.Goals as goal

pub returns-in-Ok-clause-does : goal.returns-in-Ok-clause-does
unfolding hands
returns-in-Ok-clause-does g c = does_then _ (moves_does c.in-Ok.ensures.moves) c.run.ensures.does

pub returns-in-Err-clause-does : goal.returns-in-Err-clause-does
unfolding hands
returns-in-Err-clause-does g c = does_stop _ c.in-Err.stop (moves_does c.in-Err.ensures.moves)
