use Rattle.contract_call.specs.Calls.{opens}
use Rattle.contract_call.proofs.Works.{moves_does, does_then, does_stop}
use Rattle.contract_call.proofs.going.open.Goals as goal

pub returns-in-Ok-clause-does : goal.returns-in-Ok-clause-does
unfolding opens
returns-in-Ok-clause-does g c = does_then _ (moves_does c.in-Ok.ensures.moves) c.run.ensures.does

pub returns-in-Err-clause-does : goal.returns-in-Err-clause-does
unfolding opens
returns-in-Err-clause-does g c = does_stop _ c.in-Err.stop (moves_does c.in-Err.ensures.moves)
