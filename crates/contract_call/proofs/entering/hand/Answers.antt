use Rattle.host_imports.specs.Imports.{answers_with}
use Rattle.contract_call.proofs.Works.{moves_then, moves_stop}
use Rattle.contract_call.proofs.Machines.{answered_so}
use Rattle.contract_call.proofs.entering.hand.Goals as goal

pub returns-in-Ok-clause-moves : goal.returns-in-Ok-clause-moves
unfolding answers_with
returns-in-Ok-clause-moves c = moves_then _ (rw c.deref.ensures.value at c.in-Ok.ensures.moves) (answered_so _ c.resume.ensures.stands c.resume.ensures.module)

pub returns-clause-moves : goal.returns-clause-moves
unfolding answers_with
returns-clause-moves c = moves_stop _ c.in-Err.stop (rw c.deref.ensures.value at c.in-Err.ensures.moves)
