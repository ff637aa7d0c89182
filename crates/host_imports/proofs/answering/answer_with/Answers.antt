use Rattle.host_imports.specs.Imports.{answers_with}
use Rattle.host_imports.proofs.Works.{moves_then, moves_stop}
use Rattle.host_imports.proofs.answering.answer_with.Goals as goal

pub returns-in-Ok-clause-moves : goal.returns-in-Ok-clause-moves
unfolding answers_with
returns-in-Ok-clause-moves c = moves_then _ c.in-Ok.ensures.moves (c.answer.ensures.moves c.give_bytes.new.meter.left)

pub returns-in-Err-clause-moves : goal.returns-in-Err-clause-moves
unfolding answers_with
returns-in-Err-clause-moves c = moves_stop _ c.in-Err.stop c.in-Err.ensures.moves
