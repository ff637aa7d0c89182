use Rattle.host_imports.specs.Allocation.{releases}
use Rattle.host_imports.specs.Parts.{same_view}
use Rattle.host_imports.proofs.Works.{moves_then, moves_stop, done_moves}
use Rattle.host_imports.proofs.allocation.take_back.Goals as goal

pub returns-in-Err-clause-moves : goal.returns-in-Err-clause-moves
unfolding releases
returns-in-Err-clause-moves c = moves_stop _ c.in-Err.stop c.in-Err.ensures.moves

pub returns-in-Ok-nothing_of-clause-moves : goal.returns-in-Ok-nothing_of-clause-moves
unfolding releases
returns-in-Ok-nothing_of-clause-moves c =
    moves_then _ c.in-Ok.ensures.moves
    (moves_then _ (c.in-Ok-nothing_of.ensures c.call_own.new.machine c.call_own.new.meter.left) (done_moves {view = same_view} c.args.pointer))

pub returns-in-Err-nothing_of-clause-moves : goal.returns-in-Err-nothing_of-clause-moves
unfolding releases
returns-in-Err-nothing_of-clause-moves c =
    moves_then _ c.in-Ok.ensures.moves (moves_stop _ c.in-Err-nothing_of.stop (c.in-Err-nothing_of.ensures c.call_own.new.machine c.call_own.new.meter.left))
