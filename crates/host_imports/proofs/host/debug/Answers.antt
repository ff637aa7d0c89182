use Rattle.host_imports.specs.Imports.{debug}
use Rattle.host_imports.proofs.Works.{moves_then, moves_stop}
use Rattle.host_imports.proofs.host.debug.Goals as goal

pub returns-in-Err-clause-moves : goal.returns-in-Err-clause-moves
unfolding debug
returns-in-Err-clause-moves c = moves_stop _ c.in-Err.stop (c.in-Err.ensures.moves c.args.meter.now.left)

pub returns-in-Ok-charge-clause-moves : goal.returns-in-Ok-charge-clause-moves
unfolding debug
returns-in-Ok-charge-clause-moves c =
    moves_then _ (c.in-Ok.ensures.moves c.args.meter.now.left)
    (moves_then _ (rw (c.debug_cost.ensures, c.deref.ensures.value) at (c.in-Ok-charge.ensures.moves c.args.machine.now)) (c.answer.ensures.moves c.charge.new.meter.left))

pub returns-clause-moves : goal.returns-clause-moves
unfolding debug
returns-clause-moves c =
    moves_then _ (c.in-Ok.ensures.moves c.args.meter.now.left) (moves_stop _ c.in-Err-charge.stop (rw (c.debug_cost.ensures, c.deref.ensures.value) at (c.in-Err-charge.ensures.moves c.args.machine.now)))
