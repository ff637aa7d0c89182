use Rattle.host_imports.specs.Imports.{addr_validate}
use Rattle.host_imports.proofs.Works.{moves_then, moves_stop}
use Rattle.host_imports.proofs.addresses.addr_validate.Goals as goal

pub returns-in-Err-clause-moves : goal.returns-in-Err-clause-moves
unfolding addr_validate
returns-in-Err-clause-moves c = moves_stop _ c.in-Err.stop (c.in-Err.ensures.moves c.args.meter.now.left)

pub returns-in-Err-charge-clause-moves : goal.returns-in-Err-charge-clause-moves
unfolding addr_validate
returns-in-Err-charge-clause-moves c =
    moves_then _ (c.in-Ok.ensures.moves c.args.meter.now.left) (moves_stop _ c.in-Err-charge.stop (c.in-Err-charge.ensures.moves c.args.machine.now))

pub returns-in-Ok-refused-clause-moves : goal.returns-in-Ok-refused-clause-moves
unfolding addr_validate
returns-in-Ok-refused-clause-moves c =
    let answered = rw (c.in-Ok-refused.ensures, c.deref.ensures.value) at c.answer_refused.ensures.moves in
    moves_then _ (c.in-Ok.ensures.moves c.args.meter.now.left) (moves_then _ (c.in-Ok-charge.ensures.moves c.args.machine.now) answered)
