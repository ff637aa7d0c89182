use Rattle.contract_call.specs.Calls.{begins}
use Rattle.contract_call.proofs.Works.{moves_then, moves_stop}
use Rattle.contract_call.proofs.entering.enter.Goals as goal

pub returns-in-Err-clause-moves : goal.returns-in-Err-clause-moves
unfolding begins
returns-in-Err-clause-moves c = moves_stop _ c.in-Err.stop (c.in-Err.ensures.moves c.args.machine.now)

pub returns-in-Err-entry_point-clause-moves : goal.returns-in-Err-entry_point-clause-moves
unfolding begins
returns-in-Err-entry_point-clause-moves c =
    moves_then _ (c.in-Ok.ensures.moves c.args.machine.now) (moves_stop _ c.in-Err-entry_point.stop (c.in-Err-entry_point.ensures c.charge_entry.new.meter.left))

pub returns-in-Err-give_all-clause-moves : goal.returns-in-Err-give_all-clause-moves
unfolding begins
returns-in-Err-give_all-clause-moves c =
    moves_then _ (c.in-Ok.ensures.moves c.args.machine.now)
    (moves_then _ (c.in-Ok-entry_point.ensures c.charge_entry.new.meter.left) (moves_stop _ c.in-Err-give_all.stop (rw c.deref.ensures.value at c.in-Err-give_all.ensures.moves)))

pub returns-clause-moves : goal.returns-clause-moves
unfolding begins
returns-clause-moves c =
    moves_then _ (c.in-Ok.ensures.moves c.args.machine.now)
    (moves_then _ (c.in-Ok-entry_point.ensures c.charge_entry.new.meter.left) (moves_then _ (rw c.deref.ensures.value at c.in-Ok-give_all.ensures.moves) (rw c.deref-2.ensures.value at (c.call_with.ensures.moves c.give_all.new.meter.left))))
