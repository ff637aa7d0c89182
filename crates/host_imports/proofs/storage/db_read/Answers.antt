use Rattle.host_imports.specs.Imports.{db_read}
use Rattle.host_imports.proofs.Works.{moves_does, does_then, does_stop}
use Rattle.host_imports.proofs.storage.db_read.Goals as goal

pub returns-in-Err-clause-does : goal.returns-in-Err-clause-does
unfolding db_read
returns-in-Err-clause-does g c = does_stop _ c.in-Err.stop (moves_does (c.in-Err.ensures.moves c.args.meter.now.left))

pub returns-in-Ok-read-clause-does : goal.returns-in-Ok-read-clause-does
unfolding db_read
returns-in-Ok-read-clause-does g c =
    let read = rw c.deref.ensures.value at c.in-Ok-read.ensures.does in
    does_then _ (moves_does (c.in-Ok.ensures.moves c.args.meter.now.left)) (does_then _ (read c.args.machine.now) (moves_does c.answer_found.ensures.moves))

pub returns-clause-does : goal.returns-clause-does
unfolding db_read
returns-clause-does g c =
    let read = rw c.deref.ensures.value at c.in-Err-read.ensures.does in
    does_then _ (moves_does (c.in-Ok.ensures.moves c.args.meter.now.left)) (does_stop _ c.in-Err-read.stop (read c.args.machine.now))
