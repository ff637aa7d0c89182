use Rattle.host_imports.specs.Imports.{db_remove}
use Rattle.host_imports.proofs.Works.{moves_does, does_then, does_stop}
use Rattle.host_imports.proofs.storage.db_remove.Goals as goal

pub returns-in-Err-clause-does : goal.returns-in-Err-clause-does
unfolding db_remove
returns-in-Err-clause-does g c = does_stop _ c.in-Err.stop (moves_does (c.in-Err.ensures c.args.machine.now c.args.meter.now.left))

pub returns-in-Err-read_region-clause-does : goal.returns-in-Err-read_region-clause-does
unfolding db_remove
returns-in-Err-read_region-clause-does g c =
    does_then _ (moves_does (c.in-Ok.ensures c.args.machine.now c.args.meter.now.left)) (does_stop _ c.in-Err-read_region.stop (moves_does (c.in-Err-read_region.ensures.moves c.args.meter.now.left)))

pub returns-in-Ok-erase-clause-does : goal.returns-in-Ok-erase-clause-does
unfolding db_remove
returns-in-Ok-erase-clause-does g c =
    let erased = rw c.deref.ensures.value at c.in-Ok-erase.ensures.does in
    does_then _ (moves_does (c.in-Ok.ensures c.args.machine.now c.args.meter.now.left))
    (does_then _ (moves_does (c.in-Ok-read_region.ensures.moves c.args.meter.now.left))
    (does_then _ (erased c.args.machine.now) (moves_does (c.answer.ensures.moves c.erase.new.meter.left))))

pub returns-clause-does : goal.returns-clause-does
unfolding db_remove
returns-clause-does g c =
    let erased = rw c.deref.ensures.value at c.in-Err-erase.ensures.does in
    does_then _ (moves_does (c.in-Ok.ensures c.args.machine.now c.args.meter.now.left))
    (does_then _ (moves_does (c.in-Ok-read_region.ensures.moves c.args.meter.now.left)) (does_stop _ c.in-Err-erase.stop (erased c.args.machine.now)))
