use Rattle.host_imports.specs.Imports.{db_write}
use Rattle.host_imports.proofs.Works.{moves_does, does_then, does_stop}
use Rattle.host_imports.proofs.storage.db_write.Goals as goal

pub returns-in-Err-clause-does : goal.returns-in-Err-clause-does
unfolding db_write
returns-in-Err-clause-does g c = does_stop _ c.in-Err.stop (moves_does (c.in-Err.ensures c.args.machine.now c.args.meter.now.left))

pub returns-in-Err-read_region-clause-does : goal.returns-in-Err-read_region-clause-does
unfolding db_write
returns-in-Err-read_region-clause-does g c =
    does_then _ (moves_does (c.in-Ok.ensures c.args.machine.now c.args.meter.now.left)) (does_stop _ c.in-Err-read_region.stop (moves_does (c.in-Err-read_region.ensures.moves c.args.meter.now.left)))

pub returns-in-Err-read_region-2-clause-does : goal.returns-in-Err-read_region-2-clause-does
unfolding db_write
returns-in-Err-read_region-2-clause-does g c =
    does_then _ (moves_does (c.in-Ok.ensures c.args.machine.now c.args.meter.now.left))
    (does_then _ (moves_does (c.in-Ok-read_region.ensures.moves c.args.meter.now.left)) (does_stop _ c.in-Err-read_region-2.stop (moves_does (c.in-Err-read_region-2.ensures.moves c.args.meter.now.left))))

pub returns-in-Ok-write-clause-does : goal.returns-in-Ok-write-clause-does
unfolding db_write
returns-in-Ok-write-clause-does g c =
    let written = rw (c.deref.ensures.value, c.deref-2.ensures.value) at c.in-Ok-write.ensures.does in
    does_then _ (moves_does (c.in-Ok.ensures c.args.machine.now c.args.meter.now.left))
    (does_then _ (moves_does (c.in-Ok-read_region.ensures.moves c.args.meter.now.left))
    (does_then _ (moves_does (c.in-Ok-read_region-2.ensures.moves c.args.meter.now.left))
    (does_then _ (written c.args.machine.now) (moves_does (c.answer.ensures.moves c.write.new.meter.left)))))

pub returns-clause-does : goal.returns-clause-does
unfolding db_write
returns-clause-does g c =
    let written = rw (c.deref.ensures.value, c.deref-2.ensures.value) at c.in-Err-write.ensures.does in
    does_then _ (moves_does (c.in-Ok.ensures c.args.machine.now c.args.meter.now.left))
    (does_then _ (moves_does (c.in-Ok-read_region.ensures.moves c.args.meter.now.left))
    (does_then _ (moves_does (c.in-Ok-read_region-2.ensures.moves c.args.meter.now.left)) (does_stop _ c.in-Err-write.stop (written c.args.machine.now))))
