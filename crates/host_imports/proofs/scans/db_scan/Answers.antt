use Rattle.host_imports.specs.Imports.{db_scan}
use Rattle.host_imports.proofs.Works.{moves_scans, scans_then, scans_stop}
use Rattle.host_imports.proofs.scans.db_scan.Goals as goal

pub returns-in-Err-clause-scans : goal.returns-in-Err-clause-scans
unfolding db_scan
returns-in-Err-clause-scans c = scans_stop _ c.in-Err.stop (moves_scans (c.in-Err.ensures c.args.machine.now c.args.meter.now.left))

pub returns-in-Err-bound-clause-scans : goal.returns-in-Err-bound-clause-scans
unfolding db_scan
returns-in-Err-bound-clause-scans c =
    scans_then _ (moves_scans (c.in-Ok.ensures c.args.machine.now c.args.meter.now.left)) (scans_stop _ c.in-Err-bound.stop (moves_scans (c.in-Err-bound.ensures c.args.meter.now.left)))

pub returns-in-Err-bound-2-clause-scans : goal.returns-in-Err-bound-2-clause-scans
unfolding db_scan
returns-in-Err-bound-2-clause-scans c =
    scans_then _ (moves_scans (c.in-Ok.ensures c.args.machine.now c.args.meter.now.left))
    (scans_then _ (moves_scans (c.in-Ok-bound.ensures c.args.meter.now.left)) (scans_stop _ c.in-Err-bound-2.stop (moves_scans (c.in-Err-bound-2.ensures c.args.meter.now.left))))

pub returns-in-Ok-start-clause-scans : goal.returns-in-Ok-start-clause-scans
unfolding db_scan
returns-in-Ok-start-clause-scans c =
    scans_then _ (moves_scans (c.in-Ok.ensures c.args.machine.now c.args.meter.now.left))
    (scans_then _ (moves_scans (c.in-Ok-bound.ensures c.args.meter.now.left))
    (scans_then _ (moves_scans (c.in-Ok-bound-2.ensures c.args.meter.now.left))
    (scans_then _ (rw (c.as_deref.ensures.value, c.as_deref-2.ensures.value) at (c.in-Ok-start.ensures.scans c.args.machine.now)) (moves_scans (c.answer.ensures.moves c.start.new.meter.left)))))

pub returns-clause-scans : goal.returns-clause-scans
unfolding db_scan
returns-clause-scans c =
    scans_then _ (moves_scans (c.in-Ok.ensures c.args.machine.now c.args.meter.now.left))
    (scans_then _ (moves_scans (c.in-Ok-bound.ensures c.args.meter.now.left))
    (scans_then _ (moves_scans (c.in-Ok-bound-2.ensures c.args.meter.now.left)) (scans_stop _ c.in-Err-start.stop (rw (c.as_deref.ensures.value, c.as_deref-2.ensures.value) at (c.in-Err-start.ensures.scans c.args.machine.now)))))
