use Rattle.std.proofs.Common.{Ok}
use Rattle.host_imports.proofs.Works.{moves_then, moves_stop}
use Rattle.host_imports.proofs.Addressed.{put_so}
use Rattle.host_imports.proofs.addresses.put.Goals as goal

pub returns-in-Ok-write_region-clause-moves : goal.returns-in-Ok-write_region-clause-moves
returns-in-Ok-write_region-clause-moves c = λ read is.
    put_so c.args.costs.now c.args.target read (Ok c.in-Ok.bytes.items) (rw c.in-Ok.is at is) (moves_then _ (rw c.deref.ensures.value at (c.in-Ok-write_region.ensures.moves c.args.meter.now.left)) (c.answer.ensures.moves c.args.meter.now.left))

pub returns-in-Ok-clause-moves : goal.returns-in-Ok-clause-moves
returns-in-Ok-clause-moves c = λ read is.
    put_so c.args.costs.now c.args.target read (Ok c.in-Ok.bytes.items) (rw c.in-Ok.is at is) (moves_stop _ c.in-Err.stop (rw c.deref.ensures.value at (c.in-Err.ensures.moves c.args.meter.now.left)))
