use Rattle.host_imports.specs.Imports.{addr_humanize}
use Rattle.host_imports.proofs.Works.{moves_then, moves_stop}
use Rattle.host_imports.proofs.addresses.addr_humanize.Goals as goal

pub returns-in-Err-clause-moves : goal.returns-in-Err-clause-moves
unfolding addr_humanize
returns-in-Err-clause-moves c = moves_stop _ c.in-Err.stop (c.in-Err.ensures.moves c.args.meter.now.left)

pub returns-in-Err-charge-clause-moves : goal.returns-in-Err-charge-clause-moves
unfolding addr_humanize
returns-in-Err-charge-clause-moves c =
    moves_then _ (c.in-Ok.ensures.moves c.args.meter.now.left) (moves_stop _ c.in-Err-charge.stop (c.in-Err-charge.ensures.moves c.args.machine.now))

pub returns-clause-moves : goal.returns-clause-moves
unfolding addr_humanize
returns-clause-moves c =
    let put = c.put.ensures.moves _ (rw c.deref.ensures.value at c.human-found.ensures.reads) in
    moves_then _ (c.in-Ok.ensures.moves c.args.meter.now.left) (moves_then _ (c.in-Ok-charge.ensures.moves c.args.machine.now) put)
