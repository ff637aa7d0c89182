use Rattle.host_imports.specs.Allocation.{abort_fault}
use Rattle.host_imports.specs.Faults.{aborted}
use Rattle.host_imports.proofs.Works.{moves_then, moves_stop, gives_moves}
use Rattle.std.proofs.Common.{ap}
use Rattle.host_imports.proofs.abort.abort_fault.Goals as goal

pub returns-in-Err : goal.returns-in-Err
unfolding abort_fault
returns-in-Err c = λ left. moves_stop _ c.in-Err.stop (c.in-Err.ensures.moves left)

pub returns-in-Ok-shown_text : goal.returns-in-Ok-shown_text
unfolding abort_fault
returns-in-Ok-shown_text c = λ left. moves_then _ (c.in-Ok.ensures.moves left) (gives_moves _ _ (ap aborted (rw c.deref.ensures.value at c.in-Ok-shown_text.ensures)))
