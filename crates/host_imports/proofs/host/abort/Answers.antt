use Rattle.std.proofs.Common.{refl}
use Rattle.host_imports.specs.Faults.{fault_view}
use Rattle.host_imports.proofs.Works.{moves_then, moves_stop, fault_moves}
use Rattle.host_imports.proofs.host.abort.Goals as goal

pub returns-in-Ok-clause-moves : goal.returns-in-Ok-clause-moves
returns-in-Ok-clause-moves c = λ left. moves_then _ (c.in-Ok.ensures left) (fault_moves (fault_view c.in-Ok.fault) c.in-Ok.fault refl)

pub returns-in-Err-clause-moves : goal.returns-in-Err-clause-moves
returns-in-Err-clause-moves c = λ left. moves_stop _ c.in-Err.stop (c.in-Err.ensures left)
