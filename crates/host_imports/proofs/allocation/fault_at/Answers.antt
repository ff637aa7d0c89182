use Rattle.host_imports.specs.Faults.{fault_view}
use Rattle.host_imports.proofs.Works.{done_moves}
use Rattle.host_imports.proofs.allocation.fault_at.Goals as goal

pub returns-in-Some : goal.returns-in-Some
returns-in-Some c = λ left. rw c.in-Some.is (c.fault_in_allocate.ensures left)

pub returns-in-None : goal.returns-in-None
returns-in-None c = λ left. rw c.in-None.is (done_moves {view = fault_view} _)
