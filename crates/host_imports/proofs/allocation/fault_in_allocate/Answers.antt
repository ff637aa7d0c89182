use Rattle.std.proofs.Common.{sym, ap, ◌∙◌}
use Rattle.host_imports.specs.Allocation.{in_allocate}
use Rattle.host_imports.specs.Faults.{fault_view}
use Rattle.host_imports.proofs.Works.{done_moves, moves_along}
use Rattle.host_imports.proofs.allocation.fault_in_allocate.Goals as goal

pub returns-in-Some : goal.returns-in-Some
returns-in-Some c = λ left. moves_along (ap in_allocate (sym c.abort_text.ensures ∙ c.in-Some.is)) (c.abort_fault.ensures left)

pub returns-in-None : goal.returns-in-None
returns-in-None c = λ left. moves_along (ap in_allocate (sym c.abort_text.ensures ∙ c.in-None.is)) (done_moves {view = fault_view} _)
