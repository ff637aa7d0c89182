use Rattle.host_imports.specs.Allocation.{gives}
use Rattle.host_imports.proofs.Machines.{fits_not}
use Rattle.host_imports.proofs.Works.{moves_stop}
use Rattle.std.proofs.Common.{arith}
use Rattle.host_imports.proofs.allocation.give_bytes.Goals as goal

pub returns-then-bytes-clause-moves : goal.returns-then-bytes-clause-moves
unfolding gives
returns-then-bytes-clause-moves c = moves_stop _ _ (fits_not _ (omega (arith, c.if-bytes.true)))
