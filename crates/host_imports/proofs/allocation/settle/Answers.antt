use Rattle.host_imports.specs.Faults.{fault_view, trap}
use Rattle.host_imports.proofs.Works.{done_moves, fault_moves, ran_out_moves, moves_then, moves_stop}
use Rattle.host_imports.proofs.Machines.{asks_so}
use Rattle.std.proofs.Common.{refl}
use Rattle.host_imports.proofs.allocation.settle.Goals as goal

pub returns-in-Done-clause-moves : goal.returns-in-Done-clause-moves
returns-in-Done-clause-moves c = λ left. rw c.in-Done.is (done_moves c.in-Done.value)

pub returns-in-Trap-clause-moves : goal.returns-in-Trap-clause-moves
returns-in-Trap-clause-moves c = λ left. rw c.in-Trap.is (fault_moves (trap c.in-Trap.kind) _ refl)

pub returns-in-OutOfGas-clause-moves : goal.returns-in-OutOfGas-clause-moves
returns-in-OutOfGas-clause-moves c = λ left. rw c.in-OutOfGas.is ran_out_moves

pub returns-in-Ok-clause-moves : goal.returns-in-Ok-clause-moves
returns-in-Ok-clause-moves c = λ left.
    let e = rw (c.«module».ensures, c.deref.ensures.value) at c.asked.ensures in
    rw c.in-Ask.is (asks_so c.in-Ask.import c.in-Ask.args.items c.asked.result e (moves_then _ (c.in-Ok.ensures left) (fault_moves (fault_view c.in-Ok.fault) c.in-Ok.fault refl)))

pub returns-clause-moves : goal.returns-clause-moves
returns-clause-moves c = λ left.
    let e = rw (c.«module».ensures, c.deref.ensures.value) at c.asked.ensures in
    rw c.in-Ask.is (asks_so c.in-Ask.import c.in-Ask.args.items c.asked.result e (moves_stop _ c.in-Err.stop (c.in-Err.ensures left)))
