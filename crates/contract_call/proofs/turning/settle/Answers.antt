use Rattle.std.proofs.Common.{refl, Some}
use Rattle.gas_store.specs.Views.{is_read_only}
use Rattle.host_imports.specs.Faults.{trap}
use Rattle.host_imports.specs.Imports.{setting}
use Rattle.contract_call.specs.declared.stop.Pause.TheVariants.{Finished}
use Rattle.contract_call.proofs.Works.{moves_then, moves_stop, moves_does, done_moves, fault_moves, ran_out_moves}
use Rattle.contract_call.proofs.Turns.{answered_does, query_does, fault_does, ran_out_does}
use Rattle.contract_call.proofs.turning.settle.Goals as goal

pub returns-in-Ok-clause-does : goal.returns-in-Ok-clause-does
returns-in-Ok-clause-does g c = rw c.in-Done.is (moves_does (moves_then _ c.in-Ok.ensures.moves (done_moves (Some (Finished c.in-Ok.bytes)))))

pub returns-in-Done-clause-does : goal.returns-in-Done-clause-does
returns-in-Done-clause-does g c = rw c.in-Done.is (moves_does (moves_stop _ c.in-Err.stop c.in-Err.ensures.moves))

pub returns-in-Trap-clause-does : goal.returns-in-Trap-clause-does
returns-in-Trap-clause-does g c = rw c.in-Trap.is (moves_does (fault_moves (trap c.in-Trap.kind) _ refl))

pub returns-in-OutOfGas-clause-does : goal.returns-in-OutOfGas-clause-does
returns-in-OutOfGas-clause-does g c = rw c.in-OutOfGas.is (moves_does ran_out_moves)

pub returns-in-Ok-Answered-clause-does : goal.returns-in-Ok-Answered-clause-does
returns-in-Ok-Answered-clause-does g c =
    let h = rw (c.in-Ok-Answered.field-0-is, c.deref.ensures.value) at c.in-Ok-Answered.ensures.handled in
    rw c.in-Ask.is (answered_does (setting c.args.costs.now (is_read_only c.args.store.now) c.args.prefix.now) c.in-Ask.import c.in-Ask.args.items h)

pub returns-in-Ok-WantsQuery-clause-does : goal.returns-in-Ok-WantsQuery-clause-does
returns-in-Ok-WantsQuery-clause-does g c =
    let h = rw (c.in-Ok-WantsQuery.field-0-is, c.deref.ensures.value) at c.in-Ok-WantsQuery.ensures.handled in
    rw c.in-Ask.is (query_does (setting c.args.costs.now (is_read_only c.args.store.now) c.args.prefix.now) c.in-Ask.import c.in-Ask.args.items c.in-Ok-WantsQuery.request h)

pub returns-in-Ok-Fault-clause-does : goal.returns-in-Ok-Fault-clause-does
returns-in-Ok-Fault-clause-does g c =
    let h = rw (c.in-Ok-Fault.field-0-is, c.deref.ensures.value) at c.in-Ok-Fault.ensures.handled in
    rw c.in-Ask.is (fault_does (setting c.args.costs.now (is_read_only c.args.store.now) c.args.prefix.now) c.in-Ask.import c.in-Ask.args.items c.in-Ok-Fault.fault h)

pub returns-in-Ok-OutOfGas-clause-does : goal.returns-in-Ok-OutOfGas-clause-does
returns-in-Ok-OutOfGas-clause-does g c =
    let h = rw (c.in-Ok-OutOfGas.field-0-is, c.deref.ensures.value) at c.in-Ok-OutOfGas.ensures.handled in
    rw c.in-Ask.is (ran_out_does (setting c.args.costs.now (is_read_only c.args.store.now) c.args.prefix.now) c.in-Ask.import c.in-Ask.args.items h)
