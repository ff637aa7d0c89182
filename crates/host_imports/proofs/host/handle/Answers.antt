use Rattle.std.proofs.Common.{sym, ◌∙◌, refl}
use Rattle.host_imports.specs.declared.fault.CallFault.TheVariants as call_faults
use Rattle.gas_store.specs.Views.{is_read_only}
use Rattle.wasm_machine.specs.declared.turn.TrapKind.TheVariants.{Unreachable}
use Rattle.host_imports.specs.Faults.{trap}
use Rattle.host_imports.specs.Imports.{setting}
use Rattle.host_imports.specs.Parts.{settled_view}
use Rattle.host_imports.proofs.Works.{moves_does, fault_moves}
use Rattle.host_imports.proofs.Asking.{asked_does}
use Rattle.host_imports.proofs.host.handle.Goals as goal

pub returns-in-None-clause-handled : goal.returns-in-None-clause-handled
returns-in-None-clause-handled g c =
    let e = rw c.«module».ensures at c.asked.ensures in
    (asked_does (setting c.args.costs.now (is_read_only c.args.store.now) c.args.prefix.now) c.args.import c.args.args.now _ (sym c.in-None.is ∙ e) (moves_does (fault_moves {view = settled_view} (trap Unreachable) (call_faults.Trap Unreachable) refl))).does

pub returns-in-Ok-Answered-clause-handled : goal.returns-in-Ok-Answered-clause-handled
returns-in-Ok-Answered-clause-handled g c =
    let e = rw c.«module».ensures at c.asked.ensures in
    (asked_does (setting c.args.costs.now (is_read_only c.args.store.now) c.args.prefix.now) c.args.import c.args.args.now _ (sym c.in-Some.is ∙ e) (rw c.in-Ok-Answered.field-0-is at c.in-Ok-Answered.ensures.does)).does

pub returns-in-Ok-WantsQuery-clause-handled : goal.returns-in-Ok-WantsQuery-clause-handled
returns-in-Ok-WantsQuery-clause-handled g c =
    let e = rw c.«module».ensures at c.asked.ensures in
    (asked_does (setting c.args.costs.now (is_read_only c.args.store.now) c.args.prefix.now) c.args.import c.args.args.now _ (sym c.in-Some.is ∙ e) (rw c.in-Ok-WantsQuery.field-0-is at c.in-Ok-WantsQuery.ensures.does)).does

pub returns-in-Err-Fault-clause-handled : goal.returns-in-Err-Fault-clause-handled
returns-in-Err-Fault-clause-handled g c =
    let e = rw c.«module».ensures at c.asked.ensures in
    (asked_does (setting c.args.costs.now (is_read_only c.args.store.now) c.args.prefix.now) c.args.import c.args.args.now _ (sym c.in-Some.is ∙ e) (rw c.in-Err-Fault.field-0-is at c.in-Err-Fault.ensures.does)).does

pub returns-in-Err-OutOfGas-clause-handled : goal.returns-in-Err-OutOfGas-clause-handled
returns-in-Err-OutOfGas-clause-handled g c =
    let e = rw c.«module».ensures at c.asked.ensures in
    (asked_does (setting c.args.costs.now (is_read_only c.args.store.now) c.args.prefix.now) c.args.import c.args.args.now _ (sym c.in-Some.is ∙ e) (rw c.in-Err-OutOfGas.field-0-is at c.in-Err-OutOfGas.ensures.does)).does
