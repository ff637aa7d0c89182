use Rattle.std.proofs.Common.{◌∙◌, sym, ap}
use Rattle.host_imports.specs.Faults.{no_entry}
use Rattle.contract_call.proofs.Machines.{entry_found, no_entry_found}
use Rattle.contract_call.proofs.entering.entry_point.Goals as goal

pub returns-in-Some : goal.returns-in-Some
returns-in-Some c = λ left.
    rw (← c.entry_name-name.ensures) (entry_found c.entry_name-name.result.now c.in-Some.func (sym (rw c.«module».ensures at c.exported_function.ensures) ∙ c.in-Some.is))

pub returns-in-Ok : goal.returns-in-Ok
returns-in-Ok c = λ left.
    rw (← c.entry_name-name.ensures) (no_entry_found c.entry_name-name.result.now _ (sym (rw c.«module».ensures at c.exported_function.ensures) ∙ c.in-None.is) (ap no_entry c.in-Ok.ensures.ok))
