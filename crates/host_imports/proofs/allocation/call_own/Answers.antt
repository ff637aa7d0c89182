use Rattle.std.proofs.Common.{sym, ◌∙◌}
use Rattle.host_imports.proofs.Machines.{own_called, own_missing}
use Rattle.host_imports.proofs.allocation.call_own.Goals as goal

pub returns-in-Some-clause-moves : goal.returns-in-Some-clause-moves
returns-in-Some-clause-moves c =
    own_called c.args.costs.now c.args.name.now c.args.args.now c.in-Some.func (sym (rw c.«module».ensures at c.exported_function.ensures) ∙ c.in-Some.is) c.run_function.ensures.moves

pub returns-in-None-clause-moves : goal.returns-in-None-clause-moves
returns-in-None-clause-moves c = own_missing c.args.costs.now c.args.name.now c.args.args.now (sym (rw c.«module».ensures at c.exported_function.ensures) ∙ c.in-None.is)
