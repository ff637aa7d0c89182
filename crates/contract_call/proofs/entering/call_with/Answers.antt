use Rattle.contract_call.proofs.Machines.{called_so}
use Rattle.contract_call.proofs.entering.call_with.Goals as goal

pub returns-in-Ok-clause-moves : goal.returns-in-Ok-clause-moves
returns-in-Ok-clause-moves c = λ left. called_so c.args.func c.args.values.now c.in-Ok.ensures.stands c.in-Ok.ensures.module
