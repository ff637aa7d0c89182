use Rattle.contract_call.proofs.Machines.{none_given}
use Rattle.contract_call.proofs.handing.pointer_of.Goals as goal

pub returns-in-Some : goal.returns-in-Some
returns-in-Some c = rw c.in-Some.is c.pointer_in.ensures

pub returns-in-None : goal.returns-in-None
returns-in-None c = λ machine left. none_given c.args.value c.in-None.is
