use Rattle.host_imports.proofs.Machines.{nothing_given, something_given}
use Rattle.host_imports.proofs.allocation.nothing_of.Goals as goal

pub returns-in-None : goal.returns-in-None
returns-in-None c = λ machine left. nothing_given c.args.value c.in-None.is

pub returns-in-Some : goal.returns-in-Some
returns-in-Some c = λ machine left. something_given c.args.value c.in-Some.field-0 c.in-Some.is
