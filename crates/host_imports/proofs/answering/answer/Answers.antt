use Rattle.host_imports.proofs.Machines.{answered_so}
use Rattle.host_imports.proofs.answering.answer.Goals as goal

pub returns-clause-moves : goal.returns-clause-moves
returns-clause-moves c = λ left. answered_so c.args.value c.resume.ensures.stands c.resume.ensures.module
