use Rattle.host_imports.proofs.answering.answer_found.Goals as goal

pub returns-in-Some-clause-moves : goal.returns-in-Some-clause-moves
returns-in-Some-clause-moves c = rw c.in-Some.is (rw c.deref.ensures.value at c.answer_with.ensures.moves)

pub returns-in-None-clause-moves : goal.returns-in-None-clause-moves
returns-in-None-clause-moves c = rw c.in-None.is (c.answer.ensures.moves c.args.meter.now.left)
