use Rattle.host_imports.specs.Imports.{db_next}
use Rattle.host_imports.proofs.Works.{moves_does, does_then, does_stop}
use Rattle.host_imports.proofs.scans.db_next.Goals as goal

pub returns-in-Err-clause-does : goal.returns-in-Err-clause-does
unfolding db_next
returns-in-Err-clause-does g c = does_stop _ c.in-Err.stop (c.in-Err.ensures.does c.args.machine.now)

pub returns-in-Ok-spelled-clause-does : goal.returns-in-Ok-spelled-clause-does
unfolding db_next
returns-in-Ok-spelled-clause-does g c =
    let answered = rw (c.deref.ensures.value, c.in-Ok-spelled.ensures) at c.answer_with.ensures.moves in
    does_then _ (c.in-Ok.ensures.does c.args.machine.now) (moves_does answered)
