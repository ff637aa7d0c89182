use Rattle.state_tests.proofs.Anyway.{on_ok}
use Rattle.state_tests.proofs.bank.try_burn.Goals as goal

pub returns-in-Err-NotEnough : goal.returns-in-Err-NotEnough
returns-in-Err-NotEnough c = on_ok c.format.result (rw c.in-Err-NotEnough.field-0-is at c.in-Err-NotEnough.ensures.still_lawful)
