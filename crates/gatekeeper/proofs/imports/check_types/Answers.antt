use Rattle.gatekeeper.proofs.imports.check_types.Goals as goal

pub returns : goal.returns
returns c = rw c.deref.ensures.value at c.judge_all.ensures
