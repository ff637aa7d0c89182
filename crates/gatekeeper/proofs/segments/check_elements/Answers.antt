use Rattle.gatekeeper.proofs.segments.check_elements.Goals as goal

pub returns : goal.returns
returns c = rw c.deref.ensures.value at c.judge_all.ensures
