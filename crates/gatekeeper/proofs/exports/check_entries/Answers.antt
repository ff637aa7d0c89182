use Rattle.gatekeeper.proofs.exports.check_entries.Goals as goal

pub returns : goal.returns
returns c = rw c.deref-2.ensures.value at c.judge_entries.ensures
