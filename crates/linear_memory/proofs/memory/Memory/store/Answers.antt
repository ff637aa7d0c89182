use Rattle.std.proofs.Common.{ap, ◌∙◌}
use Rattle.linear_memory.specs.Numbers.{overwritten}
use Rattle.linear_memory.proofs.LittleEndian.{bytes_of_one}
use Rattle.linear_memory.proofs.memory.Memory.store.Goals as goal

pub returns-in-1-clause-ok : goal.returns-in-1-clause-ok
returns-in-1-clause-ok c =
    c.put.ensures.bytes ∙ ap (overwritten c.args.self.now c.args.at) (bytes_of_one c.args.width c.args.value c.in-1.is)
