use Rattle.std.proofs.Common.{◌∙◌}
use Rattle.linear_memory.proofs.LittleEndian.{to_le-is}
use Rattle.linear_memory.proofs.numbers.bytes64.Goals as goal

pub returns : goal.returns
returns c = c.to_le_bytes.ensures ∙ to_le-is 8 c.args.value
