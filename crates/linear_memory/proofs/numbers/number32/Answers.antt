use Rattle.std.proofs.Common.{length, ap, ◌∙◌}
use Rattle.linear_memory.specs.Numbers.{number_of}
use Rattle.linear_memory.proofs.LittleEndian.{number_of_four}
use Rattle.linear_memory.proofs.numbers.number32.Goals as goal

pub returns : goal.returns
returns c =
    let whole = rw c.unwrap.ensures at c.as_array.ensures.cases in
    c.from_le_bytes.ensures ∙ number_of_four c.unwrap.result.now (ap length whole.same ∙ whole.long) ∙ ap number_of whole.same
