use Rattle.std.proofs.Common.{ap, ◌∙◌, ◌^◌, ◌-◌}
use lib.Bits.{bit_and, and_mask}
use Rattle.linear_memory.specs.Numbers.{bytes_of}
use Rattle.linear_memory.proofs.LittleEndian.{to_le-is, bytes_of-mod}
use Rattle.linear_memory.proofs.numbers.bytes32.Goals as goal

pub returns : goal.returns
returns c =
    c.to_le_bytes.ensures ∙ to_le-is 4 (bit_and c.args.value (2 ^ 32 - 1)) ∙ ap (bytes_of 4) (and_mask c.args.value 32) ∙ bytes_of-mod 4 c.args.value
