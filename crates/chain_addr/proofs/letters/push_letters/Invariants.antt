use Rattle.std.proofs.Common.{◌≡◌, ◌++◌, map, take, string_bytes}
use Rattle.chain_addr.specs.Letters.{letter_of}
use Rattle.chain_addr.proofs.letters.push_letters.Given as goal

abbrev pub invariant-loop-value : goal.invariant-loop-value
invariant-loop-value l = string_bytes l.text ≡ string_bytes l.initial.text ++ map letter_of (take l.value-index l.values)
