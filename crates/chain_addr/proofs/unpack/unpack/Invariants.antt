use Rattle.std.proofs.Common.{◌≡◌, ◌+◌, ◌*◌, ◌≤◌, length, map, take}
use Rattle.chain_addr.specs.Reading.{value_of}
use Rattle.chain_addr.proofs.Ungrouping.{Unpacking}
use Rattle.chain_addr.proofs.unpack.unpack.Given as goal

abbrev pub invariant-loop-c : goal.invariant-loop-c
invariant-loop-c l = record {
  counted : 8 * l.count + l.bits ≡ 5 * l.c-index;
  room : l.count ≤ length l.bytes;
  holds : Unpacking (take l.count l.bytes) l.waiting l.bits (map value_of (take l.c-index l.characters));
}
