use Rattle.std.proofs.Common.{◌<◌, take}
use Rattle.chain_addr.proofs.Grouping.{Holding}
use Rattle.chain_addr.proofs.groups.grouped.Given as goal

abbrev pub invariant-loop-byte : goal.invariant-loop-byte
invariant-loop-byte l = record {
  few : l.bits < 5;
  holds : Holding l.groups.items l.waiting l.bits (take l.byte-index l.bytes);
}
