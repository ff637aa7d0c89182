use Rattle.std.proofs.Common.{map, string_bytes}
use Rattle.gatekeeper.specs.declared.code.ValidCode.{ValidCode}
use Rattle.gatekeeper.proofs.Judged.{bytes_refuse, reading_refuses, taken}
use Rattle.gatekeeper.proofs.gate.check.Goals as goal

pub returns-in-Err-clause-judged : goal.returns-in-Err-clause-judged
returns-in-Err-clause-judged c = bytes_refuse (Unit {0}) ValidCode c.args.code.items (map string_bytes c.args.caps.now) c.in-Err.stop (rw c.deref.ensures.value at c.in-Err.ensures)

pub of_checked-requires : goal.of_checked-requires
of_checked-requires c =
    c.taken_is_accepted.ensures c.args.code.items (map string_bytes c.args.caps.now) (taken c.args.code.items (map string_bytes c.args.caps.now) (rw c.deref.ensures.value at c.in-Ok.ensures) (rw c.deref-2.ensures.value at c.in-Ok-check_reading.ensures))

pub returns-in_ok-of_checked-in-Ok-check_reading-clause-judged : goal.returns-in_ok-of_checked-in-Ok-check_reading-clause-judged
returns-in_ok-of_checked-in-Ok-check_reading-clause-judged c =
    taken c.args.code.items (map string_bytes c.args.caps.now) (rw c.deref.ensures.value at c.in-Ok.ensures) (rw c.deref-2.ensures.value at c.in-Ok-check_reading.ensures)

pub returns-in-Err-check_reading-clause-judged : goal.returns-in-Err-check_reading-clause-judged
returns-in-Err-check_reading-clause-judged c =
    reading_refuses (Unit {0}) ValidCode c.args.code.items (map string_bytes c.args.caps.now) c.in-Err-check_reading.stop (rw c.deref.ensures.value at c.in-Ok.ensures) (rw c.deref-2.ensures.value at c.in-Err-check_reading.ensures)
