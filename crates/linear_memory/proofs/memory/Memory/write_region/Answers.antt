use Rattle.std.proofs.Common.{arith, length, ap, ap₂, sym, ◌∙◌, ◌+◌, Ok, List, ℕ}
use Rattle.linear_memory.specs.Numbers.{overwritten, bytes_of}
use Rattle.linear_memory.proofs.RegionSteps.{write_bad, write_end, write_long, write_ok}
use Rattle.linear_memory.proofs.memory.Memory.write_region.Goals as goal

pub returns-in-Err-clause-bad : goal.returns-in-Err-clause-bad
returns-in-Err-clause-bad c =
    write_bad c.args.self.now c.args.pointer c.args.bytes.now c.in-Err.bad (sym c.region.ensures ∙ c.in-Err.is)

pub returns-then-end-bytes-clause-bad : goal.returns-then-end-bytes-clause-bad
returns-then-end-bytes-clause-bad c =
    write_end c.args.self.now c.args.pointer c.args.bytes.now c.in-Ok.region (sym c.region.ensures ∙ c.in-Ok.is) (omega (arith, ap length c.bytes.ensures))

pub returns-then-length-limit-clause-bad : goal.returns-then-length-limit-clause-bad
returns-then-length-limit-clause-bad c =
    write_long c.args.self.now c.args.pointer c.args.bytes.now c.in-Ok.region (sym c.region.ensures ∙ c.in-Ok.is) (omega (arith, ap length c.bytes.ensures)) c.if-length-limit.true

pub returns-clause-ok : goal.returns-clause-ok
returns-clause-ok c =
    write_ok c.args.self.now c.args.pointer c.args.bytes.now c.in-Ok.region (sym c.region.ensures ∙ c.in-Ok.is)
    (omega (arith, ap length c.bytes.ensures)) c.if-length-limit.false
    ∙ ap Ok (sym (c.put-2.ensures.bytes
    ∙ ap₂ (λ (memory bytes : List ℕ). overwritten memory (c.args.pointer + 8) bytes) c.put.ensures.bytes (c.bytes32.ensures ∙ ap (bytes_of 4) c.from-2.ensures)))
