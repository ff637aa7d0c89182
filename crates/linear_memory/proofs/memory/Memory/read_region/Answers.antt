use Rattle.std.proofs.Common.{arith, length, ap, sym, refl, ◌∙◌, Ok, List, ℕ, ◌+◌}
use Rattle.std.specs.Prelude.{slice_range}
use Rattle.linear_memory.proofs.RegionSteps.{read_bad, read_end, read_long, read_ok}
use Rattle.linear_memory.proofs.memory.Memory.read_region.Goals as goal

pub returns-in-Err : goal.returns-in-Err
returns-in-Err c = read_bad c.args.self.now c.args.pointer c.args.limit c.in-Err.bad (sym c.region.ensures ∙ c.in-Err.is)

pub returns-then-end-bytes : goal.returns-then-end-bytes
returns-then-end-bytes c =
    read_end c.args.self.now c.args.pointer c.args.limit c.in-Ok.region (sym c.region.ensures ∙ c.in-Ok.is) (omega (arith, ap length c.bytes.ensures))

pub returns-then-region-limit : goal.returns-then-region-limit
returns-then-region-limit c =
    read_long c.args.self.now c.args.pointer c.args.limit c.in-Ok.region (sym c.region.ensures ∙ c.in-Ok.is) (omega (arith, ap length c.bytes.ensures)) c.if-region-limit.true

pub returns-in-Ok-from_slice : goal.returns-in-Ok-from_slice
returns-in-Ok-from_slice c =
    read_ok c.args.self.now c.args.pointer c.args.limit c.in-Ok.region (sym c.region.ensures ∙ c.in-Ok.is)
    (omega (arith, ap length c.bytes.ensures)) c.if-region-limit.false
    ∙ ap Ok (ap (λ (memory : List ℕ). slice_range memory c.in-Ok.region.offset (c.in-Ok.region.offset + c.in-Ok.region.length)) (sym c.bytes-2.ensures)
    ∙ sym c.in-Ok-from_slice.ensures.items)

pub returns-in-Err-from_slice : goal.returns-in-Err-from_slice
returns-in-Err-from_slice c =
    rw (read_ok c.args.self.now c.args.pointer c.args.limit c.in-Ok.region (sym c.region.ensures ∙ c.in-Ok.is)
    (omega (arith, ap length c.bytes.ensures)) c.if-region-limit.false) refl
