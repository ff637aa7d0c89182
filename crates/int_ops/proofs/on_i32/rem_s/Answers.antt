use Rattle.std.proofs.Common.{arith, w32}
use Rattle.int_ops.proofs.Operations.{rem_s_is, rem_s_by_zero}
use Rattle.int_ops.proofs.on_i32.rem_s.Goals as goal

pub returns-then-b-eq0 : goal.returns-then-b-eq0
returns-then-b-eq0 c = rem_s_by_zero 32 c.args.a c.args.b c.if-b-eq0.true

pub returns : goal.returns
returns c =
    rem_s_is w32 c.args.a c.args.b c.cast_signed.result c.cast_signed-2.result c.wrapping_rem-remainder.result c.cast_unsigned.result
    (omega arith) (omega arith) c.if-b-eq0.false
    c.cast_signed.ensures c.cast_signed-2.ensures (omega arith) c.wrapping_rem-remainder.ensures c.cast_unsigned.ensures
