use Rattle.std.proofs.Common.{arith, w64}
use Rattle.int_ops.proofs.Operations.{div_s_is, div_s_by_zero, div_s_overflow64}
use Rattle.int_ops.proofs.on_i64.div_s.Goals as goal
use Rattle.int_ops.proofs.on_i64.div_s.Goals.{else-a-via-then-a+else-b-eq18446744073709551615, else-a-via-else-a}

pub returns-then-b-eq0 : goal.returns-then-b-eq0
returns-then-b-eq0 c = div_s_by_zero 64 c.args.a c.args.b c.if-b-eq0.true

pub returns-then-b-eq18446744073709551615 : goal.returns-then-b-eq18446744073709551615
returns-then-b-eq18446744073709551615 c = div_s_overflow64 c.args.a c.args.b c.if-a.true c.if-b-eq18446744073709551615.true

pub returns : goal.returns
returns c =
    div_s_is w64 c.args.a c.args.b c.cast_signed.result c.cast_signed-2.result c.wrapping_div-quotient.result c.cast_unsigned.result
    (omega arith) (omega arith) c.if-b-eq0.false
    (λ e f. elim c.else-a.branch [
      | else-a-via-then-a+else-b-eq18446744073709551615 w ↦ w.if-b-eq18446744073709551615.false f
      | else-a-via-else-a w ↦ w.if-a.false e
    ])
    c.cast_signed.ensures c.cast_signed-2.ensures c.wrapping_div-quotient.ensures c.cast_unsigned.ensures
