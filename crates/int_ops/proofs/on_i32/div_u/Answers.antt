use Rattle.int_ops.proofs.Operations.{div_u_is, div_u_by_zero}
use Rattle.int_ops.proofs.on_i32.div_u.Goals as goal

pub returns-then-b-eq0 : goal.returns-then-b-eq0
returns-then-b-eq0 c = div_u_by_zero 32 c.args.a c.args.b c.if-b-eq0.true

pub returns : goal.returns
returns c = div_u_is 32 c.args.a c.args.b c.if-b-eq0.false
