use Rattle.int_ops.proofs.Operations.{rem_u_is, rem_u_by_zero}
use Rattle.int_ops.proofs.on_i64.rem_u.Goals as goal

pub returns-then-b-eq0 : goal.returns-then-b-eq0
returns-then-b-eq0 c = rem_u_by_zero 64 c.args.a c.args.b c.if-b-eq0.true

pub returns : goal.returns
returns c = rem_u_is 64 c.args.a c.args.b c.if-b-eq0.false
