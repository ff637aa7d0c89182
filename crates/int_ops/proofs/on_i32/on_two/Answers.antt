use Rattle.std.proofs.Common.{arith}
use Rattle.int_ops.specs.declared.num.Num.TheVariants.{I32}
use Rattle.int_ops.specs.Numerics.{num, test_of, operation_of}
use Rattle.int_ops.proofs.Operations.{no_test, two_tested, two_operated}
use Rattle.int_ops.proofs.on_i32.on_two.Goals as goal

pub returns-then-op-le79 : goal.returns-then-op-le79
unfolding num
returns-then-op-le79 c =
    two_tested (test_of 32 70 c.args.op c.args.a c.args.b) (operation_of 32 106 c.args.op c.args.a c.args.b) I32 c.test.result c.truth.result
    c.test.ensures c.truth.ensures

pub returns-in-Ok : goal.returns-in-Ok
unfolding num
returns-in-Ok c =
    two_operated (test_of 32 70 c.args.op c.args.a c.args.b) (operation_of 32 106 c.args.op c.args.a c.args.b) I32 _
    (no_test 32 70 c.args.op c.args.a c.args.b (omega arith)) c.in-Ok.ensures

pub returns-in-Err : goal.returns-in-Err
unfolding num
returns-in-Err c =
    two_operated (test_of 32 70 c.args.op c.args.a c.args.b) (operation_of 32 106 c.args.op c.args.a c.args.b) I32 _
    (no_test 32 70 c.args.op c.args.a c.args.b (omega arith)) c.in-Err.ensures
