use Rattle.std.proofs.Common.{arith, refl, w32}
use Rattle.int_ops.specs.Integers.{ieq, ine, ilt_u, igt_u, ile_u, ige_u}
use Rattle.int_ops.proofs.Operations.{test_arm, ilt_s-is, igt_s-is, ile_s-is, ige_s-is}
use Rattle.int_ops.proofs.on_i32.test.Goals as goal

pub returns-in-70 : goal.returns-in-70
unfolding ieq
returns-in-70 c = test_arm 32 70 c.args.op 70 c.args.a c.args.b _ _ c.in-70.is refl refl

pub returns-in-71 : goal.returns-in-71
unfolding ine
returns-in-71 c = test_arm 32 70 c.args.op 71 c.args.a c.args.b _ _ c.in-71.is refl refl

pub returns-in-72 : goal.returns-in-72
returns-in-72 c =
    test_arm 32 70 c.args.op 72 c.args.a c.args.b _ _ c.in-72.is refl
    (ilt_s-is w32 c.args.a c.args.b c.cast_signed.result c.cast_signed-in-72.result (omega arith) (omega arith) c.cast_signed.ensures c.cast_signed-in-72.ensures)

pub returns-in-73 : goal.returns-in-73
unfolding ilt_u
returns-in-73 c = test_arm 32 70 c.args.op 73 c.args.a c.args.b _ _ c.in-73.is refl refl

pub returns-in-74 : goal.returns-in-74
returns-in-74 c =
    test_arm 32 70 c.args.op 74 c.args.a c.args.b _ _ c.in-74.is refl
    (igt_s-is w32 c.args.a c.args.b c.cast_signed-in-74.result c.cast_signed-in-74-2.result (omega arith) (omega arith) c.cast_signed-in-74.ensures c.cast_signed-in-74-2.ensures)

pub returns-in-75 : goal.returns-in-75
unfolding igt_u
returns-in-75 c = test_arm 32 70 c.args.op 75 c.args.a c.args.b _ _ c.in-75.is refl refl

pub returns-in-76 : goal.returns-in-76
returns-in-76 c =
    test_arm 32 70 c.args.op 76 c.args.a c.args.b _ _ c.in-76.is refl
    (ile_s-is w32 c.args.a c.args.b c.cast_signed-in-76.result c.cast_signed-in-76-2.result (omega arith) (omega arith) c.cast_signed-in-76.ensures c.cast_signed-in-76-2.ensures)

pub returns-in-77 : goal.returns-in-77
unfolding ile_u
returns-in-77 c = test_arm 32 70 c.args.op 77 c.args.a c.args.b _ _ c.in-77.is refl refl

pub returns-in-78 : goal.returns-in-78
returns-in-78 c =
    test_arm 32 70 c.args.op 78 c.args.a c.args.b _ _ c.in-78.is refl
    (ige_s-is w32 c.args.a c.args.b c.cast_signed-in-78.result c.cast_signed-in-78-2.result (omega arith) (omega arith) c.cast_signed-in-78.ensures c.cast_signed-in-78-2.ensures)

pub returns-in-79 : goal.returns-in-79
unfolding ige_u
returns-in-79 c = test_arm 32 70 c.args.op 79 c.args.a c.args.b _ _ c.in-79.is refl refl
