use Rattle.std.proofs.Common.{arith, refl, w64}
use Rattle.int_ops.specs.Integers.{ieq, ine, ilt_u, igt_u, ile_u, ige_u}
use Rattle.int_ops.proofs.Operations.{test_arm, ilt_s-is, igt_s-is, ile_s-is, ige_s-is}
use Rattle.int_ops.proofs.on_i64.test.Goals as goal

pub returns-in-81 : goal.returns-in-81
unfolding ieq
returns-in-81 c = test_arm 64 81 c.args.op 81 c.args.a c.args.b _ _ c.in-81.is refl refl

pub returns-in-82 : goal.returns-in-82
unfolding ine
returns-in-82 c = test_arm 64 81 c.args.op 82 c.args.a c.args.b _ _ c.in-82.is refl refl

pub returns-in-83 : goal.returns-in-83
returns-in-83 c =
    test_arm 64 81 c.args.op 83 c.args.a c.args.b _ _ c.in-83.is refl
    (ilt_s-is w64 c.args.a c.args.b c.cast_signed.result c.cast_signed-in-83.result (omega arith) (omega arith) c.cast_signed.ensures c.cast_signed-in-83.ensures)

pub returns-in-84 : goal.returns-in-84
unfolding ilt_u
returns-in-84 c = test_arm 64 81 c.args.op 84 c.args.a c.args.b _ _ c.in-84.is refl refl

pub returns-in-85 : goal.returns-in-85
returns-in-85 c =
    test_arm 64 81 c.args.op 85 c.args.a c.args.b _ _ c.in-85.is refl
    (igt_s-is w64 c.args.a c.args.b c.cast_signed-in-85.result c.cast_signed-in-85-2.result (omega arith) (omega arith) c.cast_signed-in-85.ensures c.cast_signed-in-85-2.ensures)

pub returns-in-86 : goal.returns-in-86
unfolding igt_u
returns-in-86 c = test_arm 64 81 c.args.op 86 c.args.a c.args.b _ _ c.in-86.is refl refl

pub returns-in-87 : goal.returns-in-87
returns-in-87 c =
    test_arm 64 81 c.args.op 87 c.args.a c.args.b _ _ c.in-87.is refl
    (ile_s-is w64 c.args.a c.args.b c.cast_signed-in-87.result c.cast_signed-in-87-2.result (omega arith) (omega arith) c.cast_signed-in-87.ensures c.cast_signed-in-87-2.ensures)

pub returns-in-88 : goal.returns-in-88
unfolding ile_u
returns-in-88 c = test_arm 64 81 c.args.op 88 c.args.a c.args.b _ _ c.in-88.is refl refl

pub returns-in-89 : goal.returns-in-89
returns-in-89 c =
    test_arm 64 81 c.args.op 89 c.args.a c.args.b _ _ c.in-89.is refl
    (ige_s-is w64 c.args.a c.args.b c.cast_signed-in-89.result c.cast_signed-in-89-2.result (omega arith) (omega arith) c.cast_signed-in-89.ensures c.cast_signed-in-89-2.ensures)

pub returns-in-90 : goal.returns-in-90
unfolding ige_u
returns-in-90 c = test_arm 64 81 c.args.op 90 c.args.a c.args.b _ _ c.in-90.is refl refl
