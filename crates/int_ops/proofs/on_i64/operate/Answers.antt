use Rattle.std.proofs.Common.{arith, refl, sym, ap, ◌∙◌, Ok, w64}
use Rattle.int_ops.proofs.Bitwise.{iand-is, ior-is, ixor-is}
use Rattle.int_ops.proofs.Shifts.{ishl-is, ishr_u-is, irotl-is, irotr-is, ishl-places, ishr_u-places, irotl-places, irotr-places, places_are}
use Rattle.int_ops.proofs.Operations.{operation_arm, iadd-is, isub-is, imul-is, shr_s_is}
use Rattle.int_ops.proofs.on_i64.operate.Goals as goal

pub returns-in-124 : goal.returns-in-124
returns-in-124 c =
    operation_arm 64 124 c.args.op 124 c.args.a c.args.b _ _ c.in-124.is refl (ap Ok (iadd-is 64 c.args.a c.args.b))

pub returns-in-125 : goal.returns-in-125
returns-in-125 c =
    operation_arm 64 124 c.args.op 125 c.args.a c.args.b _ _ c.in-125.is refl
    (ap Ok (isub-is 64 c.args.a c.args.b (omega arith)))

pub returns-in-126 : goal.returns-in-126
returns-in-126 c =
    operation_arm 64 124 c.args.op 126 c.args.a c.args.b _ _ c.in-126.is refl (ap Ok (imul-is 64 c.args.a c.args.b))

pub returns-in-131 : goal.returns-in-131
returns-in-131 c =
    operation_arm 64 124 c.args.op 131 c.args.a c.args.b _ _ c.in-131.is refl
    (ap Ok (iand-is 64 c.args.a c.args.b (omega arith)))

pub returns-in-132 : goal.returns-in-132
returns-in-132 c =
    operation_arm 64 124 c.args.op 132 c.args.a c.args.b _ _ c.in-132.is refl
    (ap Ok (ior-is 64 c.args.a c.args.b (omega arith) (omega arith)))

pub returns-in-133 : goal.returns-in-133
returns-in-133 c =
    operation_arm 64 124 c.args.op 133 c.args.a c.args.b _ _ c.in-133.is refl
    (ap Ok (ixor-is 64 c.args.a c.args.b (omega arith) (omega arith)))

pub returns-in-134 : goal.returns-in-134
returns-in-134 c =
    operation_arm 64 124 c.args.op 134 c.args.a c.args.b _ _ c.in-134.is refl
    (ap Ok (ishl-places 64 c.args.a c.args.b c.count.result (places_are 64 c.args.b c.count.result c.count.ensures) ∙ ishl-is 64 c.args.a c.count.result (omega arith) ∙ sym c.wrapping_shl.ensures))

pub returns-in-135 : goal.returns-in-135
returns-in-135 c =
    operation_arm 64 124 c.args.op 135 c.args.a c.args.b _ _ c.in-135.is refl
    (ap Ok (shr_s_is w64 c.args.a c.args.b c.count-in-135.result c.cast_signed.result c.wrapping_shr.result c.cast_unsigned.result (omega arith) (places_are 64 c.args.b c.count-in-135.result c.count-in-135.ensures)
    c.cast_signed.ensures c.wrapping_shr.ensures (omega arith) c.cast_unsigned.ensures))

pub returns-in-136 : goal.returns-in-136
returns-in-136 c =
    operation_arm 64 124 c.args.op 136 c.args.a c.args.b _ _ c.in-136.is refl
    (ap Ok (ishr_u-places 64 c.args.a c.args.b c.count-in-136.result (places_are 64 c.args.b c.count-in-136.result c.count-in-136.ensures) ∙ ishr_u-is 64 c.args.a c.count-in-136.result (omega arith) (omega arith) ∙ sym c.wrapping_shr-in-136.ensures))

pub returns-in-137 : goal.returns-in-137
returns-in-137 c =
    operation_arm 64 124 c.args.op 137 c.args.a c.args.b _ _ c.in-137.is refl
    (ap Ok (irotl-places 64 c.args.a c.args.b c.count-in-137.result (places_are 64 c.args.b c.count-in-137.result c.count-in-137.ensures) ∙ irotl-is 64 c.args.a c.count-in-137.result (omega arith) (omega arith) ∙ sym c.rotate_left.ensures))

pub returns-in-138 : goal.returns-in-138
returns-in-138 c =
    operation_arm 64 124 c.args.op 138 c.args.a c.args.b _ _ c.in-138.is refl
    (ap Ok (irotr-places 64 c.args.a c.args.b c.count-in-138.result (places_are 64 c.args.b c.count-in-138.result c.count-in-138.ensures) ∙ irotr-is 64 c.args.a c.count-in-138.result (omega arith) (omega arith) ∙ sym c.rotate_right.ensures))
