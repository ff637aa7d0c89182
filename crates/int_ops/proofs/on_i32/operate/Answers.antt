use Rattle.std.proofs.Common.{arith, refl, sym, ap, ◌∙◌, Ok, w32}
use Rattle.int_ops.proofs.Bitwise.{iand-is, ior-is, ixor-is}
use Rattle.int_ops.proofs.Shifts.{ishl-is, ishr_u-is, irotl-is, irotr-is}
use Rattle.int_ops.proofs.Operations.{operation_arm, iadd-is, isub-is, imul-is, shr_s_is}
use Rattle.int_ops.proofs.on_i32.operate.Goals as goal

pub returns-in-106 : goal.returns-in-106
returns-in-106 c =
    operation_arm 32 106 c.args.op 106 c.args.a c.args.b _ _ c.in-106.is refl (ap Ok (iadd-is 32 c.args.a c.args.b))

pub returns-in-107 : goal.returns-in-107
returns-in-107 c =
    operation_arm 32 106 c.args.op 107 c.args.a c.args.b _ _ c.in-107.is refl
    (ap Ok (isub-is 32 c.args.a c.args.b (omega arith)))

pub returns-in-108 : goal.returns-in-108
returns-in-108 c =
    operation_arm 32 106 c.args.op 108 c.args.a c.args.b _ _ c.in-108.is refl (ap Ok (imul-is 32 c.args.a c.args.b))

pub returns-in-113 : goal.returns-in-113
returns-in-113 c =
    operation_arm 32 106 c.args.op 113 c.args.a c.args.b _ _ c.in-113.is refl
    (ap Ok (iand-is 32 c.args.a c.args.b (omega arith)))

pub returns-in-114 : goal.returns-in-114
returns-in-114 c =
    operation_arm 32 106 c.args.op 114 c.args.a c.args.b _ _ c.in-114.is refl
    (ap Ok (ior-is 32 c.args.a c.args.b (omega arith) (omega arith)))

pub returns-in-115 : goal.returns-in-115
returns-in-115 c =
    operation_arm 32 106 c.args.op 115 c.args.a c.args.b _ _ c.in-115.is refl
    (ap Ok (ixor-is 32 c.args.a c.args.b (omega arith) (omega arith)))

pub returns-in-116 : goal.returns-in-116
returns-in-116 c =
    operation_arm 32 106 c.args.op 116 c.args.a c.args.b _ _ c.in-116.is refl
    (ap Ok (ishl-is 32 c.args.a c.args.b (omega arith) ∙ sym c.wrapping_shl.ensures))

pub returns-in-117 : goal.returns-in-117
returns-in-117 c =
    operation_arm 32 106 c.args.op 117 c.args.a c.args.b _ _ c.in-117.is refl
    (ap Ok (shr_s_is w32 c.args.a c.args.b c.args.b c.cast_signed.result c.wrapping_shr.result c.cast_unsigned.result (omega arith) refl
    c.cast_signed.ensures c.wrapping_shr.ensures (omega arith) c.cast_unsigned.ensures))

pub returns-in-118 : goal.returns-in-118
returns-in-118 c =
    operation_arm 32 106 c.args.op 118 c.args.a c.args.b _ _ c.in-118.is refl
    (ap Ok (ishr_u-is 32 c.args.a c.args.b (omega arith) (omega arith) ∙ sym c.wrapping_shr-in-118.ensures))

pub returns-in-119 : goal.returns-in-119
returns-in-119 c =
    operation_arm 32 106 c.args.op 119 c.args.a c.args.b _ _ c.in-119.is refl
    (ap Ok (irotl-is 32 c.args.a c.args.b (omega arith) (omega arith) ∙ sym c.rotate_left.ensures))

pub returns-in-120 : goal.returns-in-120
returns-in-120 c =
    operation_arm 32 106 c.args.op 120 c.args.a c.args.b _ _ c.in-120.is refl
    (ap Ok (irotr-is 32 c.args.a c.args.b (omega arith) (omega arith) ∙ sym c.rotate_right.ensures))
