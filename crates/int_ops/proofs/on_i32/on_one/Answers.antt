use Rattle.std.proofs.Common.{ℕ, arith, refl, sym, ap}
use Rattle.int_ops.specs.declared.num.Num.TheVariants.{I32}
use Rattle.int_ops.specs.Integers.{ieqz}
use Rattle.int_ops.specs.Numerics.{on_i32}
use Rattle.int_ops.proofs.Bitwise.{iclz-is, ictz-is, ipopcnt-is}
use Rattle.int_ops.proofs.Operations.{one_arm}
use Rattle.int_ops.proofs.on_i32.on_one.Goals as goal

pub returns-in-69 : goal.returns-in-69
unfolding ieqz
returns-in-69 c = one_arm (λ (op : ℕ). on_i32 op c.args.a) c.args.op 69 _ _ c.in-69.is refl (sym c.truth.ensures)

pub returns-in-103 : goal.returns-in-103
returns-in-103 c =
    one_arm (λ (op : ℕ). on_i32 op c.args.a) c.args.op 103 _ _ c.in-103.is refl (ap I32 (iclz-is 32 c.args.a (omega arith)))

pub returns-in-104 : goal.returns-in-104
returns-in-104 c =
    one_arm (λ (op : ℕ). on_i32 op c.args.a) c.args.op 104 _ _ c.in-104.is refl (ap I32 (ictz-is 32 c.args.a))

pub returns-in-105 : goal.returns-in-105
returns-in-105 c =
    one_arm (λ (op : ℕ). on_i32 op c.args.a) c.args.op 105 _ _ c.in-105.is refl (ap I32 (ipopcnt-is 32 c.args.a (omega arith)))
