use Rattle.std.proofs.Common.{ℕ, arith, refl, sym, ap, ◌∙◌}
use Rattle.int_ops.specs.declared.num.Num.TheVariants.{I64}
use Rattle.int_ops.specs.Integers.{ieqz}
use Rattle.int_ops.specs.Numerics.{on_i64}
use Rattle.int_ops.proofs.Bitwise.{iclz-is, ictz-is, ipopcnt-is}
use Rattle.int_ops.proofs.Operations.{one_arm}
use Rattle.int_ops.proofs.on_i64.on_one.Goals as goal

pub returns-in-80 : goal.returns-in-80
unfolding ieqz
returns-in-80 c = one_arm (λ (op : ℕ). on_i64 op c.args.a) c.args.op 80 _ _ c.in-80.is refl (sym c.truth.ensures)

pub returns-in-121 : goal.returns-in-121
returns-in-121 c =
    one_arm (λ (op : ℕ). on_i64 op c.args.a) c.args.op 121 _ _ c.in-121.is refl (ap I64 (iclz-is 64 c.args.a (omega arith) ∙ sym c.from.ensures))

pub returns-in-122 : goal.returns-in-122
returns-in-122 c =
    one_arm (λ (op : ℕ). on_i64 op c.args.a) c.args.op 122 _ _ c.in-122.is refl (ap I64 (ictz-is 64 c.args.a ∙ sym c.from-in-122.ensures))

pub returns-in-123 : goal.returns-in-123
returns-in-123 c =
    one_arm (λ (op : ℕ). on_i64 op c.args.a) c.args.op 123 _ _ c.in-123.is refl (ap I64 (ipopcnt-is 64 c.args.a (omega arith) ∙ sym c.from-in-123.ensures))
