use Rattle.std.proofs.Common.{[], ◌∷◌, ap, ◌∙◌, Ok}
use Rattle.std.specs.Option.{option_map}
use Rattle.int_ops.specs.declared.num.Num.{Num}
use Rattle.int_ops.specs.Numerics.{num}
use Rattle.int_ops.proofs.instructions.unary.Goals as goal

pub returns-in-I32 : goal.returns-in-I32
unfolding num
returns-in-I32 c =
    ap (λ (x : Num). num c.args.op (x ∷ [])) c.in-I32.is ∙ ap (option_map Ok) c.on_one.ensures

pub returns-in-I64 : goal.returns-in-I64
unfolding num
returns-in-I64 c =
    ap (λ (x : Num). num c.args.op (x ∷ [])) c.in-I64.is ∙ ap (option_map Ok) c.on_one-in-I64.ensures
