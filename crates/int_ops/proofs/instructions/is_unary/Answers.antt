use Rattle.std.proofs.Common.{sym, ap, ◌∙◌}
use Rattle.int_ops.specs.Numerics.{takes_one}
use Rattle.int_ops.proofs.Tables.{takes_one_is}
use Rattle.int_ops.proofs.instructions.is_unary.Goals as goal

pub returns-in-I32-clause-known : goal.returns-in-I32-clause-known
returns-in-I32-clause-known c =
    c.takes_one.ensures ∙ ap (takes_one c.args.op) (sym c.in-I32.is) ∙ takes_one_is c.args.op c.args.a

pub returns-in-I64-clause-known : goal.returns-in-I64-clause-known
returns-in-I64-clause-known c =
    c.takes_one-in-I64.ensures ∙ ap (takes_one c.args.op) (sym c.in-I64.is) ∙ takes_one_is c.args.op c.args.a
