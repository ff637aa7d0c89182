use Rattle.std.proofs.Common.{sym, ap₂, ◌∙◌}
use Rattle.int_ops.specs.Numerics.{takes_two}
use Rattle.int_ops.proofs.Tables.{takes_two_is}
use Rattle.int_ops.proofs.instructions.is_binary.Goals as goal

pub returns-in-I32-I32-clause-known : goal.returns-in-I32-I32-clause-known
returns-in-I32-I32-clause-known c =
    c.takes_two.ensures ∙ ap₂ (takes_two c.args.op) (sym c.in-I32-I32.is-0) (sym c.in-I32-I32.is-1)
    ∙ takes_two_is c.args.op c.args.a c.args.b

pub returns-in-I64-I64-clause-known : goal.returns-in-I64-I64-clause-known
returns-in-I64-I64-clause-known c =
    c.takes_two-in-I64-I64.ensures ∙ ap₂ (takes_two c.args.op) (sym c.in-I64-I64.is-0) (sym c.in-I64-I64.is-1)
    ∙ takes_two_is c.args.op c.args.a c.args.b

pub returns-in_default-clause-known : goal.returns-in_default-clause-known
returns-in_default-clause-known c =
    ap₂ (takes_two c.args.op) (sym c.in_default.is-0) (sym c.in_default.is-1) ∙ takes_two_is c.args.op c.args.a c.args.b

pub returns-in_default-2-clause-known : goal.returns-in_default-2-clause-known
returns-in_default-2-clause-known c =
    ap₂ (takes_two c.args.op) (sym c.in_default.is-0) (sym c.in_default.is-1) ∙ takes_two_is c.args.op c.args.a c.args.b
