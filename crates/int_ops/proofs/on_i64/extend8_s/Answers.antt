use Rattle.std.proofs.Common.{arith}
use mir.Syntax.{w8, w64}
use Rattle.int_ops.proofs.Operations.{iextend_is}
use Rattle.int_ops.proofs.on_i64.extend8_s.Goals as goal

pub returns : goal.returns
returns c =
    iextend_is w8 w64 c.args.a c.cast_signed.result c.from.result c.cast_unsigned.result (omega arith) c.cast_signed.ensures c.from.ensures c.cast_unsigned.ensures
