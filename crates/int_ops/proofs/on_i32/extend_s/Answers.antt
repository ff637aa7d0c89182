use Rattle.std.proofs.Common.{arith, w32, w64}
use Rattle.int_ops.proofs.Operations.{extended_is}
use Rattle.int_ops.proofs.on_i32.extend_s.Goals as goal

pub returns : goal.returns
returns c =
    extended_is w32 w64 c.args.a c.cast_signed.result c.from.result c.cast_unsigned.result (omega arith) (omega arith) c.cast_signed.ensures c.from.ensures c.cast_unsigned.ensures
