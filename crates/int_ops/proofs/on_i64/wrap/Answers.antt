use lib.Bits.{and_mask}
use Rattle.int_ops.specs.Integers.{wrapped}
use Rattle.int_ops.proofs.on_i64.wrap.Goals as goal

pub returns : goal.returns
unfolding wrapped
returns c = and_mask c.args.a 32
