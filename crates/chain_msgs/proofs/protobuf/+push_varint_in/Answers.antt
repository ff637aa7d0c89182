use Rattle.std.proofs.Common.{arith}
use Rattle.chain_msgs.proofs.Varints.{on_ok, varint_more}
use Rattle.chain_msgs.proofs.protobuf.+push_varint_in.Goals as goal

pub returns : goal.returns
returns t c =
    on_ok c.push_varint_in.result (varint_more c.args.out.now.items c.push-2.new.self.items c.push_varint_in.new.out.items c.args.most c.args.n (omega arith) (omega arith) c.in_ok-push-2.ensures.items) c.push_varint_in.ensures
