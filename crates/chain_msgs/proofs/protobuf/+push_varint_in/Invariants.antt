use Rattle.chain_msgs.proofs.protobuf.+push_varint_in.Given as goal

abbrev pub decreases-push_varint_in : goal.decreases-push_varint_in
decreases-push_varint_in l = l.most
