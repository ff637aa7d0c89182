use Rattle.wasmnode.specs.History.{state_of}
use Rattle.wasmnode.proofs.chain.Chain.result_at.Goals as goal

pub answer_on-requires : goal.answer_on-requires
answer_on-requires c = (state_of c.requires.1 c.args.height, (c.in-Ok.ensures c.requires.0 c.requires.1 c.requires.2).0)
