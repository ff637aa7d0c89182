use Rattle.host_imports.specs.Imports.{query_chain}
use Rattle.host_imports.specs.declared.settled.Settled.TheVariants.{WantsQuery}
use Rattle.host_imports.specs.Parts.{settled_view}
use Rattle.host_imports.proofs.Works.{moves_then, moves_stop, done_moves}
use Rattle.host_imports.proofs.host.query_chain.Goals as goal

pub returns-in-Ok-clause-moves : goal.returns-in-Ok-clause-moves
unfolding query_chain
returns-in-Ok-clause-moves c = λ left. moves_then _ (c.in-Ok.ensures.moves left) (done_moves {view = settled_view} (WantsQuery c.in-Ok.bytes))

pub returns-in-Err-clause-moves : goal.returns-in-Err-clause-moves
unfolding query_chain
returns-in-Err-clause-moves c = λ left. moves_stop _ c.in-Err.stop (c.in-Err.ensures.moves left)
