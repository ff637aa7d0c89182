use Rattle.node_core.proofs.Answered.{finds_asked, never_falls, is_within}
use Rattle.node_core.proofs.laws.answers_keep_their_laws.Goals as goal

pub returns : goal.returns
returns c = record { found = finds_asked; newest = never_falls; within = is_within }
