use Rattle.gatekeeper.proofs.Fetched.{tallies_join}
use Rattle.gatekeeper.proofs.laws.fetches_join.Goals as goal

pub returns : goal.returns
returns c = tallies_join
