use Rattle.state_runs.proofs.Maps.{get-map_of, one_map}
use Rattle.state_runs.proofs.laws.each_has_one_map.Goals as goal

pub returns-clause-one : goal.returns-clause-one
returns-clause-one c = get-map_of

pub returns-clause-alone : goal.returns-clause-alone
returns-clause-alone c = one_map
