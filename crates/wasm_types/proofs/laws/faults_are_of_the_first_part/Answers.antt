use Rattle.wasm_types.proofs.FaultLaws.{break_at_first_part, break_within}
use Rattle.wasm_types.proofs.laws.faults_are_of_the_first_part.Goals as goal

pub returns : goal.returns
returns c = record { first = break_at_first_part; within = break_within }
