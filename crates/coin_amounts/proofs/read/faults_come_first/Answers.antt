use Rattle.coin_amounts.proofs.Faults.{first_fault}
use Rattle.coin_amounts.proofs.read.faults_come_first.Goals as goal

pub returns : goal.returns
returns c = first_fault
