use Rattle.contract_admin.proofs.Changed.{lawful_stored, lawful_same}
use Rattle.contract_admin.proofs.laws.contracts_stay_lawful.Goals as goal

pub returns-clause-stored : goal.returns-clause-stored
returns-clause-stored c = λ s code lawful. lawful_stored s code lawful

pub returns-clause-same : goal.returns-clause-same
returns-clause-same c = λ s t codes same also lawful. lawful_same s t codes same also lawful
