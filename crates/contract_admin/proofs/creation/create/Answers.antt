use Rattle.std.proofs.Common.{◌≡◌, None}
use Rattle.chain_records.specs.Records.{plain_contract}
use Rattle.chain_records.specs.State.{State}
use Rattle.state_records.specs.Records.{with_contract}
use Rattle.contract_admin.specs.Administration.{create_refusal}
use Rattle.contract_admin.specs.Effects.{IsCreated}
use Rattle.contract_admin.specs.Lawful.{HasLawfulContracts}
use Rattle.contract_admin.proofs.Changed.{created}
use Rattle.contract_admin.proofs.Writing.{Becomes-written, Becomes-some}
use Rattle.contract_admin.proofs.creation.create.Goals as goal

pub returns-clause-created : goal.returns-clause-created
returns-clause-created g c =
    let addr = c.args.addr.now in
    let contract = plain_contract c.args.contract.now in
    let copy = plain_contract c.in_ok-copy.copy in
    Becomes-written g.B.Base.stands_for c.args.layers.now c.set_contract.new.layers (λ s. with_contract s addr copy) (λ (s : State). create_refusal s addr contract ≡ None) (λ (s t : State). IsCreated s addr contract t)
    (λ s lawful is. created s addr contract copy c.requires.address c.requires.creator c.requires.admin c.in_ok-copy.ensures lawful is)
    c.in_ok-may_create.ensures.ok c.in_ok-set_contract.ensures.ok

pub returns-clause-lawful : goal.returns-clause-lawful
returns-clause-lawful g c =
    Becomes-some g.B.Base.stands_for c.args.layers.now c.set_contract.new.layers (λ (s t : State). IsCreated s c.args.addr.now (plain_contract c.args.contract.now) t) HasLawfulContracts (λ s t so. so.lawful) (returns-clause-created g c) c.requires.lawful
