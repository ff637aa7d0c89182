use Rattle.std.proofs.Common.{◌≡◌, Some, None, refl}
use Rattle.std.specs.FinMap.{get}
use Rattle.chain_records.specs.Records.{PlainContract, plain_contract}
use Rattle.chain_records.specs.State.{State}
use Rattle.state_records.specs.Records.{with_contract}
use Rattle.contract_admin.specs.Administration.{change_refusal, code_refusal}
use Rattle.contract_admin.specs.Effects.{IsCodeSet}
use Rattle.contract_admin.specs.Lawful.{HasLawfulContracts}
use Rattle.contract_admin.proofs.Changed.{migrated}
use Rattle.contract_admin.proofs.Writing.{Becomes-written, Becomes-some}
use Rattle.contract_admin.proofs.changes.set_code.Goals as goal

pub returns-clause-changed : goal.returns-clause-changed
returns-clause-changed g c =
    let sender = c.args.sender.now in
    let addr = c.args.addr.now in
    let id = c.args.code_id in
    let found : PlainContract = plain_contract c.in_ok-current.current in
    let changed : PlainContract = record found { code_id = id } in
    Becomes-written g.B.Base.stands_for c.args.layers.now c.set_contract.new.layers (λ s. with_contract s addr changed) (λ (s : State). (Some found ≡ get s.contracts addr) × (change_refusal s sender addr ≡ None) × (code_refusal s id ≡ None)) (λ (s t : State). IsCodeSet s sender addr id t)
    (λ s lawful is. migrated s sender addr id found changed refl lawful is)
    (λ m s stands spelled. (c.in_ok-current.ensures.found m s stands spelled, c.in_ok-current.ensures.ok m s stands spelled, c.in_ok-need_code.ensures.ok m s stands spelled)) c.in_ok-set_contract.ensures.ok

pub returns-clause-lawful : goal.returns-clause-lawful
returns-clause-lawful g c =
    Becomes-some g.B.Base.stands_for c.args.layers.now c.set_contract.new.layers (λ (s t : State). IsCodeSet s c.args.sender.now c.args.addr.now c.args.code_id t) HasLawfulContracts (λ s t so. so.lawful) (returns-clause-changed g c) c.requires
