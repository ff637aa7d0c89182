use Rattle.std.proofs.Common.{◌≡◌, ℕ, List, Option, Some, None, ap}
use Rattle.std.specs.FinMap.{get}
use Rattle.std.specs.Option.{option_map, option_copied}
use Rattle.chain_records.specs.Records.{PlainContract, bytes_view, plain_contract}
use Rattle.chain_records.specs.State.{State}
use Rattle.state_records.specs.Records.{with_contract}
use Rattle.contract_admin.specs.Administration.{change_refusal}
use Rattle.contract_admin.specs.Effects.{IsAdminSet}
use Rattle.contract_admin.specs.Lawful.{HasLawfulContracts}
use Rattle.contract_admin.proofs.Changed.{has_admin}
use Rattle.contract_admin.proofs.Writing.{Becomes-written, Becomes-some}
use Rattle.contract_admin.proofs.changes.set_admin.Goals as goal

pub returns-clause-changed : goal.returns-clause-changed
returns-clause-changed g c =
    let sender = c.args.sender.now in
    let addr = c.args.addr.now in
    let admin = option_copied c.args.admin in
    let found : PlainContract = plain_contract c.in_ok-found.found in
    let changed : PlainContract = record found { admin = option_map bytes_view c.in_ok-admin.admin } in
    Becomes-written g.B.Base.stands_for c.args.layers.now c.set_contract.new.layers (λ s. with_contract s addr changed) (λ (s : State). (Some found ≡ get s.contracts addr) × (change_refusal s sender addr ≡ None)) (λ (s t : State). IsAdminSet s sender addr admin t)
    (λ s lawful is. has_admin s sender addr admin found changed c.requires.admin (ap (λ (a : Option (List ℕ)). record found { admin = a }) c.in_ok-admin.ensures) lawful is)
    (λ m s stands spelled. (c.in_ok-found.ensures.found m s stands spelled, c.in_ok-found.ensures.ok m s stands spelled)) c.in_ok-set_contract.ensures.ok

pub returns-clause-lawful : goal.returns-clause-lawful
returns-clause-lawful g c =
    Becomes-some g.B.Base.stands_for c.args.layers.now c.set_contract.new.layers (λ (s t : State). IsAdminSet s c.args.sender.now c.args.addr.now (option_copied c.args.admin) t) HasLawfulContracts (λ s t so. so.lawful) (returns-clause-changed g c) c.requires.lawful
