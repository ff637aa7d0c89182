use Rattle.std.proofs.Common.{List, ℕ}
use Rattle.chain_records.specs.State.{State}
use Rattle.chain_records.specs.Records.{plain_contract}
use Rattle.contract_admin.specs.Administration.{create_refusal}
use Rattle.state_records.specs.Records.{with_contract}
use Rattle.submsg_dispatch.specs.Parts.{done, becomes, ◌>>=◌}
use Rattle.submsg_dispatch.specs.Stages.{called_view}
use Rattle.submsg_dispatch.proofs.Making.{created_leads, written_stops}
use Rattle.submsg_dispatch.proofs.creation.write_created.Goals as goal

pub returns-in-Ok-clause-leads : goal.returns-in-Ok-clause-leads
returns-in-Ok-clause-leads g c = λ tally left.
    let does = rw c.deref.ensures.value at c.in-Ok.ensures.created in
    created_leads c.args.called.addr.items (plain_contract c.args.contract.now) c.args.called does

pub returns-in-Err-clause-leads : goal.returns-in-Err-clause-leads
returns-in-Err-clause-leads g c = λ tally left.
    let addr : List ℕ = c.args.called.addr.items in
    let p = plain_contract c.args.contract.now in
    let each = rw c.deref.ensures.value at c.in-Err.ensures.stop in
    let tells = rw c.deref-in-Err.ensures.value at c.contract_stop.ensures in
    written_stops addr (λ (s : State). create_refusal s addr p) (λ _. becomes (λ (s : State). with_contract s addr p) >>= λ _. done (called_view c.args.called)) c.in-Err.stop c.contract_stop.result each c.in-Err.ensures.unchanged tells
