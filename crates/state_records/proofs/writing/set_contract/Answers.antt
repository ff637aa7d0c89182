use Rattle.std.proofs.Common.{List, ℕ, Some, sym, subst}
use Rattle.std.proofs.lemmas.Result.{on_ok_weaker}
use Rattle.chain_records.specs.Keys as keys
use Rattle.chain_records.specs.Records.{plain_contract}
use Rattle.chain_records.specs.Records as records
use Rattle.chain_records.specs.State.{ChangesOnly}
use Rattle.state_records.specs.Records.{with_contract}
use Rattle.state_records.proofs.Changing.{only_contract}
use Rattle.state_records.proofs.writing.set_contract.Goals as goal

pub returns-clause-ok : goal.returns-clause-ok
returns-clause-ok g c =
    let addr = c.args.addr.now in
    let contract = plain_contract c.args.contract in
    on_ok_weaker c.set_record.result (λ puts maps s stands spelled. puts maps s (with_contract s addr contract) stands spelled
    (subst (λ (a : List ℕ). ChangesOnly s (with_contract s addr contract) (keys.contract a) (Some (records.contract contract))) (sym c.in_ok-name.ensures.items) (only_contract s addr contract))) c.set_record.ensures.ok
