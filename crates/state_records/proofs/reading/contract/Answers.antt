use Rattle.std.proofs.Common.{List, ℕ, ap, ◌∙◌}
use Rattle.std.specs.Option.{option_map}
use Rattle.std.specs.FinMap.{get}
use Rattle.chain_records.specs.Keys as keys
use Rattle.chain_records.specs.Records.{plain_contract, plain_stored}
use Rattle.chain_records.specs.State.{entry_of}
use Rattle.state_records.proofs.Found.{contract_entry, contract_is}
use Rattle.state_records.proofs.reading.contract.Goals as goal

pub contract_in-requires : goal.contract_in-requires
contract_in-requires g c =
    let t = c.requires in
    let addr = c.args.addr.now in (
      get t.state.contracts addr,
      c.in_ok-found.ensures t.map t.state t.stands t.spelled ∙ ap (λ (a : List ℕ). entry_of t.state (keys.contract a)) c.in_ok-name.ensures.items ∙ contract_entry t.state addr,
    )

pub returns : goal.returns
returns g c = λ m s stands spelled.
    contract_is s c.args.addr.now (option_map plain_contract c.contract_in.result) (option_map plain_stored c.in_ok-found.found)
    (c.in_ok-found.ensures m s stands spelled ∙ ap (λ (a : List ℕ). entry_of s (keys.contract a)) c.in_ok-name.ensures.items) c.contract_in.ensures
