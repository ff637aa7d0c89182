use Rattle.std.proofs.Common.{ℕ, List, ◌∙◌, ap}
use Rattle.std.specs.Option.{is_some}
use Rattle.std.proofs.lemmas.Result.{IfOk-weaker}
use Rattle.chain_records.specs.Keys as keys
use Rattle.chain_records.specs.State.{entry_of}
use Rattle.contract_admin.proofs.Refused.{contract_there}
use Rattle.contract_admin.proofs.known.is_taken.Goals as goal

pub returns : goal.returns
returns g c = IfOk-weaker c.is_there.result _ _ (λ there is map s stands spelled.
    is map s stands spelled ∙ ap (λ (a : List ℕ). is_some (entry_of s (keys.contract a))) (c.in_ok-copy.ensures.items_if_clones_equal (λ x y e. e)) ∙ contract_there s c.args.addr.now) c.is_there.ensures
