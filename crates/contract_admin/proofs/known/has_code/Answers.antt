use Rattle.std.proofs.Common.{◌∙◌}
use Rattle.std.proofs.lemmas.Result.{IfOk-weaker}
use Rattle.contract_admin.proofs.Refused.{code_there}
use Rattle.contract_admin.proofs.known.has_code.Goals as goal

pub returns : goal.returns
returns g c = IfOk-weaker c.is_there.result _ _ (λ there is map s stands spelled. is map s stands spelled ∙ code_there s c.args.code_id) c.is_there.ensures
