use Rattle.std.proofs.Common.{◌∙◌}
use Rattle.std.proofs.lemmas.Result.{IfOk-weaker}
use Rattle.code_registry.proofs.Reading.{pin_there}
use Rattle.code_registry.proofs.readers.is_pinned.Goals as goal

pub returns : goal.returns
returns g c = IfOk-weaker c.is_there.result _ _ (λ there is m s stands spelled. is m s stands spelled ∙ pin_there s c.args.id) c.is_there.ensures
