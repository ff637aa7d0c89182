use Rattle.std.proofs.Common.{sym, ap, ◌∙◌}
use Rattle.std.specs.FinMap.{get}
use Rattle.std.proofs.lemmas.Result.{IfOk-weaker}
use Rattle.kv_layers.specs.Plain.{value_view}
use Rattle.kv_layers.proofs.Maps.{get-map_of}
use Rattle.kv_layers.proofs.plain.PlainBase.get.Goals as goal

pub returns : goal.returns
returns c =
    let key = c.args.key.now in
    IfOk-weaker c.owned_value.result _ _ (λ found e map same.
    e ∙ ap value_view c.get.ensures.value ∙ sym (get-map_of c.self.inside.entries key) ∙ ap (λ m. get m key) (c.self.view_is ∙ same)) c.owned_value.ensures
