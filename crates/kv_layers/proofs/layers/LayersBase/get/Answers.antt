use Rattle.std.proofs.Common.{sym, ap, ◌∙◌}
use Rattle.std.specs.FinMap.{get}
use Rattle.std.proofs.lemmas.Result.{IfOk-weaker}
use Rattle.kv_layers.specs.Changes.{after_change}
use Rattle.kv_layers.specs.Plain.{value_view}
use Rattle.kv_layers.proofs.Merging.{HasCurrent-get}
use Rattle.kv_layers.proofs.layers.LayersBase.get.Goals as goal

pub returns-in-Some : goal.returns-in-Some
returns-in-Some g c =
    let key = c.args.key.now in
    IfOk-weaker c.owned_value.result _ _ (λ found e map current.
    e ∙ ap value_view c.as_ref.ensures.value
    ∙ ap (λ change. after_change change (get current.0.base key)) c.in-Some.ensures
    ∙ sym (HasCurrent-get g.B.Base.stands_for c.args.self.now map current key)) c.owned_value.ensures

pub returns-in-None : goal.returns-in-None
returns-in-None g c =
    let key = c.args.key.now in
    IfOk-weaker c.get.result _ _ (λ found answer map current.
    answer current.0.base current.1.of_base
    ∙ ap (λ change. after_change change (get current.0.base key)) c.in-None.ensures
    ∙ sym (HasCurrent-get g.B.Base.stands_for c.args.self.now map current key)) c.get.ensures
