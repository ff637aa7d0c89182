use Rattle.std.proofs.Common.{None, sym, ap, ◌∙◌}
use Rattle.std.specs.FinMap.{get}
use Rattle.std.proofs.lemmas.Result.{IfOk-weaker}
use Rattle.kv_layers.specs.Changes.{after_change}
use Rattle.kv_layers.specs.Plain.{value_view}
use Rattle.state_runs.specs.Runs.{entry_in}
use Rattle.state_runs.specs.Views.{runs_view}
use Rattle.state_runs.proofs.Maps.{get-map_of}
use Rattle.state_runs.proofs.snapshot.SnapshotBase.get.Goals as goal

pub returns-in-Some : goal.returns-in-Some
returns-in-Some c =
    let key = c.args.key.now in
    let entry = c.in-Some.ensures ∙ ap (λ rs. entry_in (runs_view rs) key) c.deref.ensures.value ∙ ap (λ rs. entry_in rs key) c.self.view_is in
    IfOk-weaker c.owned_value.result _ _ (λ found e map same.
    e ∙ ap value_view c.as_ref.ensures.value ∙ ap (λ change. after_change change None) entry
    ∙ sym (get-map_of c.args.self.now key) ∙ ap (λ m. get m key) same) c.owned_value.ensures

pub returns-in-None : goal.returns-in-None
returns-in-None c = λ map same.
    let key = c.args.key.now in
    let entry = c.in-None.ensures ∙ ap (λ rs. entry_in (runs_view rs) key) c.deref.ensures.value ∙ ap (λ rs. entry_in rs key) c.self.view_is in
    ap (λ change. after_change change None) entry ∙ sym (get-map_of c.args.self.now key) ∙ ap (λ m. get m key) same
