use Rattle.std.proofs.Common.{ℕ, List, ap, ◌∙◌, sym, subst}
use Rattle.std.specs.FinMap.{empty}
use Rattle.std.proofs.lemmas.Result.{IfOk-weaker}
use Rattle.kv_layers.specs.Delta.{IsDelta}
use Rattle.state_runs.specs.Runs.{Run, entry_in, map_of}
use Rattle.state_runs.specs.Views.{run_view, runs_view}
use Rattle.state_runs.proofs.Maps.{map_of-whole, IsDelta-values}
use Rattle.state_runs.proofs.snapshot.Snapshot.merge.Goals as goal

pub returns-clause-whole : goal.returns-clause-whole
returns-clause-whole c =
    let merged = c.in_ok-merged.merged in
    let same = λ (q : List ℕ). c.in_ok-merged.ensures q ∙ ap (λ rs. entry_in (runs_view rs) q) c.deref.ensures.value ∙ ap (λ rs. entry_in rs q) c.self.view_is in
    let delta = subst (λ (run : Run). IsDelta empty run (map_of c.args.self.now)) (sym c.without_removals.ensures) (IsDelta-values c.args.self.now (run_view merged) merged.rising same) in
    IfOk-weaker c.lone.result _ _ (λ snapshot e. (run_view c.without_removals.result, e, delta)) c.lone.ensures

pub returns-clause-map : goal.returns-clause-map
returns-clause-map c =
    let merged = c.in_ok-merged.merged in
    let same = λ (q : List ℕ). c.in_ok-merged.ensures q ∙ ap (λ rs. entry_in (runs_view rs) q) c.deref.ensures.value ∙ ap (λ rs. entry_in rs q) c.self.view_is in
    let delta = subst (λ (run : Run). IsDelta empty run (map_of c.args.self.now)) (sym c.without_removals.ensures) (IsDelta-values c.args.self.now (run_view merged) merged.rising same) in
    IfOk-weaker c.lone.result _ _ (λ snapshot e. map_of-whole snapshot (map_of c.args.self.now) (run_view c.without_removals.result, e, delta)) c.lone.ensures
