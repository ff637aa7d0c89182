use Rattle.std.proofs.Common.{◌<◌, ◌++◌, ◌∷◌, [], ◌∙◌, sym, ap, take, length, arith, append_assoc}
use Rattle.std.specs.Arc.{arc_value}
use Rattle.std.proofs.lemmas.List.{map-append}
use Rattle.state_runs.specs.Views.{run_view, runs_view}
use Rattle.state_runs.proofs.Pushed.{seen-more}
use Rattle.state_runs.proofs.runs.shared.Goals as goal

pub loop-run-preserved : goal.loop-run-preserved
loop-run-preserved c =
    let runs = c.args.runs.now in
    let i = c.loop-run.run-index in
    let lt : c.loop-run.run-index < length c.args.runs.now = omega arith in
    record {
      view =
          ap runs_view c.in_ok-push.ensures.items
          ∙ map-append (λ share. run_view (arc_value share)) c.loop-run.shares.items (c.in_ok-try_clone.field-0 ∷ [])
          ∙ ap (λ xs. xs ++ run_view (arc_value c.in_ok-try_clone.field-0) ∷ []) c.loop-run.invariant.view
          ∙ append_assoc (runs_view c.args.shares.items) (runs_view (take i runs)) (run_view (arc_value c.in_ok-try_clone.field-0) ∷ [])
          ∙ ap (λ x. runs_view c.args.shares.items ++ (runs_view (take i runs) ++ run_view x ∷ [])) c.in_ok-try_clone.ensures
          ∙ ap (λ xs. runs_view c.args.shares.items ++ xs) (sym (seen-more runs i c.run-item.result lt c.run-item.is));
      len = omega (arith, c.in_ok-push.ensures.len);
    }
