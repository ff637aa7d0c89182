use Rattle.std.proofs.Common.{◌<◌, ◌∙◌, sym, ap, take, length, arith}
use Rattle.std.specs.Option.{option_or}
use Rattle.state_runs.specs.Runs.{entry_in}
use Rattle.state_runs.specs.Views.{run_view, runs_view}
use Rattle.state_runs.proofs.Lists.{found}
use Rattle.state_runs.proofs.Pushed.{entry-seen}
use Rattle.state_runs.proofs.runs.merged.Goals as goal

pub loop-run-preserved : goal.loop-run-preserved
loop-run-preserved c = λ key.
    let runs = c.args.runs.now in
    let i = c.loop-run.run-index in
    let lt : c.loop-run.run-index < length c.args.runs.now = omega arith in
    c.in_ok-merged.ensures key
    ∙ ap (λ o. option_or o (found key (run_view c.deref.result.now))) (c.loop-run.invariant key)
    ∙ ap (λ r. option_or (entry_in (runs_view (take i runs)) key) (found key (run_view r))) c.deref.ensures
    ∙ sym (entry-seen key runs i c.run-item.result lt c.run-item.is)
