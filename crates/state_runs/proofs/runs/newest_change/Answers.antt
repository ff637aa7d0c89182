use Rattle.std.proofs.Common.{◌+◌, ◌<◌, ◌∙◌, sym, ap, drop, length, arith}
use Rattle.std.specs.Option.{option_or}
use Rattle.state_runs.specs.Runs.{entry_in}
use Rattle.state_runs.specs.Views.{run_view, runs_view}
use Rattle.state_runs.proofs.Lists.{found}
use Rattle.state_runs.proofs.Pushed.{entry-left}
use Rattle.state_runs.proofs.runs.newest_change.Goals as goal

pub loop-run-preserved : goal.loop-run-preserved
loop-run-preserved c =
    let runs = c.args.runs.now in
    let key = c.args.key.now in
    let i = c.loop-run.run-index in
    let lt : c.loop-run.run-index < length c.args.runs.now = omega arith in
    ap (λ o. option_or o (entry_in (runs_view (drop (i + 1) runs)) key)) (c.in_default.ensures ∙ ap (λ r. found key (run_view r)) c.deref.ensures)
    ∙ sym (entry-left key runs i c.run-item.result lt c.run-item.is) ∙ c.loop-run.invariant

pub returns-in-Some : goal.returns-in-Some
returns-in-Some c =
    let runs = c.args.runs.now in
    let key = c.args.key.now in
    let i = c.loop-run.run-index in
    let lt : c.loop-run.run-index < length c.args.runs.now = omega arith in
    ap (λ o. option_or o (entry_in (runs_view (drop (i + 1) runs)) key)) (c.in-Some.ensures ∙ ap (λ r. found key (run_view r)) c.deref.ensures)
    ∙ sym (entry-left key runs i c.run-item.result lt c.run-item.is) ∙ c.loop-run.invariant
