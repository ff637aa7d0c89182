use Rattle.std.proofs.Common.{◌<◌, take, length, arith}
use Rattle.std.specs.Arc.{arc_value}
use Rattle.std.specs.Option.{option_map}
use Rattle.kv_layers.specs.Merge.{shown_change}
use Rattle.kv_layers.specs.Sorted.{lower, upper}
use Rattle.state_runs.specs.Runs.{entry_in}
use Rattle.state_runs.specs.Views.{run_view, runs_view}
use Rattle.state_runs.proofs.Lists.{found}
use Rattle.state_runs.proofs.Pushed.{IsNext-seen}
use Rattle.state_runs.proofs.runs.next_change.Goals as goal

pub loop-run-preserved : goal.loop-run-preserved
loop-run-preserved c =
    let runs = c.args.runs.now in
    let i = c.loop-run.run-index in
    let lo = lower c.args.bounds.now in
    let hi = upper c.args.bounds.now in
    let lt : c.loop-run.run-index < length c.args.runs.now = omega arith in
    let of_run = rw c.deref.ensures at c.next_change.ensures in
    IsNext-seen c.args.order lo hi runs i c.run-item.result (option_map shown_change c.first_change-first.result) lt c.run-item.is
    (c.first_change-first.ensures.first (entry_in (runs_view (take i runs))) (λ key. found key (run_view (arc_value c.run-item.result))) lo hi c.loop-run.invariant of_run)
