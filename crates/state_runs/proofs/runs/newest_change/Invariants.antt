use Rattle.std.proofs.Common.{◌≡◌, drop}
use Rattle.state_runs.specs.Runs.{entry_in}
use Rattle.state_runs.specs.Views.{runs_view}
use Rattle.state_runs.proofs.runs.newest_change.Given as goal

abbrev pub invariant-loop-run : goal.invariant-loop-run
invariant-loop-run l = entry_in (runs_view (drop l.run-index l.runs)) l.key ≡ entry_in (runs_view l.runs) l.key
