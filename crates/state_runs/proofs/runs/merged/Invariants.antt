use Rattle.std.proofs.Common.{◌≡◌, ℕ, List, take}
use Rattle.state_runs.specs.Runs.{entry_in}
use Rattle.state_runs.specs.Views.{run_view, runs_view}
use Rattle.state_runs.proofs.Lists.{found}
use Rattle.state_runs.proofs.runs.merged.Given as goal

abbrev pub invariant-loop-run : goal.invariant-loop-run
invariant-loop-run l = (key : List ℕ) → found key (run_view l.merged) ≡ entry_in (runs_view (take l.run-index l.runs)) key
