use Rattle.std.proofs.Common.{take}
use Rattle.std.specs.Option.{option_map}
use Rattle.kv_layers.specs.Merge.{shown_change}
use Rattle.kv_layers.specs.Next.{IsNext}
use Rattle.kv_layers.specs.Sorted.{lower, upper}
use Rattle.state_runs.specs.Runs.{entry_in}
use Rattle.state_runs.specs.Views.{runs_view}
use Rattle.state_runs.proofs.runs.next_change.Given as goal

abbrev pub invariant-loop-run : goal.invariant-loop-run
invariant-loop-run l = IsNext (entry_in (runs_view (take l.run-index l.runs))) (lower l.bounds) (upper l.bounds) l.order (option_map shown_change l.first)
