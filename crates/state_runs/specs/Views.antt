-- The runs of a snapshot as lists.
use Rattle.std.specs.Prelude.{List, map}
use Rattle.std.specs.declared.sync.Arc.{Arc}
use Rattle.std.specs.Arc.{arc_value}
use Rattle.std.specs.Global.{Global}
use Rattle.kv_layers.specs.Rising.{change_view}
use Rattle.state_runs.specs.declared.run.Run.{Run as SharedRun}
use Rattle.state_runs.specs.Runs.{Run}

abbrev pub run_view : SharedRun → Run
run_view run = map change_view run.changes.items

abbrev pub runs_view : List (Arc SharedRun Global) → List Run
runs_view runs = map (λ run. run_view (arc_value run)) runs
