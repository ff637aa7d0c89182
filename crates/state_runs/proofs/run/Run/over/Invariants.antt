use Rattle.std.proofs.Common.{◌≡◌, ◌++◌, map}
use Rattle.std.specs.Vec.Iter.{into_iter_items}
use Rattle.kv_layers.specs.Rising.{change_view}
use Rattle.state_runs.proofs.Laid.{laid_over}
use Rattle.state_runs.proofs.run.Run.over.Given as goal

abbrev pub invariant-loop-key : goal.invariant-loop-key
invariant-loop-key l = map change_view l.both.items ++ laid_over (map change_view (into_iter_items l.key-iterator)) (map change_view l.rest) ≡ laid_over (map change_view l.fn.self.changes.items) (map change_view l.older.changes.items)
