use Rattle.std.proofs.Common.{◌≡◌, ◌++◌, map, length}
use Rattle.std.specs.Option.{option_copied}
use Rattle.kv_layers.specs.Rising.{change_view}
use Rattle.state_runs.specs.Places.{below, from}
use Rattle.state_runs.proofs.merge.copy_below.Given as goal

abbrev pub invariant-loop-change : goal.invariant-loop-change
invariant-loop-change l = record {
  copied : map change_view l.copies.items ++ below (option_copied l.end) (map change_view l.rest) ≡ map change_view l.fn.copies.items ++ below (option_copied l.fn.end) (map change_view l.fn.older);
  rest : from (option_copied l.end) (map change_view l.rest) ≡ from (option_copied l.fn.end) (map change_view l.fn.older);
}

abbrev pub decreases-loop-change : goal.decreases-loop-change
decreases-loop-change l = length l.rest
