use Rattle.std.proofs.Common.{ℕ, List, Option}
use Rattle.std.specs.Option.{option_copied}
use Rattle.std.specs.FinMap.{get}
use Rattle.kv_layers.specs.Next.{IsNext, is_within}
use Rattle.kv_layers.specs.Sorted.{lower, upper}
use Rattle.state_runs.specs.Runs.{map_of}
use Rattle.state_runs.proofs.Next.{count_all}
use Rattle.state_runs.proofs.snapshot.SnapshotBase.next_in.Given as goal

-- the first entry within the bounds that are left is the first one within those given
abbrev pub invariant-scan : goal.invariant-scan
invariant-scan l = (found : Option (List ℕ × List ℕ)) → IsNext (get (map_of l.fn.self)) (lower l.bounds) (upper l.bounds) l.fn.order found → IsNext (get (map_of l.fn.self)) (option_copied l.fn.lo) (option_copied l.fn.hi) l.fn.order found

abbrev pub decreases-scan : goal.decreases-scan
decreases-scan l = count_all (is_within (lower l.bounds) (upper l.bounds)) l.fn.self
