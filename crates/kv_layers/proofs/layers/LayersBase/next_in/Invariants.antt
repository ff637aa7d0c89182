use Rattle.std.proofs.Common.{ℕ, List, Option}
use Rattle.std.specs.Option.{option_copied, option_map}
use Rattle.std.specs.FinMap.{get}
use Rattle.kv_layers.specs.Bytes.{Bytes}
use Rattle.kv_layers.specs.Layers.{HasCurrent, stack}
use Rattle.kv_layers.specs.Next.{IsNext}
use Rattle.kv_layers.specs.Plain.{entry_view}
use Rattle.kv_layers.specs.Sorted.{lower, upper}
use Rattle.kv_layers.proofs.Merging.{changes_within}
use Rattle.kv_layers.proofs.layers.LayersBase.next_in.Given as goal

-- the first entry within the bounds that are left is the first one within those given; what is kept of the base is its first
-- entry within them
abbrev pub invariant-scan : goal.invariant-scan
invariant-scan g l = record {
  first : (map : Bytes) → HasCurrent g.B.Base.stands_for l.fn.self map → (found : Option (List ℕ × List ℕ)) → IsNext (get map) (lower l.bounds) (upper l.bounds) l.fn.order found → IsNext (get map) (option_copied l.fn.lo) (option_copied l.fn.hi) l.fn.order found;
  under : (map : Bytes) → g.B.Base.stands_for l.fn.self.base map → IsNext (get map) (lower l.bounds) (upper l.bounds) l.fn.order (option_map entry_view l.under);
}

abbrev pub decreases-scan : goal.decreases-scan
decreases-scan g l = changes_within (lower l.bounds) (upper l.bounds) (stack l.fn.self)
