use Rattle.std.proofs.Common.{reverse}
use Rattle.std.specs.Option.{option_map}
use Rattle.kv_layers.specs.Merge.{shown_change}
use Rattle.kv_layers.specs.Sorted.{lower, upper}
use Rattle.kv_layers.proofs.Merging.{IsNext-layers}
use Rattle.kv_layers.proofs.layers.Layers.next_change.Goals as goal

pub returns : goal.returns
returns g c =
    let self = c.args.self.now in
    let below = rw c.deref.ensures.value at c.next_change-lower.ensures in
    IsNext-layers self.newest (reverse self.below.items) (lower c.args.bounds.now) (upper c.args.bounds.now) c.args.order c.next_entry-change.result (option_map shown_change c.next_change-lower.result) _ c.next_entry-change.ensures below c.first_change.ensures.chosen
