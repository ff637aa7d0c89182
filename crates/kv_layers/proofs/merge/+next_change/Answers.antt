use Rattle.std.proofs.Common.{sym, subst, reverse}
use Rattle.std.specs.Option.{option_map}
use Rattle.kv_layers.specs.Changes.{change_in}
use Rattle.kv_layers.specs.Merge.{shown_change}
use Rattle.kv_layers.specs.Next.{IsNext}
use Rattle.kv_layers.specs.Sorted.{lower, upper}
use Rattle.kv_layers.proofs.Merging.{IsNext-layers, reverse-last}
use Rattle.kv_layers.proofs.merge.+next_change.Goals as goal

pub returns : goal.returns
returns t c =
    let newest = c.in_ok-newest.newest.now in
    let below = c.in_ok-newest.below.now in
    let e = reverse-last c.args.layers.now below newest c.in_ok-newest.ensures.cases.0 in
    subst (λ ls. IsNext (change_in ls) (lower c.args.bounds.now) (upper c.args.bounds.now) c.args.order (option_map shown_change c.first_change.result)) (sym e)
    (IsNext-layers newest (reverse below) (lower c.args.bounds.now) (upper c.args.bounds.now) c.args.order c.next_entry-change.result (option_map shown_change c.next_change-lower.result) _ c.next_entry-change.ensures c.next_change-lower.ensures c.first_change.ensures.chosen)
