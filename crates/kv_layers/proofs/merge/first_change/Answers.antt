use Rattle.std.proofs.Common.{Some, rules}
use Rattle.std.specs.Option.{option_map}
use Rattle.kv_layers.specs.Merge.{shown_change}
use Rattle.kv_layers.proofs.Merging.{IsNext-first}
use Rattle.kv_layers.proofs.merge.first_change.Goals as goal

pub returns-in_default-clause-first : goal.returns-in_default-clause-first
returns-in_default-clause-first c = λ above below lo hi in_above in_below.
    IsNext-first above below lo hi c.args.order (option_map shown_change c.args.upper) (option_map shown_change c.args.lower) _ in_above in_below (search rules)

pub returns-then-comes_before-clause-first : goal.returns-then-comes_before-clause-first
returns-then-comes_before-clause-first c = λ above below lo hi in_above in_below.
    IsNext-first above below lo hi c.args.order (option_map shown_change c.args.upper) (option_map shown_change c.args.lower) (Some (shown_change (c.in-Some-lower.lower_key, c.in-Some-lower.lower_change))) in_above in_below (search rules)

pub returns-else-comes_before-clause-first : goal.returns-else-comes_before-clause-first
returns-else-comes_before-clause-first c = λ above below lo hi in_above in_below.
    IsNext-first above below lo hi c.args.order (option_map shown_change c.args.upper) (option_map shown_change c.args.lower) (Some (shown_change (c.in-Some.key, c.in-Some.change))) in_above in_below (search rules)
