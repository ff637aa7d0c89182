use Rattle.std.proofs.Common.{◌≡◌, ◌∙◌, sym, ap, subst, map, rules}
use Rattle.std.specs.Option.{is_some}
use Rattle.std.specs.List.{filter}
use Rattle.std.proofs.lemmas.List.Elements.{filter_from_retain}
use Rattle.kv_layers.specs.Rising.{change_view, KeysRise}
use Rattle.state_runs.proofs.Lists.{rising-values}
use Rattle.state_runs.proofs.Places.{shown-values}
use Rattle.state_runs.proofs.run.Run.without_removals.Goals as goal

pub invariant_of-result : goal.invariant_of-result
invariant_of-result c =
    let changes = c.args.self.changes.items in
    let left : c.retain.new.self.items ≡ filter (λ change. is_some change.1) changes = filter_from_retain _ (λ change. is_some change.1) (λ p x b q h. search rules) _ _ _ c.retain.ensures.filtered in
    record { rising = subst KeysRise (sym (ap (map change_view) left ∙ shown-values changes)) (rising-values (map change_view changes) c.args.self.rising) }

pub returns : goal.returns
returns c =
    let changes = c.args.self.changes.items in
    let left : c.retain.new.self.items ≡ filter (λ change. is_some change.1) changes = filter_from_retain _ (λ change. is_some change.1) (λ p x b q h. search rules) _ _ _ c.retain.ensures.filtered in
    ap (map change_view) left ∙ shown-values changes
