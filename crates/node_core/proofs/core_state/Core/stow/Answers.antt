use Rattle.std.proofs.Common.{◌≡◌, ◌==◌, ◌∷◌, true, not, sym, ◌∙◌}
use Rattle.std.specs.List.{filter}
use Rattle.node_core.specs.Steps.{is_actor}
use Rattle.node_core.specs.View.{core_view}
use Rattle.node_core.proofs.Looks.{stow_kept}
use Rattle.node_core.proofs.core_state.Core.stow.Goals as goal

pub returns-clause-ok : goal.returns-clause-ok
returns-clause-ok c =
    let s = c.args.self.now in
    let acts : is_actor (core_view s) c.args.actor ≡ true = sym c.is_actor.ensures ∙ c.if-not-is_actor.false in
    let front : c.in_ok-recent.recent.items ≡ c.args.code ∷ filter (λ x. not (x == c.args.code)) s.recent.items = rw c.deref.ensures.value at c.in_ok-recent.ensures in
    stow_kept s.newest s.keep s.size s.pinned.items s.recent.items s.seen.items c.args.actor c.args.code c.in_ok-recent.recent.items c.truncate.new.self.items acts front c.truncate.ensures.items
