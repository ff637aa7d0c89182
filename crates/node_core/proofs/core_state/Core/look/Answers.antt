use Rattle.std.proofs.Common.{◌≡◌, ◌==◌, ◌∷◌, true, false, not, sym, ◌∙◌}
use Rattle.std.specs.List.{filter, list_any}
use Rattle.node_core.specs.Steps.{is_actor}
use Rattle.node_core.specs.View.{core_view}
use Rattle.node_core.proofs.Looks.{looked_pinned, looked_missing, looked_recent}
use Rattle.node_core.proofs.core_state.Core.look.Goals as goal

pub returns-then-is_among-clause-ok : goal.returns-then-is_among-clause-ok
returns-then-is_among-clause-ok c =
    let s = c.args.self.now in
    let acts : is_actor (core_view s) c.args.actor ≡ true = sym c.is_actor.ensures ∙ c.if-not-is_actor.false in
    let pinned : list_any (λ x. x == c.args.code) s.pinned.items ≡ true = sym (rw c.deref.ensures.value at c.is_among.ensures) ∙ c.if-is_among.true in
    looked_pinned s.newest s.keep s.size s.pinned.items s.recent.items s.seen.items c.args.actor c.args.code acts pinned

pub returns-then-not-is_among-clause-ok : goal.returns-then-not-is_among-clause-ok
returns-then-not-is_among-clause-ok c =
    let s = c.args.self.now in
    let acts : is_actor (core_view s) c.args.actor ≡ true = sym c.is_actor.ensures ∙ c.if-not-is_actor.false in
    let pinned : list_any (λ x. x == c.args.code) s.pinned.items ≡ false = sym (rw c.deref.ensures.value at c.is_among.ensures) ∙ c.if-is_among.false in
    let recent : list_any (λ x. x == c.args.code) s.recent.items ≡ false = sym (rw c.deref-2.ensures.value at c.is_among-2.ensures) ∙ c.if-not-is_among.true in
    looked_missing s.newest s.keep s.size s.pinned.items s.recent.items s.seen.items c.args.actor c.args.code acts pinned recent

pub returns-clause-ok : goal.returns-clause-ok
returns-clause-ok c =
    let s = c.args.self.now in
    let acts : is_actor (core_view s) c.args.actor ≡ true = sym c.is_actor.ensures ∙ c.if-not-is_actor.false in
    let pinned : list_any (λ x. x == c.args.code) s.pinned.items ≡ false = sym (rw c.deref.ensures.value at c.is_among.ensures) ∙ c.if-is_among.false in
    let recent : list_any (λ x. x == c.args.code) s.recent.items ≡ true = sym (rw c.deref-2.ensures.value at c.is_among-2.ensures) ∙ c.if-not-is_among.false in
    let front : c.in_ok-self.field-0.items ≡ c.args.code ∷ filter (λ x. not (x == c.args.code)) s.recent.items = rw c.deref-3.ensures.value at c.in_ok-self.ensures in
    looked_recent s.newest s.keep s.size s.pinned.items s.recent.items s.seen.items c.args.actor c.args.code c.in_ok-self.field-0.items acts pinned recent front
