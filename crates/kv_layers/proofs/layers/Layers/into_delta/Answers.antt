use Rattle.std.proofs.Common.{◌≡◌, ◌∙◌, sym, ap, subst, ◌++◌, reverse, append-nil}
use Rattle.std.proofs.lemmas.List.{length-reverse}
use Rattle.std.proofs.lemmas.Map.Iter.{rest_all}
use Rattle.kv_layers.proofs.Keeping.{IsRising, IsDelta-layer, rising_views}
use Rattle.kv_layers.proofs.layers.Layers.into_delta.Goals as goal

pub returns : goal.returns
returns g c = λ maps s.
    let self = c.args.self in
    let none = rest_all (λ p. p) _ _ _ c.in-None.is c.next.ensures.steps in
    let all : c.loop-change.room.items ≡ self.newest.entries = sym (append-nil _) ∙ ap (λ rest. c.loop-change.room.items ++ rest) (sym none) ∙ c.loop-change.invariant.poured in
    IsDelta-layer maps.base self.newest (reverse self.below.items) maps.current maps.saved c.loop-change.room.items (length-reverse self.below.items ∙ c.requires) all c.loop-change.invariant.rising s.piled

pub invariant_of-result : goal.invariant_of-result
invariant_of-result g c =
    let none = rest_all (λ p. p) _ _ _ c.in-None.is c.next.ensures.steps in
    let all : c.loop-change.room.items ≡ c.args.self.newest.entries = sym (append-nil _) ∙ ap (λ rest. c.loop-change.room.items ++ rest) (sym none) ∙ c.loop-change.invariant.poured in
    record { rising = rising_views c.loop-change.room.items (subst IsRising (sym all) c.loop-change.invariant.rising) }
