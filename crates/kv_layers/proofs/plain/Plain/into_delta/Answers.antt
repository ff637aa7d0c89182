use Rattle.std.proofs.Common.{◌≡◌, ◌∙◌, ◌++◌, [], ◌∷◌, Some, ℕ, sym, ap, subst, append-nil, append_assoc, map}
use Rattle.std.specs.FinMap.{empty}
use Rattle.std.specs.Global.{Vec}
use Rattle.std.proofs.lemmas.Map.Iter.{rest_all, rest_more}
use Rattle.kv_layers.specs.Delta.{IsDelta, KeysRise, change_view}
use Rattle.kv_layers.proofs.Plains.{as_changes, KeysRise-plain, IsDelta-plain}
use Rattle.kv_layers.proofs.plain.Plain.into_delta.Goals as goal

pub loop-key-preserved : goal.loop-key-preserved
loop-key-preserved c =
    let entry : Vec ℕ × Vec ℕ = (c.in-Some.key, c.in-Some.value) in
    let step = rest_more (λ p. p) c.loop-key.key-iterator c.next.new.self c.next.result entry c.in-Some.is c.next.ensures.steps in
    ap (λ xs. xs ++ as_changes c.next.new.self) c.in_ok-push.ensures.items
    ∙ append_assoc c.loop-key.changes.items ((c.in-Some.key, Some c.in-Some.value) ∷ []) (as_changes c.next.new.self)
    ∙ ap (λ es. c.loop-key.changes.items ++ as_changes es) (sym step) ∙ c.loop-key.invariant

pub invariant_of-result : goal.invariant_of-result
invariant_of-result c =
    let gives = c.into_iter-key-iterator.ensures.into_iter_gives in
    let none = rest_all (λ p. p) _ _ _ c.in-None.is c.next.ensures.steps in
    let all : c.loop-key.changes.items ≡ as_changes c.self.inside.entries.entries = sym (append-nil _) ∙ ap (λ rest. c.loop-key.changes.items ++ as_changes rest) (sym none) ∙ c.loop-key.invariant ∙ ap as_changes gives.0 in
    record { rising = subst (λ cs. KeysRise (map change_view cs)) (sym all) (KeysRise-plain c.self.inside.entries.entries gives.5) }

pub returns : goal.returns
returns c =
    let gives = c.into_iter-key-iterator.ensures.into_iter_gives in
    let none = rest_all (λ p. p) _ _ _ c.in-None.is c.next.ensures.steps in
    let all : c.loop-key.changes.items ≡ as_changes c.self.inside.entries.entries = sym (append-nil _) ∙ ap (λ rest. c.loop-key.changes.items ++ as_changes rest) (sym none) ∙ c.loop-key.invariant ∙ ap as_changes gives.0 in
    subst (λ cs. IsDelta empty (map change_view cs) c.args.self) (sym all) (IsDelta-plain c.self.inside.entries.entries c.args.self gives.5 c.self.view_is)
