use Rattle.std.proofs.Common.{◌≡◌, ◌∙◌, ap, suc, ◌+◌, List, [], ◌∷◌, ◌++◌, Option, Some, None, Result, Ok, Err, arith}
use Rattle.std.specs.Prelude.{IfOk, MatchOption}
use Rattle.wasm_machine.specs.declared.stop.Stop.{Stop}
use Rattle.wasm_machine.specs.declared.frame.Frame.{Frame}
use Rattle.wasm_machine.specs.declared.frame.Caller.{Caller}
use Rattle.wasm_machine.specs.Rests.{hosts, giving}
use Rattle.wasm_machine.proofs.Calls.{reverse_snoc, hosts_snoc}
use Rattle.wasm_machine.proofs.state.State.give.Goals as goal

pub returns-in-Some-clause-leads : goal.returns-in-Some-clause-leads
unfolding giving
returns-in-Some-clause-leads c = λ m a h. rw (c.in-Some.ensures.items, reverse_snoc) (c.give_to.ensures.leads m a)

counted : (r : Result (Option Frame) Stop) (old popped new : List Caller) (caller : Caller) → old ≡ popped ++ caller ∷ [] → new ≡ popped → IfOk r (λ next. MatchOption next (hosts (caller ∷ []) ≡ 1) (λ frame. hosts (caller ∷ []) ≡ 0)) → IfOk r (λ next. MatchOption next (hosts old ≡ suc (hosts new)) (λ frame. hosts new ≡ hosts old))
counted (Err e) old popped new caller p q h = h
counted (Ok None) old popped new caller p q h =
    let all : hosts old ≡ hosts (caller ∷ []) + hosts popped = ap hosts p ∙ hosts_snoc popped caller in
    let same : hosts new ≡ hosts popped = ap hosts q in
    omega (arith, all, same, h)
counted (Ok (Some frame)) old popped new caller p q h =
    let all : hosts old ≡ hosts (caller ∷ []) + hosts popped = ap hosts p ∙ hosts_snoc popped caller in
    let same : hosts new ≡ hosts popped = ap hosts q in
    omega (arith, all, same, h)

pub returns-in-Some-clause-hosts : goal.returns-in-Some-clause-hosts
returns-in-Some-clause-hosts c =
    counted c.give_to.result c.args.self.now.callers.items c.pop.new.self.items c.give_to.new.self.callers.items c.in-Some.caller c.in-Some.ensures.items (ap (λ v. v.items) c.give_to.ensures.callers) c.give_to.ensures.hosts
