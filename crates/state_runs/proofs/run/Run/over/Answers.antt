use Rattle.std.proofs.Common.{◌≡◌, ◌++◌, [], ℕ, Option, ◌∙◌, sym, ap, subst, map, arith}
use Rattle.std.specs.Global.{Vec}
use Rattle.std.specs.Vec.Iter.{into_iter_items}
use Rattle.kv_layers.specs.Rising.{change_view, KeysRise}
use Rattle.state_runs.specs.Places.{past}
use Rattle.state_runs.proofs.Lists.{found}
use Rattle.state_runs.proofs.Laid.{laid_over, rising-laid_over, found-laid_over}
use Rattle.state_runs.proofs.Copying.{laid-step, laid-end, none-left}
use Rattle.state_runs.proofs.run.Run.over.Goals as goal

pub loop-key-init : goal.loop-key-init
loop-key-init c =
    let newer = into_iter_items c.into_iter-key-iterator.result in
    let gives = c.into_iter-key-iterator.ensures.into_iter_gives in
    ap (λ xs. map change_view xs ++ laid_over (map change_view newer) (map change_view c.as_slice-rest.result.now)) c.in_ok-both.ensures.items
    ∙ ap (λ xs. laid_over (map change_view xs) (map change_view c.as_slice-rest.result.now)) gives.0
    ∙ ap (λ xs. laid_over (map change_view c.args.self.changes.items) (map change_view xs)) c.as_slice-rest.ensures.value

pub loop-key-preserved : goal.loop-key-preserved
loop-key-preserved c =
    let change : Vec ℕ × Option (Vec ℕ) = (c.in-Some.key, c.in-Some.value) in
    let passed = rw c.deref-in-loop-key.ensures.value at c.past-rest.ensures in
    let copied = rw c.deref.ensures.value at c.in_ok-copy_below.ensures.copied in
    let left = rw c.deref.ensures.value at c.in_ok-copy_below.ensures.rest in
    laid-step c.loop-key.both.items c.copy_below.new.copies.items c.push.new.self.items change (into_iter_items c.loop-key.key-iterator) (into_iter_items c.next.new.self) c.loop-key.rest.now c.past-rest.result.now
    copied c.in_ok-push.ensures.items (passed ∙ ap (past c.in-Some.key.items) left) c.in-Some.ensures.steps.0
    ∙ c.loop-key.invariant

pub invariant_of-result : goal.invariant_of-result
invariant_of-result c =
    let none : into_iter_items c.loop-key.key-iterator ≡ [] = none-left (into_iter_items c.loop-key.key-iterator) (omega (arith, c.in-None.ensures.steps.0, c.loop-key.key-iterator.rest.ok.0)) in
    let all = laid-end c.loop-key.both.items c.copy_below-2.new.copies.items (into_iter_items c.loop-key.key-iterator) c.loop-key.rest.now c.in_ok-copy_below-2.ensures.copied none ∙ c.loop-key.invariant in
    record { rising = subst KeysRise (sym all) (rising-laid_over (map change_view c.args.self.changes.items) (map change_view c.args.older.now.changes.items) c.args.self.rising c.args.older.now.rising) }

pub returns : goal.returns
returns c = λ key.
    let none : into_iter_items c.loop-key.key-iterator ≡ [] = none-left (into_iter_items c.loop-key.key-iterator) (omega (arith, c.in-None.ensures.steps.0, c.loop-key.key-iterator.rest.ok.0)) in
    let all = laid-end c.loop-key.both.items c.copy_below-2.new.copies.items (into_iter_items c.loop-key.key-iterator) c.loop-key.rest.now c.in_ok-copy_below-2.ensures.copied none ∙ c.loop-key.invariant in
    ap (found key) all ∙ found-laid_over (map change_view c.args.self.changes.items) (map change_view c.args.older.now.changes.items) c.args.self.rising c.args.older.now.rising key
