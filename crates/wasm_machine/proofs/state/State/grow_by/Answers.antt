use Rattle.std.proofs.Common.{◌≡◌, refl, ◌∙◌, ap, ℕ, ◌+◌, ◌-◌, ◌*◌, ◌≤◌, ◌<◌, cond, List, ◌∷◌, ◌++◌, Option, Some, None, Result, Ok, Err, arith, lt-ltb, le-ltb}
use Rattle.std.proofs.lemmas.Result.{err_from_is_err_and}
use Rattle.wasm_types.specs.declared.value.Value.TheVariants.{I32}
use Rattle.wasm_machine.specs.Effects.{with_operands, with_memory}
use Rattle.gas_meter.specs.Costs.{pages_cost}
use Rattle.linear_memory.specs.Pages.{pages_of, most_pages, zeros, Grows}
use Rattle.std.specs.declared.alloc.AllocError.{AllocError}
use Rattle.wasm_machine.specs.Exec.{Ahead, Move, goes, paid}
use Rattle.wasm_machine.specs.Piles.{own}
use Rattle.wasm_machine.specs.Values.{seen, shared_of}
use Rattle.wasm_machine.specs.Rests.{running, moved, ahead}
use Rattle.wasm_machine.proofs.Blocks.{leads_from}
use Rattle.wasm_machine.proofs.Moves.{paid_ok, not_paid, charges_same}
use Rattle.wasm_machine.proofs.state.State.grow_by.Goals as goal

grown_memory : (mem new : List ℕ) (pages : ℕ) (answer : Option ℕ) → (◌≡◌ {A = Result (Option ℕ) AllocError} (Ok answer) (Ok None) → most_pages < pages_of mem + pages) → pages_of mem + pages ≤ most_pages → Grows mem new pages answer → new ≡ mem ++ zeros pages
grown_memory mem new pages None refused fits h = absurd (omega (arith, refused refl))
grown_memory mem new pages (Some old) refused fits h = h.1

pub returns-in_err-charge-clause-leads : goal.returns-in_err-charge-clause-leads
returns-in_err-charge-clause-leads c = λ m acts.
    let s = c.args.self.now in
    let a = ahead c.args.meter.now.left c.args.costs.now acts in
    let p = err_from_is_err_and c.from_residual-in_err-charge.result c.from_residual-in_err-charge.ensures.1 in
    let old = pages_of s.values.memory in
    rw (p.1, p.2)
    (leads_from m c.args.next (Err c.in_err-charge.field-0.0) s (ahead c.charge.new.meter.left c.args.costs.now acts) _ _
    (ap (λ b. moved m s c.args.next (cond b (goes c.args.next.place (with_operands (seen s.values) (I32 0xFFFFFFFF ∷ own s.values.operands)) a) (paid (pages_cost c.args.costs.now c.args.pages) (shared_of s.values) a (λ b. goes c.args.next.place (with_memory (with_operands (seen s.values) (I32 old ∷ own s.values.operands)) (s.values.memory ++ zeros c.args.pages)) b))))
    (le-ltb most_pages (old + c.args.pages) (omega (arith, c.if-pages-old.false, c.pages-old.ensures.pages, c.pages-old.ensures.most))))
    (not_paid (Unit {0}) m s c.args.next (pages_cost c.args.costs.now c.args.pages) c.charge.new.meter.left a (ahead c.charge.new.meter.left c.args.costs.now acts) (λ b. goes c.args.next.place (with_memory (with_operands (seen s.values) (I32 old ∷ own s.values.operands)) (s.values.memory ++ zeros c.args.pages)) b) c.in_err-charge.field-0.0 refl (charges_same (Unit {0}) _ _ _ _ _ (ap (λ n. c.args.costs.now.grow_page * n) c.from.ensures) c.in_err-charge.ensures.left)))

pub returns-then-pages-old-clause-leads : goal.returns-then-pages-old-clause-leads
unfolding running
returns-then-pages-old-clause-leads c = λ m acts.
    let s = c.args.self.now in
    let a = ahead c.args.meter.now.left c.args.costs.now acts in
    let old = pages_of s.values.memory in
    ap (λ b. moved m s c.args.next (cond b (goes c.args.next.place (with_operands (seen s.values) (I32 0xFFFFFFFF ∷ own s.values.operands)) a) (paid (pages_cost c.args.costs.now c.args.pages) (shared_of s.values) a (λ b. goes c.args.next.place (with_memory (with_operands (seen s.values) (I32 old ∷ own s.values.operands)) (s.values.memory ++ zeros c.args.pages)) b))))
    (lt-ltb most_pages (old + c.args.pages) (omega (arith, c.if-pages-old.true, c.pages-old.ensures.pages, c.pages-old.ensures.most)))
    ∙ rw (c.in_ok-push.ensures.own, c.in_ok-push.ensures.below) refl

pub returns-in_ok-push-in-Ok-clause-leads : goal.returns-in_ok-push-in-Ok-clause-leads
unfolding running
returns-in_ok-push-in-Ok-clause-leads c = λ m acts.
    let s = c.args.self.now in
    let a = ahead c.args.meter.now.left c.args.costs.now acts in
    let old = pages_of s.values.memory in
    let h = c.in_ok-charge.ensures.left in
    let same : c.args.costs.now.grow_page * c.from.result ≡ c.args.costs.now.grow_page * c.args.pages = ap (λ n. c.args.costs.now.grow_page * n) c.from.ensures in
    let left : c.charge.new.meter.left ≡ c.args.meter.now.left - c.args.costs.now.grow_page * c.args.pages = omega (arith, h.1, same) in
    let fits : pages_of s.values.memory + c.args.pages ≤ most_pages = omega (arith, c.if-pages-old.false, c.pages-old.ensures.pages, c.pages-old.ensures.most) in
    let grown : c.grow.new.self ≡ s.values.memory ++ zeros c.args.pages = grown_memory s.values.memory c.grow.new.self c.args.pages c.in-Ok.field-0 c.in-Ok.ensures.refused.0 fits c.in-Ok.ensures.ok in
    let k : Ahead → Move = λ b. goes c.args.next.place (with_memory (with_operands (seen s.values) (I32 old ∷ own s.values.operands)) (s.values.memory ++ zeros c.args.pages)) b in
    ap (λ b. moved m s c.args.next (cond b (goes c.args.next.place (with_operands (seen s.values) (I32 0xFFFFFFFF ∷ own s.values.operands)) a) (paid (pages_cost c.args.costs.now c.args.pages) (shared_of s.values) a k)))
    (le-ltb most_pages (old + c.args.pages) (omega (arith, c.if-pages-old.false, c.pages-old.ensures.pages, c.pages-old.ensures.most)))
    ∙ ap (λ mv. moved m s c.args.next mv) (paid_ok (pages_cost c.args.costs.now c.args.pages) (shared_of s.values) a k (omega (arith, h.0, same)))
    ∙ rw (c.in_ok-push-in-Ok.ensures.own, c.in_ok-push-in-Ok.ensures.below, grown, left, c.pages-old.ensures.pages) refl
