use Rattle.std.proofs.Common.{◌≡◌, refl, sym, ◌∙◌, ◌++◌, reverse}
use Rattle.std.specs.Prelude.{map}
use Rattle.wasm_types.specs.Plain.{plain_module}
use Rattle.wasm_machine.specs.Start.{code_at, zero_of}
use Rattle.wasm_machine.specs.Piles.{all, below, span}
use Rattle.wasm_machine.specs.Values.{shared_of}
use Rattle.wasm_machine.specs.Rests.{running}
use Rattle.wasm_machine.proofs.Calls.{begins, begins_not}
use Rattle.wasm_machine.proofs.state.State.begin.Goals as goal

pub returns-then-not-has_room-clause-leads : goal.returns-then-not-has_room-clause-leads
returns-then-not-has_room-clause-leads c = λ a.
    let s = c.args.self.now in
    let m = plain_module c.args.m.now in
    begins_not m (reverse s.callers.items) s.depth (below s.values.operands) (all s.values.locals) (all s.labels) c.args.ty (code_at m c.args.code) (span s.values.operands) (shared_of s.values) a (rw (← c.locals_at-locals.ensures) (sym c.has_room.ensures ∙ c.if-not-has_room.true))

pub returns-clause-leads : goal.returns-clause-leads
unfolding running
returns-clause-leads c = λ a.
    let s = c.args.self.now in
    let m = plain_module c.args.m.now in
    let new : all c.push_zeros.new.locals ≡ all s.values.locals ++ span s.values.operands ++ map zero_of (code_at m c.args.code).locals =
    c.in_ok-push_zeros.ensures.all ∙ rw (c.in_ok-push_all.ensures.all, c.raise-2.ensures.all, c.own_items.ensures, c.locals_at-locals.ensures) refl in
    let fresh : span c.push_zeros.new.locals ≡ span s.values.operands ++ map zero_of (code_at m c.args.code).locals =
    c.in_ok-push_zeros.ensures.span ∙ rw (c.in_ok-push_all.ensures.span, c.raise-2.ensures.span, c.own_items.ensures, c.locals_at-locals.ensures) refl in
    let low : below c.push_zeros.new.locals ≡ all s.values.locals = c.in_ok-push_zeros.ensures.below ∙ c.in_ok-push_all.ensures.below ∙ c.raise-2.ensures.below in
    rw (fresh, low, c.raise.ensures.own, c.raise.ensures.below, c.clear.ensures.below, c.clear.ensures.own)
    (begins m (reverse s.callers.items) s.depth (below s.values.operands) (all s.values.locals) (all c.push_zeros.new.locals) (all s.labels) c.args.ty (code_at m c.args.code) (span s.values.operands) (shared_of s.values) a (rw (← c.locals_at-locals.ensures) (sym c.has_room.ensures ∙ c.if-not-has_room.false)) new)
