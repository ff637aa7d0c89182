use Rattle.std.proofs.Common.{◌≡◌, sym, ◌∙◌, ap, ◌+◌, length, reverse, Some, None}
use Rattle.std.specs.Option.{option_map}
use Rattle.wasm_types.specs.Plain.{plain_module, plain_func_type}
use Rattle.wasm_machine.specs.Start.{func_type}
use Rattle.wasm_machine.specs.Piles.{all, below, span}
use Rattle.wasm_machine.specs.Values.{shared_of}
use Rattle.wasm_machine.specs.Rests.{through, waiting}
use Rattle.wasm_machine.proofs.Blocks.{steps_from, through-ends}
use Rattle.wasm_machine.proofs.Calls.{entered_import, entered_code, entered_none}
use Rattle.wasm_machine.proofs.state.State.enter.Goals as goal

pub returns-then-func-imported-clause-leads : goal.returns-then-func-imported-clause-leads
unfolding waiting
returns-then-func-imported-clause-leads c = λ a.
    let s = c.args.self.now in
    let m = plain_module c.args.m.now in
    rw (c.in_ok-args.ensures.items, c.own_items.ensures, c.clear.ensures.all)
    (ap (λ o. through m (reverse s.callers.items) (below s.values.operands) (all s.values.locals) (all s.labels) s.depth o)
    (entered_import m s.depth (length (all s.values.locals) + length (below s.values.operands)) c.args.func (span s.values.operands) (shared_of s.values) a (rw c.imported-imported.ensures at c.if-func-imported.true)))

pub returns-in-None-clause-leads : goal.returns-in-None-clause-leads
returns-in-None-clause-leads c = λ a.
    let s = c.args.self.now in
    let m = plain_module c.args.m.now in
    let none : func_type m c.args.func ≡ None = sym c.func_type.ensures ∙ ap (option_map (λ t. plain_func_type t.now)) c.in-None.is in
    ap (λ o. through m (reverse s.callers.items) (below s.values.operands) (all s.values.locals) (all s.labels) s.depth o)
    (entered_none m s.depth (length (all s.values.locals) + length (below s.values.operands)) c.args.func (span s.values.operands) (shared_of s.values) a (rw c.imported-imported.ensures at c.if-func-imported.false) none)
    ∙ through-ends m (reverse s.callers.items) (below s.values.operands) (all s.values.locals) (all s.labels) s.depth _

pub returns-in-Some-clause-leads : goal.returns-in-Some-clause-leads
returns-in-Some-clause-leads c = λ a.
    let s = c.args.self.now in
    let m = plain_module c.args.m.now in
    let some : func_type m c.args.func ≡ Some (plain_func_type c.in-Some.ty.now) = sym c.func_type.ensures ∙ ap (option_map (λ t. plain_func_type t.now)) c.in-Some.is in
    steps_from m _ _ a _ _
    (ap (λ o. through m (reverse s.callers.items) (below s.values.operands) (all s.values.locals) (all s.labels) s.depth o)
    (entered_code m s.depth (length (all s.values.locals) + length (below s.values.operands)) c.args.func (plain_func_type c.in-Some.ty.now) (span s.values.operands) (shared_of s.values) a (rw c.imported-imported.ensures at c.if-func-imported.false) some))
    (rw c.imported-imported.ensures at c.begin.ensures.leads a)
