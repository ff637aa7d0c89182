use Rattle.std.proofs.Common.{◌≡◌, refl, sym, ◌∙◌, ap, ℕ, ◌-◌, ◌≤◌, length, Some, None, arith}
use Rattle.std.proofs.lemmas.Result.{err_from_is_err_and}
use Rattle.std.specs.Option.{option_map}
use Rattle.wasm_types.specs.Plain.{plain_module, plain_func_type}
use Rattle.wasm_machine.specs.Start.{func_type}
use Rattle.wasm_machine.specs.Exec.{Ahead, Move, calls_with, calls_typed, declared}
use Rattle.wasm_machine.specs.Values.{seen, shared_of}
use Rattle.wasm_machine.specs.Rests.{moved, ahead}
use Rattle.wasm_machine.proofs.Blocks.{leads_from}
use Rattle.wasm_machine.proofs.Moves.{inside_ends, paid_ok, not_paid, charges_same}
use Rattle.wasm_machine.proofs.state.State.call.Goals as goal

pub returns-in-None-clause-leads : goal.returns-in-None-clause-leads
returns-in-None-clause-leads c = λ acts.
    let s = c.args.self.now in
    let m = plain_module c.args.code.now.module.now in
    let none : func_type m c.args.func ≡ None = sym c.func_type.ensures ∙ ap (option_map (λ t. plain_func_type t.now)) c.in-None.is in
    ap (λ o. moved m s c.args.next (calls_typed m c.args.func o (seen s.values) (ahead c.args.meter.now.left c.args.code.now.costs.now acts))) none
    ∙ inside_ends m s c.args.next _

pub returns-in_err-charge-in-Some-clause-leads : goal.returns-in_err-charge-in-Some-clause-leads
returns-in_err-charge-in-Some-clause-leads c = λ acts.
    let s = c.args.self.now in
    let m = plain_module c.args.code.now.module.now in
    let some : func_type m c.args.func ≡ Some (plain_func_type c.in-Some.ty.now) = sym c.func_type.ensures ∙ ap (option_map (λ t. plain_func_type t.now)) c.in-Some.is in
    let p = err_from_is_err_and c.from_residual.result c.from_residual.ensures.1 in
    let a = ahead c.args.meter.now.left c.args.code.now.costs.now acts in
    rw (p.1, p.2, some)
    (not_paid (Unit {0}) m s c.args.next (length (declared m c.args.func)) c.charge.new.meter.left a (ahead c.charge.new.meter.left c.args.code.now.costs.now acts) (λ b. calls_with c.args.func (length c.in-Some.ty.now.params.items) (seen s.values) b) c.in_err-charge-in-Some.field-0.0 refl (charges_same (Unit {0}) c.declared.result (length (declared m c.args.func)) _ _ _ c.declared.ensures c.in_err-charge-in-Some.ensures.left))

pub returns-in_ok-charge-in-Some-clause-leads : goal.returns-in_ok-charge-in-Some-clause-leads
returns-in_ok-charge-in-Some-clause-leads c = λ acts.
    let s = c.args.self.now in
    let m = plain_module c.args.code.now.module.now in
    let some : func_type m c.args.func ≡ Some (plain_func_type c.in-Some.ty.now) = sym c.func_type.ensures ∙ ap (option_map (λ t. plain_func_type t.now)) c.in-Some.is in
    let a = ahead c.args.meter.now.left c.args.code.now.costs.now acts in
    let n : ℕ = length (declared m c.args.func) in
    let k : Ahead → Move = λ b. calls_with c.args.func (length c.in-Some.ty.now.params.items) (seen s.values) b in
    let h = c.in_ok-charge-in-Some.ensures.left in
    let enough : n ≤ a.left = omega (arith, h.0, c.declared.ensures) in
    let left : c.args.meter.now.left - n ≡ c.charge.new.meter.left = omega (arith, h.1, c.declared.ensures) in
    let size : length c.in-Some.ty.now.params.items ≡ c.len.result = omega (arith, c.len.ensures, c.in-Some.ty.now.params.ok.0) in
    leads_from m c.args.next _ _ _ _ _
    (ap (λ o. moved m s c.args.next (calls_typed m c.args.func o (seen s.values) a)) some
    ∙ ap (λ mv. moved m s c.args.next mv) (paid_ok n (shared_of s.values) a k enough)
    ∙ ap (λ l. moved m s c.args.next (calls_with c.args.func (length c.in-Some.ty.now.params.items) (seen s.values) (ahead l c.args.code.now.costs.now acts))) left
    ∙ ap (λ l. moved m s c.args.next (calls_with c.args.func l (seen s.values) (ahead c.charge.new.meter.left c.args.code.now.costs.now acts))) size)
    (c.call_with.ensures.leads m (ahead c.charge.new.meter.left c.args.code.now.costs.now acts))
