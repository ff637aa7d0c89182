use Rattle.std.proofs.Common.{sym, ◌∙◌, ap}
use Rattle.std.proofs.lemmas.Result.{err_from_is_err_and}
use Rattle.wasm_machine.specs.Exec.{bad, jumps_to, jumps_by}
use Rattle.wasm_machine.specs.Values.{seen}
use Rattle.wasm_machine.proofs.Moves.{inside_ends, with_pile, popped, not_popped, no_jumps_by}
use Rattle.wasm_machine.proofs.state.State.jump_by.Goals as goal

pub returns-in_err-i-clause-leads : goal.returns-in_err-i-clause-leads
returns-in_err-i-clause-leads c = λ m a.
    let s = c.args.self.now in
    let p = err_from_is_err_and c.from_residual.result c.from_residual.ensures.1 in
    rw (p.1, p.2) (not_popped m s c.pop_i32.new.operands c.args.next (λ values. jumps_by c.args.targets.now c.args.first c.args.count c.args.default values (seen s.values) a) a c.in_err-i.field-0.0 c.in_err-i.ensures (no_jumps_by c.args.targets.now c.args.first c.args.count c.args.default (seen s.values) a))

pub returns-in-None-clause-leads : goal.returns-in-None-clause-leads
returns-in-None-clause-leads c = λ m a.
    let s = c.args.self.now in
    let mid = with_pile s c.pop_i32.new.operands in
    popped m s c.pop_i32.new.operands c.args.next (λ values. jumps_by c.args.targets.now c.args.first c.args.count c.args.default values (seen s.values) a) c.in_ok-i.i (bad (seen mid.values) a) c.in_ok-i.ensures.0 c.in_ok-i.ensures.1
    (ap (λ o. jumps_to o (seen mid.values) a) (sym c.label_of.ensures ∙ c.in-None.is))
    ∙ inside_ends m mid c.args.next _
