use Rattle.std.proofs.lemmas.Result.{err_from_is_err_and}
use Rattle.wasm_types.specs.Plain.{plain_module}
use Rattle.wasm_machine.specs.Exec.{calls_indirect}
use Rattle.wasm_machine.specs.Values.{seen}
use Rattle.wasm_machine.specs.Rests.{ahead}
use Rattle.wasm_machine.proofs.Moves.{not_popped, no_calls_indirect}
use Rattle.wasm_machine.proofs.state.State.call_indirect.Goals as goal

pub returns-in_err-i-clause-leads : goal.returns-in_err-i-clause-leads
returns-in_err-i-clause-leads c = λ acts h.
    let s = c.args.self.now in
    let p = err_from_is_err_and c.from_residual.result c.from_residual.ensures.1 in
    rw (p.1, p.2) (not_popped (plain_module c.args.code.now.module.now) s c.pop_i32.new.operands c.args.next (λ values. calls_indirect (plain_module c.args.code.now.module.now) c.args.ty values (seen s.values) (ahead c.args.meter.now.left c.args.code.now.costs.now acts)) (ahead c.args.meter.now.left c.args.code.now.costs.now acts) c.in_err-i.field-0.0 c.in_err-i.ensures (no_calls_indirect (plain_module c.args.code.now.module.now) c.args.ty (seen s.values) (ahead c.args.meter.now.left c.args.code.now.costs.now acts)))
