use Rattle.std.proofs.lemmas.Result.{err_from_is_err_and}
use Rattle.wasm_machine.specs.Exec.{grows}
use Rattle.wasm_machine.specs.Values.{seen}
use Rattle.wasm_machine.specs.Rests.{ahead}
use Rattle.wasm_machine.proofs.Moves.{not_popped, no_grows}
use Rattle.wasm_machine.proofs.state.State.grow.Goals as goal

pub returns-in_err-pages-clause-leads : goal.returns-in_err-pages-clause-leads
returns-in_err-pages-clause-leads c = λ m acts.
    let s = c.args.self.now in
    let p = err_from_is_err_and c.from_residual.result c.from_residual.ensures.1 in
    rw (p.1, p.2) (not_popped m s c.pop_i32.new.operands c.args.next (λ values. grows c.args.next.place values (seen s.values) (ahead c.args.meter.now.left c.args.costs.now acts)) (ahead c.args.meter.now.left c.args.costs.now acts) c.in_err-pages.field-0.0 c.in_err-pages.ensures (no_grows c.args.next.place (seen s.values) (ahead c.args.meter.now.left c.args.costs.now acts)))
