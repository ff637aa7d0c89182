use Rattle.std.proofs.lemmas.Result.{err_from_is_err_and}
use Rattle.wasm_machine.specs.Exec.{opens_if}
use Rattle.wasm_machine.specs.Values.{seen}
use Rattle.wasm_machine.proofs.Moves.{not_popped, no_opens_if}
use Rattle.wasm_machine.proofs.state.State.open_if.Goals as goal

pub returns-in_err-c-clause-leads : goal.returns-in_err-c-clause-leads
returns-in_err-c-clause-leads c = λ m a.
    let s = c.args.self.now in
    let p = err_from_is_err_and c.from_residual.result c.from_residual.ensures.1 in
    rw (p.1, p.2) (not_popped m s c.pop_i32.new.operands c.args.next (λ values. opens_if c.args.next.place c.args.ty c.args.els c.args.end values (seen s.values) a) a c.in_err-c.field-0.0 c.in_err-c.ensures (no_opens_if c.args.next.place c.args.ty c.args.els c.args.end (seen s.values) a))
