use Rattle.std.proofs.Common.{ap, cond, eq-eqb}
use Rattle.std.proofs.lemmas.Result.{err_from_is_err_and}
use Rattle.wasm_machine.specs.Exec.{goes, jumps, leaves, jumps_if}
use Rattle.wasm_machine.specs.Values.{seen}
use Rattle.wasm_machine.specs.Rests.{running}
use Rattle.wasm_machine.proofs.Moves.{with_pile, popped, not_popped, no_jumps_if}
use Rattle.wasm_machine.proofs.state.State.jump_if.Goals as goal

pub returns-in_err-c-clause-leads : goal.returns-in_err-c-clause-leads
returns-in_err-c-clause-leads c = λ m a.
    let s = c.args.self.now in
    let p = err_from_is_err_and c.from_residual.result c.from_residual.ensures.1 in
    rw (p.1, p.2) (not_popped m s c.pop_i32.new.operands c.args.next (λ values. jumps_if c.args.next.place c.args.label values (seen s.values) a) a c.in_err-c.field-0.0 c.in_err-c.ensures (no_jumps_if c.args.next.place c.args.label (seen s.values) a))

pub returns-then-c-eq0-clause-leads : goal.returns-then-c-eq0-clause-leads
unfolding running
returns-then-c-eq0-clause-leads c = λ m a.
    let s = c.args.self.now in
    let mid = with_pile s c.pop_i32.new.operands in
    popped m s c.pop_i32.new.operands c.args.next (λ values. jumps_if c.args.next.place c.args.label values (seen s.values) a) c.in_ok-c.c (goes c.args.next.place (seen mid.values) a) c.in_ok-c.ensures.0 c.in_ok-c.ensures.1
    (ap (λ b. cond b (goes c.args.next.place (seen mid.values) a) (leaves (jumps c.args.label (seen mid.values) a))) (eq-eqb c.in_ok-c.c 0 c.if-c-eq0.true))
