use Rattle.std.proofs.lemmas.Result.{err_from_is_err_and}
use Rattle.wasm_machine.specs.Effects.{push}
use Rattle.wasm_machine.specs.Values.{beside, seen}
use Rattle.wasm_machine.proofs.Moves.{effect_done, effect_stopped}
use Rattle.wasm_machine.proofs.state.State.push.Goals as goal

pub returns-in_err-push-clause-leads : goal.returns-in_err-push-clause-leads
returns-in_err-push-clause-leads c = λ m a.
    let s = c.args.self.now in
    let p = err_from_is_err_and c.from_residual.result c.from_residual.ensures.1 in
    rw (p.1, p.2) (effect_stopped (Unit {0}) m s c.push.new.self c.args.next a (push (beside s.values) c.args.value (seen s.values)) c.in_err-push.field-0.0 c.in_err-push.ensures)

pub returns-clause-leads : goal.returns-clause-leads
returns-clause-leads c = λ m a.
    let s = c.args.self.now in
    effect_done m s c.push.new.self c.args.next a (push (beside s.values) c.args.value (seen s.values)) c.in_ok-push.ensures.0 c.in_ok-push.ensures.1
