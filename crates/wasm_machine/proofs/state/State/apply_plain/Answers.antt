use Rattle.std.proofs.lemmas.Result.{err_from_is_err_and}
use Rattle.wasm_machine.specs.Effects.{plain_effect}
use Rattle.wasm_machine.specs.Values.{beside, seen}
use Rattle.wasm_machine.proofs.Moves.{effect_done, effect_stopped}
use Rattle.wasm_machine.proofs.state.State.apply_plain.Goals as goal

pub returns-in_err-plain-clause-leads : goal.returns-in_err-plain-clause-leads
returns-in_err-plain-clause-leads c = λ m a.
    let s = c.args.self.now in
    let p = err_from_is_err_and c.from_residual.result c.from_residual.ensures.1 in
    rw (p.1, p.2) (effect_stopped (Unit {0}) m s c.plain.new.self c.args.next a (plain_effect c.args.kind c.args.op (beside s.values) (seen s.values)) c.in_err-plain.field-0.0 c.in_err-plain.ensures)

pub returns-clause-leads : goal.returns-clause-leads
returns-clause-leads c = λ m a.
    let s = c.args.self.now in
    effect_done m s c.plain.new.self c.args.next a (plain_effect c.args.kind c.args.op (beside s.values) (seen s.values)) c.in_ok-plain.ensures.0 c.in_ok-plain.ensures.1
