use Rattle.std.proofs.lemmas.Result.{err_from_is_err_and}
use Rattle.wasm_machine.specs.Kinds.{width}
use Rattle.wasm_machine.specs.Effects.{memory_effect}
use Rattle.wasm_machine.specs.Values.{seen}
use Rattle.wasm_machine.proofs.Moves.{effect_done, effect_stopped}
use Rattle.wasm_machine.proofs.state.State.access.Goals as goal

pub returns-in_err-access-clause-leads : goal.returns-in_err-access-clause-leads
returns-in_err-access-clause-leads c = λ m a.
    let s = c.args.self.now in
    let p = err_from_is_err_and c.from_residual.result c.from_residual.ensures.1 in
    rw (p.1, p.2) (effect_stopped (Unit {0}) m s c.access.new.self c.args.next a (memory_effect (width c.args.op) c.args.op c.args.offset (seen s.values)) c.in_err-access.field-0.0 c.in_err-access.ensures)

pub returns-clause-leads : goal.returns-clause-leads
returns-clause-leads c = λ m a.
    let s = c.args.self.now in
    effect_done m s c.access.new.self c.args.next a (memory_effect (width c.args.op) c.args.op c.args.offset (seen s.values)) c.in_ok-access.ensures.0 c.in_ok-access.ensures.1
