use Rattle.std.proofs.Common.{◌≡◌, refl, sym, ◌∙◌, ap, ℕ, ◌+◌, List, ◌∷◌, Option, take, length, reverse, Ok, Err}
use Rattle.std.proofs.lemmas.Result.{err_from_is_err_and}
use Rattle.wasm_types.specs.declared.value.Value.{Value}
use Rattle.wasm_types.specs.Plain.{PlainModule}
use Rattle.wasm_machine.specs.declared.stop.Stop.{Stop}
use Rattle.wasm_machine.specs.declared.stop.Stop.TheVariants as stops
use Rattle.wasm_machine.specs.declared.state.State as states
use Rattle.wasm_machine.specs.declared.values.Values.{Values}
use Rattle.wasm_machine.specs.declared.frame.Frame as frames
use Rattle.wasm_machine.specs.declared.frame.Label.{Label}
use Rattle.wasm_machine.specs.declared.frame.Caller.{Caller}
use Rattle.wasm_machine.specs.declared.frame.Caller.TheVariants.{Function}
use Rattle.wasm_machine.specs.Effects.{given, Shared}
use Rattle.wasm_machine.specs.Exec.{Ahead, gives, trapped}
use Rattle.wasm_machine.specs.Piles.{all}
use Rattle.wasm_machine.specs.Values.{seen, shared_of, Does}
use Rattle.wasm_machine.specs.Rests.{through, running, waiting, LeadsOn}
use Rattle.wasm_machine.proofs.Calls.{waiting_state, given_value, given_trap}
use Rattle.wasm_machine.proofs.state.State.give_to.Goals as goal

pub returns-in-Host-clause-leads : goal.returns-in-Host-clause-leads
unfolding through waiting
returns-in-Host-clause-leads c = λ m a. rw c.in-Host.is refl

-- a stop while the value is given
stopped : (m : PlainModule) (cs : List Caller) (frame : frames.Frame) (depth fo fl fb : ℕ) (ops locals : List Value) (labels : List Label) (shared : Shared) (value : Option Value) (e : Stop) (mid after : Values) (new : states.State) (a : Ahead) → new.values ≡ after → shared_of mid ≡ shared → Does {A = Unit {0}} (Err e) (given (length locals + length (take fo ops)) value (waiting_state fo fl ops locals shared)) mid after → LeadsOn m value (Err e) new a (through m (Function frame fo fl fb ∷ cs) ops locals labels depth (gives value shared a))
stopped m cs frame depth fo fl fb ops locals labels shared value (stops.Trap kind) mid after new a same was h =
    given_trap m cs frame depth fo fl fb ops locals labels shared value kind a h.0
    ∙ ap (λ x. trapped kind x a) (sym was ∙ sym h.1 ∙ ap shared_of (sym same))
stopped m cs frame depth fo fl fb ops locals labels shared value stops.OutOfGas mid after new a same was h = h
stopped m cs frame depth fo fl fb ops locals labels shared value stops.NoMemory mid after new a same was h = tt

pub returns-in_err-give-in-Function-clause-leads : goal.returns-in_err-give-in-Function-clause-leads
returns-in_err-give-in-Function-clause-leads c = λ m a.
    let s = c.args.self.now in
    let f = c.in-Function in
    let mid : Values = record { memory = s.values.memory; globals = s.values.globals; operands = c.restore.new.self; locals = c.restore-in-Function.new.self } in
    let p = err_from_is_err_and c.from_residual.result c.from_residual.ensures.1 in
    rw (p.1, p.2, c.in-Function.is)
    (stopped m (reverse s.callers.items) f.frame s.depth f.operands f.locals f.labels (all s.values.operands) (all s.values.locals) (all s.labels) (shared_of s.values) c.args.value c.in_err-give-in-Function.field-0.0 mid c.give.new.self _ a refl refl
    (rw (← c.restore.ensures.below, ← c.restore.ensures.span, ← c.restore-in-Function.ensures.span, ← c.restore-in-Function.ensures.all) c.in_err-give-in-Function.ensures))

pub returns-in_ok-give-in-Function-clause-leads : goal.returns-in_ok-give-in-Function-clause-leads
unfolding running
returns-in_ok-give-in-Function-clause-leads c = λ m a.
    let s = c.args.self.now in
    let f = c.in-Function in
    let k = c.in_ok-give-in-Function.ensures.1 in
    let e : given (length (all s.values.locals) + length (take f.operands (all s.values.operands))) c.args.value (waiting_state f.operands f.locals (all s.values.operands) (all s.values.locals) (shared_of s.values)) ≡ Ok (seen c.give.new.self) =
    rw (← c.restore.ensures.below, ← c.restore.ensures.span, ← c.restore-in-Function.ensures.span, ← c.restore-in-Function.ensures.all) c.in_ok-give-in-Function.ensures.0 in
    rw (c.in-Function.is, k.size, c.restore-in-Function.ensures.all, k.operands, c.restore.ensures.below, k.locals, c.restore-in-Function.ensures.below, c.restore-in-Function-2.ensures.below, c.restore-in-Function-2.ensures.span)
    (given_value m (reverse s.callers.items) f.frame s.depth f.operands f.locals f.labels (all s.values.operands) (all s.values.locals) (all s.labels) (shared_of s.values) c.args.value (seen c.give.new.self) a e)
