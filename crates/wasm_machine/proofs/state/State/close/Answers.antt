use Rattle.std.proofs.Common.{◌≡◌, refl, sym, ◌∙◌, ap, ◌+◌, List, ◌++◌, Option, Some, None, Err, take, drop, length, reverse}
use Rattle.std.proofs.lemmas.Result.{err_from_is_err_and}
use Rattle.wasm_types.specs.declared.value.Value.{Value}
use Rattle.wasm_types.specs.Plain.{PlainModule}
use Rattle.wasm_machine.specs.declared.pile.Pile.{Pile}
use Rattle.wasm_machine.specs.declared.state.State.{State}
use Rattle.wasm_machine.specs.declared.frame.Frame.{Frame}
use Rattle.wasm_machine.specs.declared.frame.Label.{Label}
use Rattle.wasm_machine.specs.declared.stop.Stop.{Stop}
use Rattle.wasm_machine.specs.declared.stop.Stop.TheVariants.{Trap, OutOfGas, NoMemory}
use Rattle.wasm_machine.specs.Effects as effects
use Rattle.wasm_machine.specs.Exec.{Ahead, trapped}
use Rattle.wasm_machine.specs.Control.{handed_on, Hands}
use Rattle.wasm_machine.specs.Piles.{all, below, span, own}
use Rattle.wasm_machine.specs.Values.{shared_of}
use Rattle.wasm_machine.specs.Rests.{frame_at, ending, running, blocks, closing, Leads, HasTop}
use Rattle.wasm_machine.proofs.Piles.{cleared_span}
use Rattle.wasm_machine.proofs.Blocks.{handed_value, handed_none, blocks-ends, ending-ends}
use Rattle.wasm_machine.proofs.state.State.close.Goals as goal

-- a stop of `hand`, behind which the state has these shared values
stopped : (s new : State) (frame : Frame) (l : Label) (value : Option Value) (mid after : Pile Value) (e : Stop) → span mid ≡ drop l.floor (below s.values.operands) → shared_of new.values ≡ shared_of s.values → Hands {A = Unit {0}} l.result value mid after (Err e) → (m : PlainModule) (inner : effects.State) (a : Ahead) → HasTop s value inner → Leads m frame (Err e) new a (closing m s frame l inner a)
stopped s new frame l value mid after NoMemory outer same h m inner a top = tt
stopped s new frame l value mid after OutOfGas outer same h m inner a top = absurd h
stopped s new frame l value mid after (Trap kind) outer same h m inner a top =
    let f = frame_at m s.depth frame in
    let lower : List Value = below s.values.operands in
    let none : handed_on l.result value (reverse (drop l.floor lower)) ≡ None = ap (λ xs. handed_on l.result value (reverse xs)) (sym outer) ∙ h.0 in
    let rest = ending m (reverse s.callers.items) (below s.values.locals) (below s.labels) s.depth frame.result in
    ap (λ o. blocks m f (length (all s.values.locals)) rest (own s.labels) (take l.floor lower) o) (handed_none m f (length (all s.values.locals) + length (take l.floor lower)) l.after l.result value (reverse (drop l.floor lower)) inner (shared_of s.values) a top.top top.shared none)
    ∙ blocks-ends m f (length (all s.values.locals)) rest (own s.labels) (take l.floor lower) _ (ending-ends m (reverse s.callers.items) (below s.values.locals) (below s.labels) s.depth frame.result _)
    ∙ ap (λ k. trapped k (shared_of s.values) a) (sym h.1) ∙ ap (λ x. trapped kind x a) (sym same)

pub returns-in_err-hand-clause-leads : goal.returns-in_err-hand-clause-leads
returns-in_err-hand-clause-leads c =
    let s = c.args.self.now in
    let l = c.args.label in
    let p = err_from_is_err_and c.from_residual.result c.from_residual.ensures.1 in
    let outer : span c.reset.new.self ≡ drop l.floor (below s.values.operands) =
    cleared_span (drop l.floor (below s.values.operands)) (span c.clear.new.self) (span c.reset.new.self) c.clear.ensures.span (c.reset.ensures.span ∙ ap (λ xs. drop l.floor xs ++ span c.clear.new.self) c.clear.ensures.below) in
    rw (p.1, p.2) (stopped s _ c.args.frame l c.args.value c.reset.new.self c.hand.new.operands c.in_err-hand.field-0.0 outer refl c.in_err-hand.ensures)

pub returns-clause-leads : goal.returns-clause-leads
unfolding running
returns-clause-leads c = λ m inner a h.
    let s = c.args.self.now in
    let lower : List Value = below s.values.operands in
    let l = c.args.label in
    let outer : span c.reset.new.self ≡ drop l.floor lower =
    cleared_span (drop l.floor lower) (span c.clear.new.self) (span c.reset.new.self) c.clear.ensures.span (c.reset.ensures.span ∙ ap (λ xs. drop l.floor xs ++ span c.clear.new.self) c.clear.ensures.below) in
    let at : below c.hand.new.operands ≡ take l.floor lower = c.in_ok-hand.ensures.1 ∙ c.reset.ensures.below ∙ ap (take l.floor) c.clear.ensures.below in
    let given : handed_on l.result c.args.value (reverse (drop l.floor lower)) ≡ Some (own c.hand.new.operands) =
    ap (λ xs. handed_on l.result c.args.value (reverse xs)) (sym outer) ∙ c.in_ok-hand.ensures.0 in
    let f = frame_at m s.depth c.args.frame in
    rw at
    (ap (λ o. blocks m f (length (all s.values.locals)) (ending m (reverse s.callers.items) (below s.values.locals) (below s.labels) s.depth c.args.frame.result) (own s.labels) (take l.floor lower) o)
    (handed_value m f (length (all s.values.locals) + length (take l.floor lower)) l.after l.result c.args.value (reverse (drop l.floor lower)) (own c.hand.new.operands) inner (span s.values.locals) (shared_of s.values) a h.top h.locals h.shared given))
