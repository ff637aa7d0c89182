use Rattle.std.proofs.Common.{◌≡◌, refl, sym, ◌∙◌, ap, ℕ, ◌+◌, List, [], ◌∷◌, Option, Some, None, reverse, length}
use Rattle.std.specs.Prelude.{slice_get}
use Rattle.wasm_machine.specs.declared.frame.Label.{Label}
use Rattle.wasm_machine.specs.Exec.{jumps, from, run}
use Rattle.wasm_machine.specs.Piles.{all, below, span, own}
use Rattle.wasm_machine.specs.Values.{shared_of}
use Rattle.wasm_machine.specs.Rests.{frame_at, ending, blocks, running, start_of}
use Rattle.wasm_machine.proofs.Blocks.{leads_from, no_blocks, jumps_to_label, jumps_to_loop, same_state, two_parts}
use Rattle.wasm_machine.proofs.state.State.arrive.Goals as goal

-- the label on top, if it is that of a loop
record OnTop (labels : List Label) (start : ℕ) : Type 0 where
  label : Label
  others : List Label
  labels_are : labels ≡ label ∷ others
  start_is : label.start ≡ Some start

none_some : {n : ℕ} → None ≡ Some n → ⊥
none_some h = cc

on_top : (labels : List Label) (start : ℕ) → start_of (slice_get labels 0) ≡ Some start → OnTop labels start
on_top [] start h = absurd (none_some h)
on_top (l ∷ ls) start h = record { label = l; others = ls; labels_are = refl; start_is = h }

pub returns-in-Some-clause-leads : goal.returns-in-Some-clause-leads
unfolding running
returns-in-Some-clause-leads c = λ m inner a h.
    let s = c.args.self.now in
    let f = frame_at m s.depth c.args.frame in
    let ops : List _ = below s.values.operands in
    let rest = ending m (reverse s.callers.items) (below s.values.locals) (below s.labels) s.depth c.args.frame.result in
    let found : start_of (slice_get (own s.labels) 0) ≡ Some c.in-Some.start = ap start_of (sym c.top.ensures) ∙ sym c.start_of.ensures ∙ c.in-Some.is in
    let at : OnTop (own s.labels) c.in-Some.start = on_top (own s.labels) c.in-Some.start found in
    rw (c.clear.ensures.below, c.clear.ensures.own)
    (jumps_to_loop m f (length (all s.values.locals)) rest at.label (own s.labels) at.others ops inner a c.in-Some.start at.labels_are at.start_is (two_parts ops at.label.floor)
    ∙ ap (λ ls. blocks m f (length (all s.values.locals)) rest ls ops (run m (from f (length (all s.values.locals) + length ops) c.in-Some.start (record { locals = inner.locals; operands = []; shared = inner.shared }) a))) (sym at.labels_are)
    ∙ ap (λ st. blocks m f (length (all s.values.locals)) rest (own s.labels) ops (run m (from f (length (all s.values.locals) + length ops) c.in-Some.start st a))) (same_state inner (span s.values.locals) (shared_of s.values) [] h.locals h.shared))

no_start : (label : Label) (top : Option Label) (rest labels : List Label) → labels ≡ label ∷ rest → top ≡ slice_get labels 0 → start_of top ≡ None → label.start ≡ None
no_start label top rest labels all found none = ap start_of (ap (λ ls. slice_get ls 0) (sym all) ∙ sym found) ∙ none

pub returns-in-Some-pop-clause-leads : goal.returns-in-Some-pop-clause-leads
returns-in-Some-pop-clause-leads c = λ m inner a h.
    let s = c.args.self.now in
    let f = frame_at m s.depth c.args.frame in
    let none : c.in-Some-pop.label.start ≡ None = no_start c.in-Some-pop.label c.top.result (own c.pop.new.self) (own s.labels) c.in-Some-pop.ensures.own c.top.ensures (sym c.start_of.ensures ∙ c.in-None.is) in
    leads_from m c.args.frame _ _ a _ _
    (rw (← c.in-Some-pop.ensures.below) (jumps_to_label m f (length (all s.values.locals)) (ending m (reverse s.callers.items) (below s.values.locals) (below c.pop.new.self) s.depth c.args.frame.result) c.in-Some-pop.label (own s.labels) (own c.pop.new.self) (below s.values.operands) inner a c.in-Some-pop.ensures.own none))
    (c.close.ensures.leads m inner a (record { top = h.top; locals = h.locals; shared = h.shared }))

pub returns-in-None-pop-clause-leads : goal.returns-in-None-pop-clause-leads
returns-in-None-pop-clause-leads c = λ m inner a h.
    let s = c.args.self.now in
    let f = frame_at m s.depth c.args.frame in
    leads_from m c.args.frame _ _ a _ _
    (rw (← c.in-None-pop.ensures.below) (no_blocks m f (length (all s.values.locals)) (reverse s.callers.items) (below s.values.locals) (below c.pop.new.self) s.depth c.args.frame.result (own s.labels) (below s.values.operands) (jumps 0 inner a) c.in-None-pop.ensures.own.0))
    (c.finish.ensures.leads m inner a (record { top = h.top; locals = h.locals; shared = h.shared }))
