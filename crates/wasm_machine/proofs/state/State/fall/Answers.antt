use Rattle.std.proofs.Common.{refl, sym, reverse, length}
use Rattle.wasm_machine.specs.Exec.{falls}
use Rattle.wasm_machine.specs.Piles.{all, below, own}
use Rattle.wasm_machine.specs.Values.{seen}
use Rattle.wasm_machine.specs.Rests.{frame_at, ending}
use Rattle.wasm_machine.proofs.Blocks.{leads_from, falls_to_label, no_blocks}
use Rattle.wasm_machine.proofs.state.State.fall.Goals as goal

pub returns-in-Some-clause-leads : goal.returns-in-Some-clause-leads
returns-in-Some-clause-leads c = λ m a.
    let s = c.args.self.now in
    let f = frame_at m s.depth c.args.frame in
    leads_from m c.args.frame _ _ a _ _
    (rw (← c.in-Some.ensures.below) (falls_to_label m f (length (all s.values.locals)) (ending m (reverse s.callers.items) (below s.values.locals) (below c.pop.new.self) s.depth c.args.frame.result) c.in-Some.label (own s.labels) (own c.pop.new.self) (below s.values.operands) (seen s.values) a c.in-Some.ensures.own))
    (c.close.ensures.leads m (seen s.values) a (record { top = sym c.top-value.ensures; locals = refl; shared = refl }))

pub returns-in-None-clause-leads : goal.returns-in-None-clause-leads
returns-in-None-clause-leads c = λ m a.
    let s = c.args.self.now in
    let f = frame_at m s.depth c.args.frame in
    leads_from m c.args.frame _ _ a _ _
    (rw (← c.in-None.ensures.below) (no_blocks m f (length (all s.values.locals)) (reverse s.callers.items) (below s.values.locals) (below c.pop.new.self) s.depth c.args.frame.result (own s.labels) (below s.values.operands) (falls (seen s.values) a) c.in-None.ensures.own.0))
    (c.finish.ensures.leads m (seen s.values) a (record { top = sym c.top-value.ensures; locals = refl; shared = refl }))
