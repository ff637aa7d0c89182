use Rattle.std.proofs.Common.{◌∙◌, reverse, length, arith}
use Rattle.wasm_machine.specs.Exec.{returns}
use Rattle.wasm_machine.specs.Piles.{all, below, own}
use Rattle.wasm_machine.specs.Values.{seen}
use Rattle.wasm_machine.specs.Rests.{frame_at, ending}
use Rattle.wasm_machine.proofs.Blocks.{leads_from, returns_out, no_blocks}
use Rattle.wasm_machine.proofs.state.State.return_from.Goals as goal

pub loop-left-preserved : goal.loop-left-preserved
loop-left-preserved c =
    let s = c.loop-left.self in
    record {
      same = λ m a. c.loop-left.invariant.same m a
          ∙ rw (c.reset.ensures.below, c.in-Some.ensures.below) (returns_out m (frame_at m s.depth c.args.frame) (length (all s.values.locals)) (ending m (reverse s.callers.items) (below s.values.locals) (below s.labels) s.depth c.args.frame.result) c.in-Some.left (own s.labels) (own c.pop.new.self) (below s.values.operands) (seen c.args.self.now.values) a c.in-Some.ensures.own);
      top = record { top = c.loop-left.invariant.top.top; locals = c.loop-left.invariant.top.locals; shared = c.loop-left.invariant.top.shared };
      callers = c.loop-left.invariant.callers;
      sinks = omega (arith, c.in-Some.ensures.size, c.loop-left.invariant.sinks);
    }

pub returns-in-None-clause-leads : goal.returns-in-None-clause-leads
returns-in-None-clause-leads c = λ m a.
    let s = c.loop-left.self in
    leads_from m c.args.frame _ _ a _ _
    (c.loop-left.invariant.same m a
    ∙ rw (← c.in-None.ensures.below) (no_blocks m (frame_at m s.depth c.args.frame) (length (all s.values.locals)) (reverse s.callers.items) (below s.values.locals) (below c.pop.new.self) s.depth c.args.frame.result (own s.labels) (below s.values.operands) (returns (seen c.args.self.now.values) a) c.in-None.ensures.own.0))
    (c.finish.ensures.leads m (seen c.args.self.now.values) a (record { top = c.loop-left.invariant.top.top; locals = c.loop-left.invariant.top.locals; shared = c.loop-left.invariant.top.shared }))
