use Rattle.std.proofs.Common.{◌≡◌, ◌∙◌, ap, ℕ, suc, ◌+◌, ◌-◌, ◌<◌, reverse, length, arith}
use Rattle.wasm_machine.specs.declared.turn.TrapKind.TheVariants.{Unreachable}
use Rattle.wasm_machine.specs.Exec.{jumps, trapped}
use Rattle.wasm_machine.specs.Piles.{all, below, own}
use Rattle.wasm_machine.specs.Values.{seen}
use Rattle.wasm_machine.specs.Rests.{frame_at, ending, inside}
use Rattle.wasm_machine.proofs.Blocks.{jumps_out, no_blocks, through-ends}
use Rattle.wasm_machine.proofs.state.State.jump.Goals as goal

one_more : (n i : ℕ) → i < n → n - i ≡ suc (n - (i + 1))
one_more n i h = omega arith

pub loop-preserved : goal.loop-preserved
loop-preserved c =
    let s = c.loop.self in
    record {
      same = λ m a. c.loop.invariant.same m a
          ∙ ap (λ k. inside m s c.args.frame (jumps k (seen c.args.self.now.values) a)) (one_more c.args.label c.loop.counter c.loop-test.true)
          ∙ rw (c.reset.ensures.below, c.in-Some.ensures.below) (jumps_out m (frame_at m s.depth c.args.frame) (length (all s.values.locals)) (ending m (reverse s.callers.items) (below s.values.locals) (below s.labels) s.depth c.args.frame.result) c.in-Some.left (own s.labels) (own c.pop.new.self) (below s.values.operands) (c.args.label - (c.loop.counter + 1)) (seen c.args.self.now.values) a c.in-Some.ensures.own);
      top = record { top = c.loop.invariant.top.top; locals = c.loop.invariant.top.locals; shared = c.loop.invariant.top.shared };
      callers = c.loop.invariant.callers;
      sinks = omega (arith, c.in-Some.ensures.size, c.loop.invariant.sinks);
    }

pub returns-in-None-clause-leads : goal.returns-in-None-clause-leads
returns-in-None-clause-leads c = λ m a.
    let s = c.loop.self in
    c.loop.invariant.same m a
    ∙ ap (λ k. inside m s c.args.frame (jumps k (seen c.args.self.now.values) a)) (one_more c.args.label c.loop.counter c.loop-test.true)
    ∙ no_blocks m (frame_at m s.depth c.args.frame) (length (all s.values.locals)) (reverse s.callers.items) (below s.values.locals) (below s.labels) s.depth c.args.frame.result (own s.labels) (below s.values.operands) (jumps (suc (c.args.label - (c.loop.counter + 1))) (seen c.args.self.now.values) a) c.in-None.ensures.own.0
    ∙ through-ends m (reverse s.callers.items) (below s.values.operands) (below s.values.locals) (below s.labels) (s.depth - 1) _
    ∙ ap (λ x. trapped Unreachable x a) c.loop.invariant.top.shared
