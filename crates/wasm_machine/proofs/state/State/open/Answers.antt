use Rattle.std.proofs.Common.{length, reverse}
use Rattle.wasm_machine.specs.Piles.{all, below, span, own}
use Rattle.wasm_machine.specs.Values.{shared_of}
use Rattle.wasm_machine.specs.Rests.{frame_at, ending, running}
use Rattle.wasm_machine.proofs.Piles.{size_split}
use Rattle.wasm_machine.proofs.Blocks.{opened}
use Rattle.wasm_machine.proofs.state.State.open.Goals as goal

pub returns-clause-leads : goal.returns-clause-leads
unfolding running
returns-clause-leads c = λ m a.
    let s = c.args.self.now in
    let v = s.values in
    rw (c.in_ok-push.ensures.own, c.turn_of.ensures, c.in_ok-push.ensures.below, c.raise-floor.ensures.below, c.raise-floor.ensures.own)
    (opened m (frame_at m s.depth c.args.frame) (length (all v.locals)) (ending m (reverse s.callers.items) (below v.locals) (below s.labels) s.depth c.args.frame.result) (own s.labels) (below v.operands) (span v.operands) (all v.operands) c.raise-floor.result c.args.loops c.args.ty c.args.start c.args.after c.args.frame.place (span v.locals) (shared_of v) a c.raise-floor.ensures.floor c.raise-floor.ensures.from (size_split v.operands))
