use Rattle.std.proofs.Common.{arith, ◌∙◌, sym, ap, reverse}
use Rattle.wasm_types.specs.Body.{innermost}
use Rattle.wasm_types.specs.declared.instr.Instr.TheVariants.{Op}
use Rattle.wasm_reader.proofs.Placing.{nothing_done, no_closings, same, set_is, around}
use Rattle.wasm_reader.proofs.nesting.place_blocks.Goals as goal

pub loop-at-init : goal.loop-at-init
loop-at-init c = record {
  below = omega arith;
  done = nothing_done c.args.instrs.now;
  around = rw c.new-closings.ensures.items (no_closings c.args.instrs.now);
}

pub loop-at-preserved : goal.loop-at-preserved
loop-at-preserved c =
    let inv = c.loop-at.invariant in
    let here = same c.args.instrs.now c.loop-at.instrs c.loop-at.at (Op 0) c.loop-at-test.true inv.below inv.done in
    let last = c.last.ensures ∙ ap (λ l. innermost (reverse l)) c.deref.ensures.value ∙ ap innermost inv.around in
    record {
      below = omega (arith, inv.below);
      done = set_is c.args.instrs.now c.loop-at.instrs c.loop-at.at (Op 0) c.loop-at-test.true inv.below inv.done c.close.result (rw (here, last) at c.close.ensures);
      around = (rw (here, inv.around) at c.in_ok-go_back.ensures) ∙ sym (around c.args.instrs.now c.loop-at.instrs c.loop-at.at (Op 0) c.loop-at-test.true inv.below inv.done);
    }
