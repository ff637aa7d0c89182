use Rattle.std.proofs.Common.{List, sym, subst, arith}
use Rattle.wasm_types.specs.Nesting.{Nests}
use Rattle.wasm_valid.specs.Contexts.{plain_context}
use Rattle.wasm_valid.specs.Frames.{Frame, may_elses}
use Rattle.wasm_valid.proofs.Stepping.{begins}
use Rattle.wasm_valid.proofs.body.check_body.Goals as goal

pub loop-at-init : goal.loop-at-init
loop-at-init c = record {
  within = omega arith;
  nests = subst (λ (fs : List Frame). Nests (may_elses fs) c.args.body.now) (sym c.new-blocks.ensures) c.requires.nests;
  fault = rw c.new-blocks.ensures (begins (plain_context c.args.c.now) c.args.body.now c.requires.nests);
}
