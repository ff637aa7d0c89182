use Rattle.std.proofs.Common.{arith}
use Rattle.wasm_valid.proofs.Labels.{outer_label, no_label}
use Rattle.wasm_valid.proofs.blocks.Blocks.label.Goals as goal

pub returns-then-depth-len : goal.returns-then-depth-len
returns-then-depth-len c =
    outer_label c.args.self.now.inner.label c.args.self.now.outer.items c.len-then-depth-len.result c.args.depth (omega (arith, c.args.self.now.outer.ok.0, c.len-then-depth-len.ensures)) c.index.result.now
    (omega (arith, c.if-depth-eq0.false)) (omega (arith, c.if-depth-len.true, c.len.ensures, c.len-then-depth-len.ensures)) c.index.ensures

pub returns : goal.returns
returns c = no_label c.args.self.now.inner.label c.args.self.now.outer.items c.len.result c.args.depth (omega (arith, c.args.self.now.outer.ok.0, c.len.ensures)) (omega (arith, c.if-depth-len.false))
