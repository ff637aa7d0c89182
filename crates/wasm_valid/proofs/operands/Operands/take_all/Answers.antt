use Rattle.std.proofs.Common.{◌≡◌, length, take, reverse, sym, ◌∙◌, arith}
use Rattle.std.proofs.lemmas.Bool.{eqb-true}
use Rattle.wasm_valid.proofs.Taking.{all_there}
use Rattle.wasm_valid.proofs.operands.Operands.take_all.Goals as goal

pub returns-then-is_empty : goal.returns-then-is_empty
returns-then-is_empty c =
    let types = c.loop-left.self.types in
    let none : length types.items ≡ 0 = omega (arith, eqb-true _ _ (sym c.if-is_empty.ensures), types.ok.0) in
    c.loop-left.invariant.left ∙ all_there types.items c.loop-left.self.any (reverse (take c.loop-left.left c.args.wanted.now)) none c.if-self.true
