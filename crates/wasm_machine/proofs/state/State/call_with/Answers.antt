use Rattle.std.proofs.Common.{◌∙◌, ap, ◌<◌, cond, take, drop, length, reverse, arith, lt-ltb}
use Rattle.wasm_machine.specs.Effects.{with_operands}
use Rattle.wasm_machine.specs.Exec.{bad, calls}
use Rattle.wasm_machine.specs.Piles.{own}
use Rattle.wasm_machine.specs.Values.{seen}
use Rattle.wasm_machine.specs.Rests.{moved}
use Rattle.wasm_machine.proofs.Moves.{inside_ends}
use Rattle.wasm_machine.proofs.state.State.call_with.Goals as goal

pub returns-then-args-own_len-clause-leads : goal.returns-then-args-own_len-clause-leads
returns-then-args-own_len-clause-leads c = λ m a.
    let s = c.args.self.now in
    let few : length (own s.values.operands) < c.args.args = omega (arith, c.own_len.ensures.own, c.if-args-own_len.true) in
    ap (λ b. moved m s c.args.next (cond b (bad (seen s.values) a) (calls c.args.func (reverse (take c.args.args (own s.values.operands))) (with_operands (seen s.values) (drop c.args.args (own s.values.operands))) a))) (lt-ltb _ _ few)
    ∙ inside_ends m s c.args.next _
