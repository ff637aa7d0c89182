use Rattle.std.proofs.Common.{take, reverse}
use Rattle.wasm_machine.specs.Piles.{all, below, own}
use Rattle.wasm_machine.specs.Values.{shared_of}
use Rattle.wasm_machine.proofs.Calls.{reverse_snoc, hosts_function, suspended}
use Rattle.wasm_machine.proofs.state.State.suspend.Goals as goal

pub returns-in-Ok-clause-hosts : goal.returns-in-Ok-clause-hosts
returns-in-Ok-clause-hosts c =
    rw c.in-Ok.ensures.items (hosts_function c.args.self.now.callers.items c.args.frame c.raise_over-operands.result c.raise-locals.result c.raise-labels.result)

pub returns-in-Ok-clause-leads : goal.returns-in-Ok-clause-leads
returns-in-Ok-clause-leads c = λ m func a.
    let s = c.args.self.now in
    rw (c.in-Ok.ensures.items, reverse_snoc, c.raise_over-operands.ensures.floor, c.raise-locals.ensures.floor, c.raise-locals.ensures.from, c.raise-labels.ensures.floor, c.raise-labels.ensures.from, ← c.raise_over-operands.ensures.rest, c.raise_over-operands.ensures.span, c.raise-locals.ensures.all, c.raise-labels.ensures.all)
    (suspended m (reverse s.callers.items) c.args.frame s.depth c.raise_over-operands.result c.raise-locals.result c.raise-labels.result (below c.raise_over-operands.new.self) (all s.values.locals) (all s.labels) (shared_of s.values) func (reverse (take c.args.args (own s.values.operands))) a)
