use Rattle.std.proofs.Common.{sym, ◌∙◌, ap, ◌-◌, reverse}
use Rattle.wasm_machine.specs.Piles.{below}
use Rattle.wasm_machine.specs.Values.{shared_of}
use Rattle.wasm_machine.specs.Rests.{giving, through}
use Rattle.wasm_machine.proofs.Blocks.{result_value, result_missing, through-ends}
use Rattle.wasm_machine.proofs.state.State.finish.Goals as goal

pub returns-in-Some-clause-leads : goal.returns-in-Some-clause-leads
unfolding giving
returns-in-Some-clause-leads c = λ m inner a h.
    let s = c.args.self.now in
    rw (c.clear.ensures.all, c.clear-2.ensures.all, c.clear-3.ensures.all, c.saturating_sub-self.ensures)
    (ap (λ o. through m (reverse s.callers.items) (below s.values.operands) (below s.values.locals) (below s.labels) (s.depth - 1) o)
    (result_value c.args.frame.result c.args.value inner (shared_of s.values) a c.in-Some.value h.top h.shared (sym c.yielded.ensures ∙ c.in-Some.is)))

pub returns-in-None-clause-leads : goal.returns-in-None-clause-leads
returns-in-None-clause-leads c = λ m inner a h.
    let s = c.args.self.now in
    ap (λ o. through m (reverse s.callers.items) (below s.values.operands) (below s.values.locals) (below s.labels) (s.depth - 1) o)
    (result_missing c.args.frame.result c.args.value inner (shared_of s.values) a h.top h.shared (sym c.yielded.ensures ∙ c.in-None.is))
    ∙ through-ends m (reverse s.callers.items) (below s.values.operands) (below s.values.locals) (below s.labels) (s.depth - 1) _
