use Rattle.std.proofs.Common.{refl}
use Rattle.wasm_machine.specs.Rests.{running}
use Rattle.wasm_machine.proofs.Moves.{inside_ends}
use Rattle.wasm_machine.proofs.state.State.open_else.Goals as goal

pub returns-in-Some-ty-clause-leads : goal.returns-in-Some-ty-clause-leads
returns-in-Some-ty-clause-leads c = λ m a. rw (c.in-None.is, c.in-Some-ty.is) (inside_ends m c.args.self.now c.args.next _)

pub returns-in-None-ty-clause-leads : goal.returns-in-None-ty-clause-leads
unfolding running
returns-in-None-ty-clause-leads c = λ m a. rw (c.in-None.is, c.in-None-ty.is) refl
