use Rattle.wasm_types.specs.Plain.{plain_module}
use Rattle.wasm_machine.proofs.Moves.{inside_ends}
use Rattle.wasm_machine.proofs.state.State.call_cell.Goals as goal

pub returns-in-None-clause-leads : goal.returns-in-None-clause-leads
returns-in-None-clause-leads c = λ acts. rw c.in-None.is (inside_ends (plain_module c.args.code.now.module.now) c.args.self.now c.args.next _)
