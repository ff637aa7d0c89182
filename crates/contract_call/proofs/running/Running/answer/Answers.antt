use Rattle.std.proofs.Common.{◌≡◌, List, sym}
use Rattle.wasm_machine.specs.declared.machine.Machine.{Machine}
use Rattle.wasm_machine.specs.declared.turn.Phase.TheVariants.{Asked}
use Rattle.wasm_machine.specs.Machine.{phase_of}
use Rattle.contract_call.specs.declared.stage.Stage.{Stage}
use Rattle.contract_call.specs.declared.stage.Stage.TheVariants.{New, Waits, Answered, Over}
use Rattle.contract_call.specs.Calls.{Call, Outset, Answer}
use Rattle.contract_call.specs.Stages.{WaitsAt}
use Rattle.contract_call.specs.Running.{StandsForPart, CanGoOn, HasAnswer, WaitsForAnswer, IsWaiting, IsAtStage}
use Rattle.contract_call.proofs.running.Running.answer.Goals as goal

waiting : (stage : Stage) (k : Machine) (c : Call) (o : Outset) (answers : List Answer) → WaitsAt stage k → IsAtStage stage k c o answers → IsWaiting k c o answers
waiting (New entry args pinned) k c o answers h at = absurd h
waiting Waits k c o answers h at = at
waiting (Answered bytes) k c o answers h at = absurd h
waiting Over k c o answers h at = absurd h

asked : (stage : Stage) (k : Machine) → WaitsAt stage k → phase_of k ≡ Asked
asked (New entry args pinned) k h = absurd h
asked Waits k h = h
asked (Answered bytes) k h = absurd h
asked Over k h = absurd h

pub returns-clause-stands : goal.returns-clause-stands
unfolding StandsForPart WaitsForAnswer
returns-clause-stands c = λ call outset answers left at.
    (sym (c.in_ok-bytes.ensures.items_if_clones_equal (λ x y e. e)), waiting c.args.self.now.stage c.args.self.now.machine call outset answers c.requires at)

pub returns-clause-ready : goal.returns-clause-ready
unfolding CanGoOn WaitsForAnswer
returns-clause-ready c = asked c.args.self.now.stage c.args.self.now.machine c.requires

pub returns-clause-answered : goal.returns-clause-answered
unfolding HasAnswer
returns-clause-answered c = tt
