use Rattle.std.proofs.Common.{subst, sym}
use Rattle.contract_call.specs.declared.stage.Stage.{Stage}
use Rattle.contract_call.specs.Stages.{CanGoOnAt, IsAnsweredAt}
use Rattle.contract_call.specs.Running.{StandsForPart, CanGoOn, HasAnswer, WaitsForAnswer}
use Rattle.contract_call.proofs.Advancing.{came, finished_step, query_step, fault_step, gas_step}
use Rattle.contract_call.proofs.running.Running.advance.Goals as goal

pub go_on-requires-clause-ready : goal.go_on-requires-clause-ready
unfolding CanGoOn
go_on-requires-clause-ready g c = subst (λ (x : Stage). CanGoOnAt x c.args.self.now.machine) (sym c.replace-stage.ensures.value) c.requires.ready

pub returns-in-Ok-Finished-clause-step : goal.returns-in-Ok-Finished-clause-step
unfolding CanGoOn StandsForPart
returns-in-Ok-Finished-clause-step g c = λ maps call outset answers at from.
    let d = rw c.in-Ok-Finished.field-0-is at c.in-Ok-Finished.ensures.does in
    finished_step _ call outset answers c.in-Ok-Finished.bytes
    (came c.args.self.now.stage c.replace-stage.result call outset answers c.replace-stage.ensures.value c.requires.ready at from d)

pub returns-in-Ok-Query-clause-step : goal.returns-in-Ok-Query-clause-step
unfolding CanGoOn StandsForPart
returns-in-Ok-Query-clause-step g c = λ maps call outset answers at from.
    let d = rw c.in-Ok-Query.field-0-is at c.in-Ok-Query.ensures.does in
    query_step call outset answers c.in-Ok-Query.request
    (came c.args.self.now.stage c.replace-stage.result call outset answers c.replace-stage.ensures.value c.requires.ready at from d)

pub returns-in-Ok-Query-clause-waits : goal.returns-in-Ok-Query-clause-waits
unfolding WaitsForAnswer
returns-in-Ok-Query-clause-waits g c = rw c.in-Ok-Query.field-0-is at c.in-Ok-Query.ensures.paused

pub returns-in-Ok-Query-clause-falls : goal.returns-in-Ok-Query-clause-falls
unfolding HasAnswer
returns-in-Ok-Query-clause-falls g c = λ answered.
    let less = rw c.in-Ok-Query.field-0-is at c.in-Ok-Query.ensures.falls in
    less (subst IsAnsweredAt (sym c.replace-stage.ensures.value) answered)

pub returns-in-Err-Fault-clause-step : goal.returns-in-Err-Fault-clause-step
unfolding CanGoOn StandsForPart
returns-in-Err-Fault-clause-step g c = λ maps call outset answers at from.
    let d = rw c.in-Err-Fault.field-0-is at c.in-Err-Fault.ensures.does in
    fault_step _ call outset answers c.in-Err-Fault.fault
    (came c.args.self.now.stage c.replace-stage.result call outset answers c.replace-stage.ensures.value c.requires.ready at from d)

pub returns-in-Err-OutOfGas-clause-step : goal.returns-in-Err-OutOfGas-clause-step
unfolding CanGoOn StandsForPart
returns-in-Err-OutOfGas-clause-step g c = λ maps call outset answers at from.
    let d = rw c.in-Err-OutOfGas.field-0-is at c.in-Err-OutOfGas.ensures.does in
    gas_step _ call outset answers
    (came c.args.self.now.stage c.replace-stage.result call outset answers c.replace-stage.ensures.value c.requires.ready at from d)
