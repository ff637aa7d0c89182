use Rattle.wasm_machine.specs.Acts.{standing_of}
use Rattle.host_imports.proofs.Machines.{ran_so}
use Rattle.host_imports.proofs.allocation.run_function.Goals as goal

pub returns-in-Ok-run-clause-moves : goal.returns-in-Ok-run-clause-moves
returns-in-Ok-run-clause-moves c =
    ran_so c.call.new.self c.args.costs.now c.args.func c.args.args.now (standing_of c.in-Ok-run.turn) c.in-Ok.ensures.stands c.in-Ok.ensures.module c.in-Ok-run.ensures.stands c.in-Ok-run.ensures.turn c.in-Ok-run.ensures.left c.in-Ok-run.ensures.module (c.settle.ensures.moves c.run.new.meter.left)
