use Rattle.gas_store.specs.Store.{read}
use Rattle.host_imports.proofs.Storing.{read_ignores, refused_does, stored_does}
use Rattle.host_imports.proofs.steps.read.Goals as goal

pub returns-in-Ok-clause-does : goal.returns-in-Ok-clause-does
returns-in-Ok-clause-does g c = λ machine. stored_does (read c.args.costs.now c.args.key.now) c.in-Ok.value (read_ignores c.args.costs.now c.args.key.now) c.in-Ok.ensures.scope.addr c.in-Ok.ensures.step

pub returns-in-Err-clause-does : goal.returns-in-Err-clause-does
returns-in-Err-clause-does g c = λ machine. rw c.refusal.ensures (refused_does c.args.meter.now _ (read c.args.costs.now c.args.key.now) c.in-Err.stop (read_ignores c.args.costs.now c.args.key.now) c.in-Err.ensures.scope.addr c.in-Err.ensures.step)
