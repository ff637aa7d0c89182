use Rattle.gas_store.specs.Store.{next}
use Rattle.host_imports.proofs.Storing.{next_ignores, refused_does, stored_does}
use Rattle.host_imports.proofs.steps.next.Goals as goal

pub returns-in-Ok-clause-does : goal.returns-in-Ok-clause-does
returns-in-Ok-clause-does g c = λ machine. stored_does (next c.args.costs.now c.args.scan) c.in-Ok.found (next_ignores c.args.costs.now c.args.scan) c.in-Ok.ensures.scope.addr c.in-Ok.ensures.step

pub returns-in-Err-clause-does : goal.returns-in-Err-clause-does
returns-in-Err-clause-does g c = λ machine. rw c.refusal.ensures (refused_does c.args.meter.now _ (next c.args.costs.now c.args.scan) c.in-Err.stop (next_ignores c.args.costs.now c.args.scan) c.in-Err.ensures.scope.addr c.in-Err.ensures.step)
