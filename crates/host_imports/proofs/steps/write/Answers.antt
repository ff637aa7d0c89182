use Rattle.gas_store.specs.Store.{write}
use Rattle.gas_store.specs.Views.{is_read_only}
use Rattle.host_imports.proofs.Storing.{refused_does, stored_does, write_ignores}
use Rattle.host_imports.proofs.steps.write.Goals as goal

pub returns-in-Ok-clause-does : goal.returns-in-Ok-clause-does
returns-in-Ok-clause-does g c = λ machine. stored_does (write (is_read_only c.args.store.now) c.args.costs.now c.args.key.now c.args.value.now) tt (write_ignores (is_read_only c.args.store.now) c.args.costs.now c.args.key.now c.args.value.now) c.in-Ok.ensures.scope.addr c.in-Ok.ensures.step

pub returns-in-Err-clause-does : goal.returns-in-Err-clause-does
returns-in-Err-clause-does g c = λ machine. rw c.refusal.ensures (refused_does c.args.meter.now _ (write (is_read_only c.args.store.now) c.args.costs.now c.args.key.now c.args.value.now) c.in-Err.stop (write_ignores (is_read_only c.args.store.now) c.args.costs.now c.args.key.now c.args.value.now) c.in-Err.ensures.scope.addr c.in-Err.ensures.step)
