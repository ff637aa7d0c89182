use Rattle.gas_store.specs.Store.{start}
use Rattle.std.specs.Option.{option_copied}
use Rattle.host_imports.proofs.Storing.{refused_scans, start_ignores, started_scans}
use Rattle.host_imports.proofs.steps.start.Goals as goal

pub returns-in-Ok-clause-scans : goal.returns-in-Ok-clause-scans
returns-in-Ok-clause-scans c = λ machine. started_scans (start c.args.costs.now (option_copied c.args.lo) (option_copied c.args.hi) c.args.order) c.in-Ok.number (start_ignores c.args.costs.now (option_copied c.args.lo) (option_copied c.args.hi) c.args.order) c.in-Ok.ensures.step

pub returns-in-Err-clause-scans : goal.returns-in-Err-clause-scans
returns-in-Err-clause-scans c = λ machine. rw c.refusal.ensures (refused_scans c.args.store.now c.args.meter.now _ (start c.args.costs.now (option_copied c.args.lo) (option_copied c.args.hi) c.args.order) c.in-Err.stop (start_ignores c.args.costs.now (option_copied c.args.lo) (option_copied c.args.hi) c.args.order) c.in-Err.ensures.step)
