use Rattle.std.proofs.Common.{◌-◌, ap}
use Rattle.gas_meter.specs.Gas.{Gas}
use Rattle.query_router.specs.Calling.{contracts_at}
use Rattle.query_router.proofs.Beginning.{begins_along}
use Rattle.query_router.proofs.Telling.{query_paid}
use Rattle.query_router.proofs.router.begin_query.Goals as goal

pub returns-in-Ok-clause-begun : goal.returns-in-Ok-clause-begun
returns-in-Ok-clause-begun g c = λ m s stands spelled lawful.
    begins_along s c.args.costs.now c.look_at.new.meter.left (g.M.Modules.tally c.args.modules.now) (g.M.Modules.tally c.look_at.new.modules) _ _ c.look_at.result
    (λ ask. query_paid (contracts_at c.args.costs.now (10 - c.args.depth) ask) c.args.costs.now s c.args.request.now c.args.meter.now.left c.charge.new.meter.left
    (rw c.from.ensures at c.in-Ok.ensures.ok.0) (ap (λ (gas : Gas). gas.left) (rw c.from.ensures at c.in-Ok.ensures.ok.1)))
    (c.look_at.ensures.begun m s stands spelled lawful)
