use Rattle.contract_admin.specs.Administration.{change_refusal}
use Rattle.submsg_dispatch.proofs.Changing.{other_stops, refusal_stops}
use Rattle.submsg_dispatch.proofs.admins.unless_refused.Goals as goal

pub returns-in-Ok : goal.returns-in-Ok
returns-in-Ok g c = λ map s stands spelled.
    other_stops c.args.other c.args.prefix.now c.args.addr.now (change_refusal s c.args.sender.now c.args.addr.now) (c.in-Ok.ensures.ok map s stands spelled)

pub returns-in-Err : goal.returns-in-Err
returns-in-Err g c = λ map s stands spelled.
    refusal_stops c.args.other c.contract_stop.result c.args.prefix.now c.args.addr.now c.in-Err.stop (change_refusal s c.args.sender.now c.args.addr.now) (c.in-Err.ensures.stop map s stands spelled) c.contract_stop.ensures
