use Rattle.std.proofs.Common.{◌-◌, sym, ap, ◌∙◌, subst}
use Rattle.query_router.specs.Calling.{Begins, contracts_at}
use Rattle.query_router.specs.Queries.{asked_answer}
use Rattle.query_router.specs.Requests.{Asked}
use Rattle.query_router.specs.Views.{asked_view}
use Rattle.query_router.proofs.router.look_at.Goals as goal

pub returns-in-Asks-clause-begun : goal.returns-in-Asks-clause-begun
returns-in-Asks-clause-begun g c = λ m s stands spelled lawful.
    subst (λ (a : Asked). Begins s c.args.costs.now c.answer_to.new.meter.left (g.M.Modules.tally c.args.modules.now) (g.M.Modules.tally c.answer_to.new.modules) (λ ask. asked_answer (contracts_at c.args.costs.now (10 - c.args.depth) ask) c.args.costs.now s c.args.request.now a c.args.meter.now.left) c.answer_to.result)
    (sym (ap asked_view c.in-Asks.is) ∙ c.in_ok-read_request.ensures) (c.answer_to.ensures.begun m s stands spelled lawful)
