use Rattle.std.proofs.Common.{◌-◌, refl}
use Rattle.query_router.specs.Calling.{contracts_at}
use Rattle.query_router.specs.Queries.{answer_to}
use Rattle.query_router.specs.Views.{request_view}
use Rattle.query_router.proofs.router.answer_to.Goals as goal

pub returns-in_ok-contract_info_answer-in-ContractInfo-clause-begun : goal.returns-in_ok-contract_info_answer-in-ContractInfo-clause-begun
returns-in_ok-contract_info_answer-in-ContractInfo-clause-begun g c = λ m s stands spelled lawful. (
  λ ask.
      rw c.in-ContractInfo.is (rw c.deref-in-ContractInfo.ensures at (c.in_ok-contract_info_answer-in-ContractInfo.ensures m s stands spelled lawful (contracts_at c.args.costs.now (10 - c.args.depth) ask) c.args.costs.now c.args.meter.now.left)),
  refl,
)

pub returns-in_ok-code_info_answer-in-CodeInfo-clause-begun : goal.returns-in_ok-code_info_answer-in-CodeInfo-clause-begun
returns-in_ok-code_info_answer-in-CodeInfo-clause-begun g c = λ m s stands spelled lawful. (
  λ ask.
      rw c.in-CodeInfo.is (c.in_ok-code_info_answer-in-CodeInfo.ensures m s stands spelled lawful (contracts_at c.args.costs.now (10 - c.args.depth) ask) c.args.costs.now c.args.request.now c.args.meter.now.left),
  refl,
)

pub returns-in_ok-balance_answer-in-Balance-clause-begun : goal.returns-in_ok-balance_answer-in-Balance-clause-begun
returns-in_ok-balance_answer-in-Balance-clause-begun g c = λ m s stands spelled lawful. (
  λ ask.
      rw c.in-Balance.is (rw c.deref-in-Balance.ensures at (rw c.deref-in-Balance-2.ensures at (c.in_ok-balance_answer-in-Balance.ensures m s stands spelled lawful (contracts_at c.args.costs.now (10 - c.args.depth) ask) c.args.costs.now c.args.meter.now.left))),
  refl,
)

pub returns-in-AllBalances-clause-begun : goal.returns-in-AllBalances-clause-begun
returns-in-AllBalances-clause-begun g c = λ m s stands spelled lawful.
    c.known-in-AllBalances.ensures.begun s c.args.costs.now c.all_balances_answer.new.meter.left (g.M.Modules.tally c.args.modules.now)
    (λ ask. answer_to (contracts_at c.args.costs.now (10 - c.args.depth) ask) c.args.costs.now s c.args.request.now (request_view c.args.what) c.args.meter.now.left)
    (λ ask. rw c.in-AllBalances.is (rw c.deref-in-AllBalances.ensures at (c.all_balances_answer.ensures.answer m s stands spelled lawful (contracts_at c.args.costs.now (10 - c.args.depth) ask) c.args.costs.now)))

pub returns-in-AllBalances-clause-deep : goal.returns-in-AllBalances-clause-deep
returns-in-AllBalances-clause-deep g c = c.known-in-AllBalances.ensures.deep c.args.depth

pub returns-in-Raw-clause-begun : goal.returns-in-Raw-clause-begun
returns-in-Raw-clause-begun g c = λ m s stands spelled lawful.
    c.known.ensures.begun s c.args.costs.now c.raw_answer.new.meter.left (g.M.Modules.tally c.args.modules.now)
    (λ ask. answer_to (contracts_at c.args.costs.now (10 - c.args.depth) ask) c.args.costs.now s c.args.request.now (request_view c.args.what) c.args.meter.now.left)
    (λ ask. rw c.in-Raw.is (rw c.deref-in-Raw.ensures at (c.raw_answer.ensures.answer m s stands spelled lawful (contracts_at c.args.costs.now (10 - c.args.depth) ask))))

pub returns-in-Raw-clause-deep : goal.returns-in-Raw-clause-deep
returns-in-Raw-clause-deep g c = c.known.ensures.deep c.args.depth

pub returns-in-Smart-clause-begun : goal.returns-in-Smart-clause-begun
returns-in-Smart-clause-begun g c = λ m s stands spelled lawful.
    rw c.in-Smart.is (rw c.deref.ensures at (rw c.deref-in-Smart.ensures.value at (c.begin_smart.ensures.begun m s stands spelled lawful c.args.costs.now c.args.meter.now.left)))
