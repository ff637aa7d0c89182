use Rattle.query_router.proofs.calls.ask_contract.Goals as goal

pub returns-in-Contract-clause-begun : goal.returns-in-Contract-clause-begun
returns-in-Contract-clause-begun g c = λ m s stands spelled lawful costs left.
    c.open_query.ensures.begun m s stands spelled lawful costs left c.args.request.now c.args.text.now (rw c.in-Contract.is at (c.in_ok-found.ensures.named m s stands spelled))
