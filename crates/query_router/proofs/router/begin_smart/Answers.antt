use Rattle.std.proofs.Common.{◌≡◌, ℕ, suc, ◌-◌, subst, arith}
use Rattle.query_router.specs.Calling.{Begins, contracts_at}
use Rattle.query_router.proofs.router.begin_smart.Goals as goal

pub returns-then-depth-lt-DEEPEST-clause-begun : goal.returns-then-depth-lt-DEEPEST-clause-begun
returns-then-depth-lt-DEEPEST-clause-begun g c = λ m s stands spelled lawful costs left.
    let more : suc (9 - c.args.depth) ≡ 10 - c.args.depth = omega arith in
    subst (λ (n : ℕ). Begins s costs left (g.M.Modules.tally c.args.modules.now) (g.M.Modules.tally c.ask_contract.new.modules) (λ ask. contracts_at costs n ask s c.args.request.now c.args.contract.now c.args.msg.now left) c.ask_contract.result)
    more (c.ask_contract.ensures.begun m s stands spelled lawful costs left)
