use Rattle.std.proofs.Common.{◌∙◌}
use Rattle.chain_records.specs.Records.{plain_contract}
use Rattle.query_router.proofs.Opening.{query_call, smart_uncalled}
use Rattle.query_router.proofs.calls.open_query.Goals as goal

pub returns-in-Some-clause-begun : goal.returns-in-Some-clause-begun
returns-in-Some-clause-begun g c = λ m s stands spelled lawful costs left request text f.
    let opened = rw c.in-Some.is at (c.in_ok-opened.ensures.opened m s stands spelled lawful) in
    let ready = rw c.in-Some.is at c.in_ok-opened.ensures.ready in
    query_call s costs left request text c.args.msg.now c.args.found.addr.items c.deref-3.result.now (plain_contract c.args.found.contract) c.in-Some.opened (g.M.Modules.tally c.args.modules.now) (g.M.Modules.tally c.open_call.new.modules) f.addr f.contract
    (c.deref-3.ensures.value ∙ rw c.deref.ensures.value at (c.in_ok-env.ensures m s stands spelled lawful)) (ready.same_addr ∙ c.deref-2.ensures.value) (ready.same_prefix ∙ f.prefix) opened

pub returns-clause-begun : goal.returns-clause-begun
returns-clause-begun g c = λ m s stands spelled lawful costs left request text f.
    let none = rw c.in-None.is at (c.in_ok-opened.ensures.opened m s stands spelled lawful) in
    (smart_uncalled s costs left request text c.args.msg.now c.args.found.addr.items (plain_contract c.args.found.contract) f.addr f.contract none.0, none.1)
