use Rattle.std.proofs.Common.{List, ℕ, Err, Ok, ap, map, subst}
use Rattle.std.specs.Result.{result_ok}
use Rattle.std.specs.Global.{Vec}
use Rattle.coin_amounts.specs.declared.coins.Coins as coins_type
use Rattle.coin_amounts.specs.Plain.{Coin, raw_coin_view}
use Rattle.coin_amounts.specs.Coins.{coins_view, coins_of}
use Rattle.submsg_dispatch.specs.Parts.{Part, ◌>>=◌}
use Rattle.submsg_dispatch.specs.Failures.{coins_bad}
use Rattle.submsg_dispatch.specs.Messages.{address_in}
use Rattle.submsg_dispatch.specs.Calling.{Called, code_at, funds_in}
use Rattle.submsg_dispatch.specs.Stages.{execute_paid, called_view}
use Rattle.submsg_dispatch.specs.Under.{LeadsOn, bytes_view}
use Rattle.submsg_dispatch.proofs.Chaining.{finds_gives, address_gives, gives_on, passes_so, then_on, stop_on, then_gives}
use Rattle.submsg_dispatch.proofs.execution.execute.Goals as goal

pub returns-in_err-addr-clause-leads : goal.returns-in_err-addr-clause-leads
returns-in_err-addr-clause-leads g c =
    let prefix = c.args.prefix.now in
    let raws = map raw_coin_view c.args.raws.now in
    let pay = λ (addr : List ℕ) (id : ℕ) (coins : List Coin). execute_paid c.args.costs.now c.args.index prefix c.args.sender.now addr id c.args.msg.now coins in
    let calls = λ (addr : List ℕ) (id : ℕ). funds_in raws >>= pay addr id in
    let next = λ (addr : List ℕ). code_at prefix addr >>= calls addr in
    let stop = c.in_err-addr.field-0.0 in
    passes_so c.from_residual.result stop c.from_residual.ensures.1
    (stop_on stop (address_in c.args.contract.now) next (gives_on {X = Vec ℕ} (address_in c.args.contract.now) bytes_view (Err stop) (address_gives prefix (Err stop) c.args.contract.now c.in_err-addr.ensures.found)))

pub returns-in_err-callee-clause-leads : goal.returns-in_err-callee-clause-leads
returns-in_err-callee-clause-leads g c =
    let prefix = c.args.prefix.now in
    let raws = map raw_coin_view c.args.raws.now in
    let pay = λ (addr : List ℕ) (id : ℕ) (coins : List Coin). execute_paid c.args.costs.now c.args.index prefix c.args.sender.now addr id c.args.msg.now coins in
    let calls = λ (addr : List ℕ) (id : ℕ). funds_in raws >>= pay addr id in
    let next = λ (addr : List ℕ). code_at prefix addr >>= calls addr in
    let addr = c.in_ok-addr.addr in
    let stop = c.in_err-callee.field-0.0 in
    passes_so c.from_residual-in_err-callee.result stop c.from_residual-in_err-callee.ensures.1
    (then_gives (address_in c.args.contract.now) next bytes_view addr (address_gives prefix (Ok addr) c.args.contract.now c.in_ok-addr.ensures.found)
    (stop_on stop (code_at prefix addr.items) (calls addr.items) (c.in_err-callee.ensures.leads _ _)))

pub returns-in_err-coins-clause-leads : goal.returns-in_err-coins-clause-leads
returns-in_err-coins-clause-leads g c =
    let prefix = c.args.prefix.now in
    let raws = map raw_coin_view c.args.raws.now in
    let pay = λ (addr : List ℕ) (id : ℕ) (coins : List Coin). execute_paid c.args.costs.now c.args.index prefix c.args.sender.now addr id c.args.msg.now coins in
    let calls = λ (addr : List ℕ) (id : ℕ). funds_in raws >>= pay addr id in
    let next = λ (addr : List ℕ). code_at prefix addr >>= calls addr in
    let addr = c.in_ok-addr.addr in
    let callee = c.in_ok-callee.callee in
    let stop = c.in_err-coins.field-0.0 in
    passes_so c.from_residual-in_err-coins.result stop c.from_residual-in_err-coins.ensures.1
    (then_gives (address_in c.args.contract.now) next bytes_view addr (address_gives prefix (Ok addr) c.args.contract.now c.in_ok-addr.ensures.found)
    (then_on c.fetches_join.ensures callee (code_at prefix addr.items) (calls addr.items) (c.in_ok-callee.ensures.leads _ _)
    (stop_on stop (funds_in raws) (pay addr.items callee.code_id) (gives_on {X = coins_type.Coins} (funds_in raws) coins_view (Err stop) (finds_gives prefix coins_view (Err stop) coins_bad (result_ok (coins_of raws)) c.in_err-coins.ensures)))))

pub returns-clause-leads : goal.returns-clause-leads
returns-clause-leads g c =
    let prefix = c.args.prefix.now in
    let raws = map raw_coin_view c.args.raws.now in
    let pay = λ (addr : List ℕ) (id : ℕ) (coins : List Coin). execute_paid c.args.costs.now c.args.index prefix c.args.sender.now addr id c.args.msg.now coins in
    let calls = λ (addr : List ℕ) (id : ℕ). funds_in raws >>= pay addr id in
    let next = λ (addr : List ℕ). code_at prefix addr >>= calls addr in
    let addr = c.in_ok-addr.addr in
    let callee = c.in_ok-callee.callee in
    let coins = c.in_ok-coins.coins in
    let same = ap (λ (v : Vec ℕ). v.items) c.in_ok-callee.ensures.callee.0 in
    let does =
    subst (λ (a : List ℕ). LeadsOn prefix g.B.Base.stands_for c.args.layers.now c.execute_paid.new.layers (g.M.Modules.tally c.args.modules.now) (g.M.Modules.tally c.execute_paid.new.modules) c.args.meter.now.left c.execute_paid.new.meter.left (pay a callee.code_id (coins_view coins)) called_view c.execute_paid.result) same
    c.execute_paid.ensures.leads
    in
    then_gives (address_in c.args.contract.now) next bytes_view addr (address_gives prefix (Ok addr) c.args.contract.now c.in_ok-addr.ensures.found)
    (then_on c.fetches_join.ensures callee (code_at prefix addr.items) (calls addr.items) (c.in_ok-callee.ensures.leads _ _)
    (then_gives (funds_in raws) (pay addr.items callee.code_id) coins_view coins (finds_gives prefix coins_view (Ok coins) coins_bad (result_ok (coins_of raws)) c.in_ok-coins.ensures) does))
