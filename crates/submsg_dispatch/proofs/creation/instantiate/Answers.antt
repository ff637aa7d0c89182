use Rattle.std.proofs.Common.{List, ℕ, Ok, Err, map}
use Rattle.std.specs.Result.{result_ok}
use Rattle.coin_amounts.specs.declared.coins.Coins as coins_type
use Rattle.coin_amounts.specs.Plain.{Coin, raw_coin_view}
use Rattle.coin_amounts.specs.Coins.{coins_view, coins_of}
use Rattle.chain_records.specs.Records.{plain_contract}
use Rattle.chain_msgs.specs.Plain.{out_view}
use Rattle.contract_admin.specs.Administration.{instance_taken}
use Rattle.submsg_dispatch.specs.Parts.{becomes, ◌>>=◌}
use Rattle.submsg_dispatch.specs.Failures.{coins_bad}
use Rattle.submsg_dispatch.specs.Calling.{funds_in, free_address}
use Rattle.submsg_dispatch.specs.Stages.{create_paid}
use Rattle.submsg_dispatch.proofs.Chaining.{finds_gives, gives_on, passes_so, then_on, stop_on, then_gives, lawful_on}
use Rattle.submsg_dispatch.proofs.Making.{instance_leads}
use Rattle.submsg_dispatch.proofs.creation.instantiate.Goals as goal

pub returns-in_err-coins-clause-leads : goal.returns-in_err-coins-clause-leads
returns-in_err-coins-clause-leads g c =
    let prefix = c.args.prefix.now in
    let raws = map raw_coin_view c.args.raws.now in
    let p = plain_contract c.args.contract in
    let salt = out_view c.args.salt.now in
    let makes = λ (coins : List Coin) (addr : List ℕ). becomes instance_taken >>= λ _. create_paid c.args.costs.now c.args.index prefix addr p coins c.args.msg.now in
    let next = λ (coins : List Coin). free_address prefix p salt >>= makes coins in
    let stop = c.in_err-coins.field-0.0 in
    passes_so c.from_residual.result stop c.from_residual.ensures.1
    (stop_on stop (funds_in raws) next (gives_on {X = coins_type.Coins} (funds_in raws) coins_view (Err stop) (finds_gives prefix coins_view (Err stop) coins_bad (result_ok (coins_of raws)) c.in_err-coins.ensures)))

pub returns-in_err-addr-clause-leads : goal.returns-in_err-addr-clause-leads
returns-in_err-addr-clause-leads g c =
    let prefix = c.args.prefix.now in
    let raws = map raw_coin_view c.args.raws.now in
    let p = plain_contract c.args.contract in
    let salt = out_view c.args.salt.now in
    let makes = λ (coins : List Coin) (addr : List ℕ). becomes instance_taken >>= λ _. create_paid c.args.costs.now c.args.index prefix addr p coins c.args.msg.now in
    let next = λ (coins : List Coin). free_address prefix p salt >>= makes coins in
    let coins = c.in_ok-coins.coins in
    let stop = c.in_err-addr.field-0.0 in
    passes_so c.from_residual-in_err-addr.result stop c.from_residual-in_err-addr.ensures.1
    (then_gives (funds_in raws) next coins_view coins (finds_gives prefix coins_view (Ok coins) coins_bad (result_ok (coins_of raws)) c.in_ok-coins.ensures)
    (stop_on stop (free_address prefix p salt) (makes (coins_view coins)) (c.in_err-addr.ensures.leads _ _)))

pub create_paid-requires-clause-lawful : goal.create_paid-requires-clause-lawful
create_paid-requires-clause-lawful g c =
    lawful_on c.in_ok-take_instance.field-0 c.requires.lawful (instance_leads {tally = g.M.Modules.tally c.args.modules.now} {l = c.args.meter.now.left} c.in_ok-take_instance.field-0 c.in_ok-take_instance.ensures.taken)

pub returns-clause-leads : goal.returns-clause-leads
returns-clause-leads g c =
    let prefix = c.args.prefix.now in
    let raws = map raw_coin_view c.args.raws.now in
    let p = plain_contract c.args.contract in
    let salt = out_view c.args.salt.now in
    let makes = λ (coins : List Coin) (addr : List ℕ). becomes instance_taken >>= λ _. create_paid c.args.costs.now c.args.index prefix addr p coins c.args.msg.now in
    let next = λ (coins : List Coin). free_address prefix p salt >>= makes coins in
    let coins = c.in_ok-coins.coins in
    let addr = c.in_ok-addr.addr in
    then_gives (funds_in raws) next coins_view coins (finds_gives prefix coins_view (Ok coins) coins_bad (result_ok (coins_of raws)) c.in_ok-coins.ensures)
    (then_on c.fetches_join.ensures addr (free_address prefix p salt) (makes (coins_view coins)) (c.in_ok-addr.ensures.leads _ _)
    (then_on c.fetches_join.ensures c.in_ok-take_instance.field-0 (becomes instance_taken) (λ _. create_paid c.args.costs.now c.args.index prefix addr.items p (coins_view coins) c.args.msg.now)
    (instance_leads c.in_ok-take_instance.field-0 c.in_ok-take_instance.ensures.taken) c.create_paid.ensures.leads))
