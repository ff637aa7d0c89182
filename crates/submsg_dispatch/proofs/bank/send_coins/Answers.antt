use Rattle.std.proofs.Common.{List, ℕ, map}
use Rattle.std.specs.Result.{result_ok}
use Rattle.coin_amounts.specs.Plain.{Coin, raw_coin_view}
use Rattle.coin_amounts.specs.Coins.{coins_view, coins_of}
use Rattle.chain_msgs.specs.Plain.{Event}
use Rattle.submsg_dispatch.specs.Parts.{done, ◌>>=◌}
use Rattle.submsg_dispatch.specs.Failures.{coins_bad}
use Rattle.submsg_dispatch.specs.Messages.{some_coins, coins_in, transfers, only_events, send_coins}
use Rattle.submsg_dispatch.proofs.Leading.{passes, after_address, no_address, after_found, not_found, stop_then, then_done}
use Rattle.submsg_dispatch.proofs.bank.send_coins.Goals as goal

pub returns-in_err-to-clause-leads : goal.returns-in_err-to-clause-leads
unfolding send_coins
returns-in_err-to-clause-leads g c = λ tally.
    let costs = c.args.costs.now in
    let sender = c.args.sender.now in
    let raws = map raw_coin_view c.args.raws.now in
    let k = λ (to : List ℕ). coins_in raws >>= λ coins. transfers costs sender to coins >>= λ events. done (only_events events) in
    passes c.from_residual.result c.in_err-to.field-0.0 c.from_residual.ensures.1 (no_address tally _ c.args.to.now k c.in_err-to.ensures.found)

pub returns-in_err-coins-clause-leads : goal.returns-in_err-coins-clause-leads
unfolding send_coins
returns-in_err-coins-clause-leads g c = λ tally.
    let costs = c.args.costs.now in
    let sender = c.args.sender.now in
    let raws = map raw_coin_view c.args.raws.now in
    let wanted = some_coins (result_ok (coins_of raws)) in
    let to : List ℕ = c.in_ok-to.to.items in
    let k = λ (to : List ℕ). coins_in raws >>= λ coins. transfers costs sender to coins >>= λ events. done (only_events events) in
    passes c.from_residual-in_err-coins.result c.in_err-coins.field-0.0 c.from_residual-in_err-coins.ensures.1
    (after_address c.args.to.now to k c.in_ok-to.ensures.found
    (not_found tally _ coins_bad wanted (λ (coins : List Coin). transfers costs sender to coins >>= λ events. done (only_events events)) c.in_err-coins.ensures))

pub returns-in-Ok-clause-leads : goal.returns-in-Ok-clause-leads
unfolding send_coins
returns-in-Ok-clause-leads g c = λ tally.
    let costs = c.args.costs.now in
    let sender = c.args.sender.now in
    let raws = map raw_coin_view c.args.raws.now in
    let wanted = some_coins (result_ok (coins_of raws)) in
    let to : List ℕ = c.in_ok-to.to.items in
    let coins = coins_view c.in_ok-coins.coins in
    let k = λ (to : List ℕ). coins_in raws >>= λ coins. transfers costs sender to coins >>= λ events. done (only_events events) in
    let does = rw c.deref.ensures.value at (c.in-Ok.ensures.leads tally) in
    after_address c.args.to.now to k c.in_ok-to.ensures.found
    (after_found coins_bad wanted coins (λ (coins : List Coin). transfers costs sender to coins >>= λ events. done (only_events events)) c.in_ok-coins.ensures
    (then_done c.in-Ok.events c.only_events.result (transfers costs sender to coins) only_events c.only_events.ensures does))

pub returns-clause-leads : goal.returns-clause-leads
unfolding send_coins
returns-clause-leads g c = λ tally.
    let costs = c.args.costs.now in
    let sender = c.args.sender.now in
    let raws = map raw_coin_view c.args.raws.now in
    let wanted = some_coins (result_ok (coins_of raws)) in
    let to : List ℕ = c.in_ok-to.to.items in
    let coins = coins_view c.in_ok-coins.coins in
    let k = λ (to : List ℕ). coins_in raws >>= λ coins. transfers costs sender to coins >>= λ events. done (only_events events) in
    let does = rw c.deref.ensures.value at (c.in-Err.ensures.leads tally) in
    after_address c.args.to.now to k c.in_ok-to.ensures.found
    (after_found coins_bad wanted coins (λ (coins : List Coin). transfers costs sender to coins >>= λ events. done (only_events events)) c.in_ok-coins.ensures
    (stop_then c.in-Err.stop (transfers costs sender to coins) (λ (events : List Event). done (only_events events)) does))
