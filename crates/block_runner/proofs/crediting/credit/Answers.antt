use Rattle.std.proofs.Common.{◌∙◌, ◌<◌, ◌+◌, map, take, sym, ap, subst, List}
use Rattle.std.proofs.lemmas.List.{length-map, take-map, take_all, get_or-map}
use Rattle.coin_amounts.specs.Coins.{coins_view}
use Rattle.coin_amounts.specs.Denom.{IsDenom}
use Rattle.coin_amounts.specs.declared.coin.Coin as coin_type
use Rattle.coin_amounts.specs.Plain.{coin_view}
use Rattle.bank_ledger.specs.Balances.{amount_in}
use Rattle.block_runner.specs.Crediting.{Records}
use Rattle.block_runner.specs.Opening.{credited}
use Rattle.block_runner.proofs.Minting.{none_added, next_added, some_records}
use Rattle.block_runner.proofs.Accounts.{coin_has}
use Rattle.block_runner.proofs.Supplies.{over_more, coin_refused}
use Rattle.block_runner.proofs.crediting.credit.Goals as goal

pub loop-coin-init : goal.loop-coin-init
loop-coin-init c = λ s u r. none_added s u c.args.records.now c.args.to.now r

pub mint_coin-requires-clause-denom : goal.mint_coin-requires-clause-denom
mint_coin-requires-clause-denom c =
    let is = rw c.deref-coin-items.ensures.value at c.coin-item.is in
    let within = rw c.deref-coin-items.ensures.value at c.loop-coin-test.true in
    coin_has (λ coin. IsDenom coin.denom) c.args.coins.now.list.items c.loop-coin.coin-index c.coin-item.result c.requires.denoms within is

pub mint_coin-requires-clause-amount : goal.mint_coin-requires-clause-amount
mint_coin-requires-clause-amount c =
    let is = rw c.deref-coin-items.ensures.value at c.coin-item.is in
    let within = rw c.deref-coin-items.ensures.value at c.loop-coin-test.true in
    coin_has (λ coin. 0 < coin.amount) c.args.coins.now.list.items c.loop-coin.coin-index c.coin-item.result c.args.coins.now.positive within is

pub mint_coin-requires-clause-records : goal.mint_coin-requires-clause-records
mint_coin-requires-clause-records c =
    let had = c.requires.records in
    some_records _ _ c.loop-coin.records (c.loop-coin.invariant had.state had.supplies had.are)

pub returns-in-Err-clause-over : goal.returns-in-Err-clause-over
returns-in-Err-clause-over c = λ s u r.
    let items = c.args.coins.now.list.items in
    let coin = coin_view c.coin-item.result in
    let coins = map coin_view (take c.loop-coin.coin-index items) in
    let to = c.args.to.now in
    let is = rw c.deref-coin-items.ensures.value at c.coin-item.is in
    let within = rw c.deref-coin-items.ensures.value at c.loop-coin-test.true in
    let here = get_or-map coin_view items c.loop-coin.coin-index c.coin-item.result coin within ∙ ap coin_view (sym is) in
    let bad = c.in-Err.ensures.over (credited s (to, coins)) (λ denom. u denom + amount_in coins denom) (c.loop-coin.invariant s u r) in
    over_more c.in-Err.stop _ _ bad (λ none. coin_refused u (coins_view c.args.coins.now) c.loop-coin.coin-index coin (rw length-map within) here (rw take-map none))

pub loop-coin-preserved : goal.loop-coin-preserved
loop-coin-preserved c = λ s u r.
    let items = c.args.coins.now.list.items in
    let coins = map coin_view (take c.loop-coin.coin-index items) in
    let to = c.args.to.now in
    let is = rw c.deref-coin-items.ensures.value at c.coin-item.is in
    let within = rw c.deref-coin-items.ensures.value at c.loop-coin-test.true in
    let minted = c.in-Ok.ensures.minted (credited s (to, coins)) (λ denom. u denom + amount_in coins denom) (c.loop-coin.invariant s u r) in
    next_added s u c.mint_coin.new.records to items c.loop-coin.coin-index c.coin-item.result within is minted

pub returns-clause-credited : goal.returns-clause-credited
returns-clause-credited c = λ s u r.
    let items = c.args.coins.now.list.items in
    let to = c.args.to.now in
    let over = rw c.deref-coin-items.ensures.value at c.loop-coin-test.false in
    subst (λ (l : List coin_type.Coin). Records (credited s (to, map coin_view l)) (λ denom. u denom + amount_in (map coin_view l) denom) c.loop-coin.records) (take_all c.loop-coin.coin-index items over) (c.loop-coin.invariant s u r)
