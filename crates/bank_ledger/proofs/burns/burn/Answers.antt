use Rattle.std.proofs.Common.{◌≡◌, ◌+◌, ◌<◌, [], ◌∷◌, map, drop, None, refl, ap, ◌∙◌, arith}
use Rattle.std.proofs.lemmas.List.{drop_all}
use Rattle.std.proofs.lemmas.List.Elements.{recursion_from_All}
use Rattle.coin_amounts.specs.Coins.{coins_view}
use Rattle.coin_amounts.specs.Plain.{Coin, coin_view}
use Rattle.chain_records.specs.State.{State}
use Rattle.bank_ledger.specs.Balances.{shortfall}
use Rattle.bank_ledger.specs.Accounts.{balance}
use Rattle.bank_ledger.specs.Lawful.{HasLawfulAmounts}
use Rattle.bank_ledger.specs.Effects.{IsBurned}
use Rattle.bank_ledger.specs.Steps.{amounts_left, burned_leaving, CanBurn}
use Rattle.bank_ledger.proofs.Paying.{rising_parts, left_count, coins_from, left_from}
use Rattle.bank_ledger.proofs.Burning.{PartlyBurned, none_burned, can_burn, one_more_burned, all_burned}
use Rattle.bank_ledger.proofs.Writing.{Becomes-start, Becomes-then, Becomes-only, Becomes-some}
use Rattle.bank_ledger.proofs.burns.burn.Goals as goal

abbrev IsAbove : Coin → Type 0
IsAbove coin = 0 < coin.amount

pub loop-place-init : goal.loop-place-init
loop-place-init g c =
    let from = c.args.from.now in
    let coins = coins_view c.args.coins.now in
    let left = c.in_ok-left.left.items in
    record {
      rising = c.args.coins.now.rising;
      positive = recursion_from_All IsAbove coins c.args.coins.now.positive;
      depth = refl;
      burned = Becomes-start g.B.Base.stands_for c.args.layers.now (λ (s : State). (shortfall (balance s) from coins ≡ None) × (left ≡ amounts_left (balance s) from coins)) (λ (s t : State). PartlyBurned s from coins coins left t) (λ s lawful has. none_burned s from coins left lawful has)
          (λ m s stands spelled. (c.in_ok-left.ensures.enough m s stands spelled, c.in_ok-left.ensures.left m s stands spelled));
    }

pub index-requires : goal.index-requires
index-requires g c =
    let items = c.args.coins.now.list.items in
    let within = rw c.deref-coin-items.ensures.value at c.loop-place-test.true in
    let t = c.requires.lawful in
    let left = c.in_ok-left.left in
    let count = left_count (balance t.state) c.args.from.now items left.items (c.in_ok-left.ensures.left t.map t.state t.stands t.spelled) in
    omega (arith, within, count, left.ok.0)

pub burn_coin-requires-clause-can : goal.burn_coin-requires-clause-can
burn_coin-requires-clause-can g c =
    let items = c.args.coins.now.list.items in
    let place = c.loop-place.place in
    let all = c.in_ok-left.left.items in
    let coin = coin_view c.coin-item.result in
    let rest = map coin_view (drop (place + 1) items) in
    let left = c.index.result.now in
    let others = drop (place + 1) all in
    let is = rw c.deref-coin-items.ensures.value at c.coin-item.is in
    let within = rw c.deref-coin-items.ensures.value at c.loop-place-test.true in
    let t = c.requires.lawful in
    let count = left_count (balance t.state) c.args.from.now items all (c.in_ok-left.ensures.left t.map t.state t.stands t.spelled) in
    let splits : map coin_view (drop place items) ≡ coin ∷ rest = coins_from items place c.coin-item.result within is in
    let parts : drop place all ≡ left ∷ others = left_from all place left (omega (arith, within, count)) c.index.ensures in
    let from = c.args.from.now in
    let coins = coins_view c.args.coins.now in
    Becomes-some g.B.Base.stands_for c.args.layers.now c.loop-place.layers (λ (s t : State). PartlyBurned s from coins (coin ∷ rest) (left ∷ others) t) (CanBurn coin) (λ s t so. can_burn s t from coins coin rest (left ∷ others) so) (rw (splits, parts) at c.loop-place.invariant.burned) c.requires.lawful

pub loop-place-preserved : goal.loop-place-preserved
loop-place-preserved g c =
    let items = c.args.coins.now.list.items in
    let place = c.loop-place.place in
    let all = c.in_ok-left.left.items in
    let coin = coin_view c.coin-item.result in
    let rest = map coin_view (drop (place + 1) items) in
    let left = c.index.result.now in
    let others = drop (place + 1) all in
    let is = rw c.deref-coin-items.ensures.value at c.coin-item.is in
    let within = rw c.deref-coin-items.ensures.value at c.loop-place-test.true in
    let t = c.requires.lawful in
    let count = left_count (balance t.state) c.args.from.now items all (c.in_ok-left.ensures.left t.map t.state t.stands t.spelled) in
    let splits : map coin_view (drop place items) ≡ coin ∷ rest = coins_from items place c.coin-item.result within is in
    let parts : drop place all ≡ left ∷ others = left_from all place left (omega (arith, within, count)) c.index.ensures in
    let from = c.args.from.now in
    let coins = coins_view c.args.coins.now in
    let rises = rising_parts coin rest (rw splits at c.loop-place.invariant.rising) in
    let positive = rw splits at c.loop-place.invariant.positive in
    record {
      rising = rises.1;
      positive = positive.1;
      depth = c.in_ok-burn_coin.ensures.depth ∙ c.loop-place.invariant.depth;
      burned = Becomes-then g.B.Base.stands_for c.args.layers.now c.loop-place.layers c.burn_coin.new.layers (λ s. burned_leaving s from coin left) (λ (s t : State). PartlyBurned s from coins (coin ∷ rest) (left ∷ others) t) (λ (s t : State). PartlyBurned s from coins rest others t)
          (λ s t so. one_more_burned s t from coins coin rest left others c.requires.from positive.0 rises.0 so) (rw (splits, parts) at c.loop-place.invariant.burned) c.in_ok-burn_coin.ensures.ok;
    }

pub returns-clause-burned : goal.returns-clause-burned
returns-clause-burned g c =
    let items = c.args.coins.now.list.items in
    let place = c.loop-place.place in
    let left = drop place c.in_ok-left.left.items in
    let past = rw c.deref-coin-items.ensures.value at c.loop-place-test.false in
    let done : map coin_view (drop place items) ≡ [] = ap (map coin_view) (drop_all place items past) in
    let from = c.args.from.now in
    let coins = coins_view c.args.coins.now in
    Becomes-only g.B.Base.stands_for c.args.layers.now c.loop-place.layers (λ (s t : State). PartlyBurned s from coins [] left t) (λ (s t : State). IsBurned s from coins t) (λ s t so. all_burned s t from coins left so) (rw done at c.loop-place.invariant.burned)

pub returns-clause-lawful : goal.returns-clause-lawful
returns-clause-lawful g c =
    let rest = map coin_view (drop c.loop-place.place c.args.coins.now.list.items) in
    let left = drop c.loop-place.place c.in_ok-left.left.items in
    Becomes-some g.B.Base.stands_for c.args.layers.now c.loop-place.layers (λ (s t : State). PartlyBurned s c.args.from.now (coins_view c.args.coins.now) rest left t) HasLawfulAmounts (λ s t so. so.lawful) c.loop-place.invariant.burned c.requires.lawful
