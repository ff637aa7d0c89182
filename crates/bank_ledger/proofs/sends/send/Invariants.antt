-- Some of the coins were sent, and the others, whose denoms rise, are left.
use Rattle.std.proofs.Common.{◌≡◌, ◌<◌, map, drop}
use Rattle.std.specs.List.{AllByRecursion}
use Rattle.coin_amounts.specs.Coins.{coins_view}
use Rattle.coin_amounts.specs.Order.{IsRising}
use Rattle.coin_amounts.specs.Plain.{Coin, coin_view}
use Rattle.chain_records.specs.State.{State, Spells}
use Rattle.kv_layers.specs.Layers.{depth}
use Rattle.kv_layers.specs.Spelling.{Becomes}
use Rattle.bank_ledger.specs.Lawful.{HasLawfulAmounts}
use Rattle.bank_ledger.proofs.Sending.{PartlySent}
use Rattle.bank_ledger.proofs.sends.send.Given as goal

abbrev pub invariant-loop-place : goal.invariant-loop-place
invariant-loop-place g l =
    let rest = map coin_view (drop l.place l.fn.coins.list.items) in
    let left = drop l.place l.left.items in
    record {
      rising : IsRising rest;
      positive : AllByRecursion (λ (coin : Coin). 0 < coin.amount) rest;
      depth : depth l.layers ≡ depth l.fn.layers;
      sent : Becomes Spells HasLawfulAmounts g.B.Base.stands_for l.fn.layers l.layers (λ (s t : State). PartlySent s l.fn.from l.fn.to (coins_view l.fn.coins) rest left t);
    }
