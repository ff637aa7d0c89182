-- The coins left have the shortfall that all have, and what is left after them is still to be listed.
use Rattle.std.proofs.Common.{◌≡◌, ◌++◌, map, drop}
use Rattle.chain_records.specs.State.{State}
use Rattle.coin_amounts.specs.Coins.{coins_view}
use Rattle.coin_amounts.specs.Plain.{coin_view}
use Rattle.chain_records.specs.Spelled.{OfEach}
use Rattle.bank_ledger.specs.Balances.{shortfall}
use Rattle.bank_ledger.specs.Accounts.{balance}
use Rattle.bank_ledger.specs.Steps.{amounts_left}
use Rattle.bank_ledger.proofs.shortfall.amounts_left.Given as goal

abbrev pub invariant-loop-coin : goal.invariant-loop-coin
invariant-loop-coin g l =
    let rest = map coin_view (drop l.coin-index l.coins.list.items) in
    record {
      short : OfEach (g.B.Base.stands_for l.fn.view) (λ (s : State). shortfall (balance s) l.fn.from rest ≡ shortfall (balance s) l.fn.from (coins_view l.fn.coins));
      listed : OfEach (g.B.Base.stands_for l.fn.view) (λ (s : State). l.left.items ++ amounts_left (balance s) l.fn.from rest ≡ amounts_left (balance s) l.fn.from (coins_view l.fn.coins));
    }
