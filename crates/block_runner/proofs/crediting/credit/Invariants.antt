-- The first coins were added.
use Rattle.std.proofs.Common.{◌+◌, map, take}
use Rattle.coin_amounts.specs.Plain.{coin_view}
use Rattle.chain_records.specs.State.{State}
use Rattle.bank_ledger.specs.Balances.{amount_in}
use Rattle.block_runner.specs.Crediting.{Records}
use Rattle.block_runner.specs.Opening.{credited}
use Rattle.block_runner.proofs.Minting.{Supplies}
use Rattle.block_runner.proofs.crediting.credit.Given as goal

abbrev pub invariant-loop-coin : goal.invariant-loop-coin
invariant-loop-coin l =
    let coins = map coin_view (take l.coin-index l.coins.list.items) in
    (s : State) (u : Supplies) → Records s u l.fn.records → Records (credited s (l.to, coins)) (λ denom. u denom + amount_in coins denom) l.records
