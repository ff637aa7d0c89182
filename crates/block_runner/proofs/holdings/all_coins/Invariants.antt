-- What was read and what the holdings left give is what all give.
use Rattle.std.proofs.Common.{◌≡◌, All, drop, map}
use Rattle.std.specs.Result.{result_ok}
use Rattle.coin_amounts.specs.Coins.{coins_view, coins_of}
use Rattle.chain_msgs.specs.Plain.{holding_view}
use Rattle.block_runner.specs.Crediting.{HaveDenoms}
use Rattle.block_runner.specs.Opening.{all_read}
use Rattle.block_runner.proofs.Items.{with_front}
use Rattle.block_runner.proofs.holdings.all_coins.Given as goal

abbrev pub invariant-loop-holding : goal.invariant-loop-holding
invariant-loop-holding l = record {
  read : with_front (map coins_view l.all.items) (all_read (λ h. result_ok (coins_of h.1)) (map holding_view (drop l.holding-index l.holdings))) ≡ all_read (λ h. result_ok (coins_of h.1)) (map holding_view l.holdings);
  denoms : All (λ coins. HaveDenoms (coins_view coins)) l.all.items;
}
