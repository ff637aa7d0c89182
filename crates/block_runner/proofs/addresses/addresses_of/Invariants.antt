-- What was read and what the holdings left give is what all give.
use Rattle.std.proofs.Common.{◌≡◌, All, drop, map}
use Rattle.chain_addr.specs.Address.{address_of}
use Rattle.chain_msgs.specs.Plain.{holding_view}
use Rattle.chain_records.specs.Keys.{IsAddress}
use Rattle.chain_records.specs.Records.{bytes_view}
use Rattle.block_runner.specs.Opening.{all_read}
use Rattle.block_runner.proofs.Items.{with_front}
use Rattle.block_runner.proofs.addresses.addresses_of.Given as goal

abbrev pub invariant-loop-holding : goal.invariant-loop-holding
invariant-loop-holding l = record {
  read : with_front (map bytes_view l.addresses.items) (all_read (λ h. address_of l.prefix h.0) (map holding_view (drop l.holding-index l.holdings))) ≡ all_read (λ h. address_of l.prefix h.0) (map holding_view l.holdings);
  sized : All (λ a. IsAddress a.items) l.addresses.items;
}
