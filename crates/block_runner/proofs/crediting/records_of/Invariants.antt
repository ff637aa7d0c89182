-- The records have what the first accounts have.
use Rattle.std.proofs.Common.{◌≡◌, ◌++◌, List}
use Rattle.std.specs.Iterator.Adapters.{zip_first, zip_second}
use Rattle.std.specs.Slice.Iter.{iter_rest}
use Rattle.chain_records.specs.Records.{plain_facts}
use Rattle.bank_ledger.specs.Minted.{opening}
use Rattle.block_runner.specs.Crediting.{Records, accounts_view}
use Rattle.block_runner.specs.Opening.{Account, supply_of, all_credited}
use Rattle.block_runner.proofs.crediting.records_of.Given as goal

abbrev pub invariant-loop-address : goal.invariant-loop-address
invariant-loop-address l =
    let left = accounts_view (iter_rest (zip_first l.address-iterator)) (iter_rest (zip_second l.address-iterator)) in
    record {
      done : List Account;
      all : accounts_view l.addresses l.coins ≡ done ++ left;
      are : Records (all_credited (opening (plain_facts l.fn.facts)) done) (supply_of done) l.records;
    }
