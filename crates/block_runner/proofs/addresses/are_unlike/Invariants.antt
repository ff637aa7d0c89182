-- The set has the first addresses, and those left are new to them where all are new.
use Rattle.std.proofs.Common.{◌≡◌, ℕ, List, take, drop, bytes_eq}
use Rattle.std.specs.List.{list_any}
use Rattle.block_runner.specs.Opening.{are_unlike}
use Rattle.block_runner.proofs.Distinct.{names, are_new, has_bytes}
use Rattle.block_runner.proofs.addresses.are_unlike.Given as goal

abbrev pub invariant-loop-address : goal.invariant-loop-address
invariant-loop-address l =
    let before = names (take l.address-index l.addresses) in
    record {
      has : (address : List ℕ) → has_bytes l.before address ≡ list_any (λ other. bytes_eq other address) before;
      left : are_new before (names (drop l.address-index l.addresses)) ≡ are_unlike (names l.addresses);
    }
