-- Not for readers of contracts: it serves the proofs of this crate alone.
-- How many bytes a scan's bounds had when it began.
use Rattle.std.specs.Prelude.{ℕ}
use Rattle.gas_store.specs.declared.scan.Scan.{Scan}

abbrev pub given_of : Scan → ℕ
given_of scan = scan.given
