-- Not for readers of contracts: it serves the proofs of this crate alone.
-- The bounds of a contract's keys as bounds of keys of the chain.
use Rattle.std.specs.Prelude.{ℕ, List, ◌++◌, Option, Some, None}
use Rattle.gas_store.specs.Ends.{end_of}

abbrev pub lower_place : List ℕ → Option (List ℕ) → List ℕ
lower_place prefix None = prefix
lower_place prefix (Some lo) = prefix ++ lo

abbrev pub upper_place : List ℕ → Option (List ℕ) → List ℕ
upper_place prefix None = end_of prefix
upper_place prefix (Some hi) = prefix ++ hi
