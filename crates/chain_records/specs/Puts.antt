-- Not for readers of contracts: it serves the proofs of this crate alone.
-- What writing a value adds to the bytes that were there.
use Rattle.std.specs.Prelude.{ℕ, ◌≡◌, List, ◌++◌}

-- the bytes of the value came behind them, and it is one that can be written so
pub record Puts {A : Type 0} (written : A → List ℕ) (Is : A → Type 0) (a : A) (old new : List ℕ) : Type 0 where
  pub after : new ≡ old ++ written a
  pub is : Is a
