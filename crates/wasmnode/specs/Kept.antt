-- Not for readers of contracts: it serves the proofs of this crate alone.
-- A buffer of what stands at the newest heights.
use Rattle.std.specs.Prelude.{ℕ, ◌≡◌, ◌+◌, ◌≤◌, length, min, Some, slice_get}
use Rattle.circular_buffer.specs.Buffer.{Buffer}

-- There is an item for each of so many heights up to the newest one, or for all that there are, the newest last. Of each with
-- its height this holds.
pub record Keeps {X : Type 0} (P : ℕ → X → Type 0) (keep newest : ℕ) (buffer : Buffer X) : Type 0 where
  pub some : 1 ≤ keep
  pub room : buffer.capacity ≡ keep
  pub count : length buffer.items ≡ min keep (newest + 1)
  pub each : (place height : ℕ) (x : X) → slice_get buffer.items place ≡ Some x → height + length buffer.items ≡ newest + 1 + place → P height x
