-- When a snapshot is merged: before a block is added to one of more than 16 runs.
use Rattle.std.specs.Prelude.{ℕ, ◌≡◌, ◌-◌, ◌<◌, ◌≤◌, List, [], ◌∷◌, ◌++◌, length, Some, slice_get}
use Rattle.circular_buffer.specs.Buffer.{Buffer, buffer, keep_last}
use Rattle.state_runs.specs.Runs.{Run, map_of, with_run, IsWhole}

abbrev pub most_runs : ℕ
most_runs = 16

-- what a block is added to: these runs, or where they are more, their map in one run
pub record IsBase (runs base : List Run) : Type 0 where
  pub shared : length runs ≤ most_runs → base ≡ runs
  pub merged : most_runs < length runs → IsWhole base (map_of runs)

-- what a block is added to where these are the snapshots of the newest heights, the newest last
abbrev pub IsNewestBase : Buffer (List Run) → List Run → Type 0
IsNewestBase heights base = (runs : List Run) × (slice_get heights.items (length heights.items - 1) ≡ Some runs) × IsBase runs base

-- a snapshot more stands behind these: changes that lie over what a block is added to
pub record HasAdded (old new : Buffer (List Run)) : Type 0 where
  pub base : List Run
  pub changes : Run
  pub newest : IsNewestBase old base
  pub added : new ≡ buffer (keep_last old.capacity (old.items ++ with_run changes base ∷ [])) old.capacity
