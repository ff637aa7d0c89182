-- Not for readers of contracts: it serves the proofs of this crate alone.
-- Where a key stands among changes whose keys rise.
use Rattle.std.specs.Prelude.{ℕ, suc, List, [], ◌∷◌, Option, Some, None, if◌then◌else◌}
use Rattle.std.specs.Option.{option_or}
use Rattle.std.specs.Ordering.{is_eq}
use Rattle.kv_layers.specs.declared.order.Order.{Order}
use Rattle.kv_layers.specs.declared.order.Order.TheVariants.{Ascending, Descending}
use Rattle.kv_layers.specs.Bytes.{bytes_cmp}
use Rattle.kv_layers.specs.Next.{comes_before, is_from, is_below}
use Rattle.state_runs.specs.Runs.{Run}

-- how many changes at the front have keys below this one
abbrev pub count_below : List ℕ → Run → ℕ
count_below key [] = 0
count_below key (change ∷ changes) = if comes_before Ascending change.0 key then suc (count_below key changes) else 0

-- the first change from the bound on
abbrev pub first_from : Option (List ℕ) → Run → Option (List ℕ × Option (List ℕ))
first_from lo [] = None
first_from lo (change ∷ changes) = if is_from lo change.0 then Some change else first_from lo changes

-- the last change at the front that is below the bound
abbrev pub last_below : Option (List ℕ) → Run → Option (List ℕ × Option (List ℕ))
last_below hi [] = None
last_below hi (change ∷ changes) = if is_below hi change.0 then option_or (last_below hi changes) (Some change) else None

-- the only change that can be the first one within the bounds
abbrev pub nearest : Order → Option (List ℕ) → Option (List ℕ) → Run → Option (List ℕ × Option (List ℕ))
nearest Ascending lo hi changes = first_from lo changes
nearest Descending lo hi changes = last_below hi changes

-- the changes at the front that are below the bound
abbrev pub below : Option (List ℕ) → Run → Run
below end [] = []
below end (change ∷ changes) = if is_below end change.0 then change ∷ below end changes else []

-- the others
abbrev pub from : Option (List ℕ) → Run → Run
from end [] = []
from end (change ∷ changes) = if is_below end change.0 then from end changes else change ∷ changes

-- without the first change, if it is at this key
abbrev pub past : List ℕ → Run → Run
past key [] = []
past key (change ∷ changes) = if is_eq (bytes_cmp key change.0) then changes else change ∷ changes
