-- Runs of changes, and the map that they are. A run lists rising keys, each with its value, or none where it is removed there;
-- the newest run comes first.
use Rattle.std.specs.Prelude.{ℕ, ◌≡◌, List, [], ◌∷◌, Option, None}
use Rattle.std.specs.Option.{option_or}
use Rattle.std.specs.Ordering.{nat_cmp}
use Rattle.std.specs.Cmp.Lexicographic.{slice_cmp}
use Rattle.std.specs.FinMap.{get, find, empty}
use Rattle.kv_layers.specs.Bytes.{Bytes}
use Rattle.kv_layers.specs.Changes.{after_change, with_change}
use Rattle.kv_layers.specs.Delta.{IsDelta}

abbrev pub Run : Type 0
Run = List (List ℕ × Option (List ℕ))

-- the entry of the newest run that has the key
abbrev pub entry_in : List Run → List ℕ → Option (Option (List ℕ))
entry_in [] key = None
entry_in (run ∷ older) key = option_or (find (slice_cmp nat_cmp) key run) (entry_in older key)

-- its value: none where that entry is a removal, and where no run has the key
abbrev pub value_in : List Run → List ℕ → Option (List ℕ)
value_in runs key = after_change (entry_in runs key) None

-- the map of the runs
abbrev pub IsMapOf : List Run → Bytes → Type 0
IsMapOf runs map = (key : List ℕ) → get map key ≡ value_in runs key

-- the map with the changes done; of two at one key the first one stays
abbrev pub with_changes : Bytes → Run → Bytes
with_changes map [] = map
with_changes map (change ∷ changes) = with_change (with_changes map changes) change.0 change.1

-- that map, computed: the changes of each run are done to the map of the older ones
abbrev pub map_of : List Run → Bytes
map_of [] = empty
map_of (run ∷ older) = with_changes (map_of older) run

-- one more run, unless it is empty
abbrev pub with_run : Run → List Run → List Run
with_run [] runs = runs
with_run (change ∷ changes) runs = (change ∷ changes) ∷ runs

-- one run in which nothing is removed, and which is the whole map
abbrev pub IsWhole : List Run → Bytes → Type 0
IsWhole runs map = (run : Run) × (runs ≡ run ∷ []) × IsDelta empty run map
