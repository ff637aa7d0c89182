-- The least list of changes that leads from one map to another.
use Rattle.std.specs.Prelude.{ℕ, List, Option, map}
use Rattle.std.specs.Ordering.{nat_cmp}
use Rattle.std.specs.Cmp.Lexicographic.{slice_cmp}
use Rattle.std.specs.FinMap.{find}
use Rattle.kv_layers.specs.declared.delta.Delta.{Delta}
use Rattle.kv_layers.specs.Bytes.{Bytes}
use Rattle.kv_layers.specs.Changes.{LeadsTo, IsLeast}
pub use Rattle.kv_layers.specs.Rising.{change_view, KeysRise}

-- keys rise; at each key that is listed the maps differ, and at no other
pub record IsDelta (old : Bytes) (changes : List (List ℕ × Option (List ℕ))) (new : Bytes) : Type 0 where
  pub rising : KeysRise changes
  pub leads : LeadsTo old (λ key. find (slice_cmp nat_cmp) key changes) new
  pub least : IsLeast old (λ key. find (slice_cmp nat_cmp) key changes)

abbrev pub delta_view : Delta → List (List ℕ × Option (List ℕ))
delta_view delta = map change_view delta.changes.items
