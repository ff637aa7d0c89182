-- Not for readers of contracts: it serves the proofs of this crate alone.
-- The size of the lowest of some layers, of which those below the newest are listed oldest first.
use Rattle.std.specs.Prelude.{ℕ, List, [], ◌∷◌}
use Rattle.std.specs.BTreeMap.{btree_map_len}
use Rattle.kv_layers.specs.Changes.{Layer}

abbrev pub lowest_len : Layer → List Layer → ℕ
lowest_len newest [] = btree_map_len newest
lowest_len newest (lowest ∷ layers) = btree_map_len lowest
