-- The codes that a cache holds.
use Rattle.std.specs.Prelude.{ℕ, List, Bool, ◌||◌}
use Rattle.gatekeeper.specs.Cache.{Cache, is_among}
use Rattle.module_cache.specs.declared.state.CacheState.{CacheState}
use Rattle.module_cache.specs.Right.{codes_of, vec_bytes}
use Rattle.module_cache.specs.Pinned.{pinned_codes}

abbrev pub held : CacheState → Cache
held s = record { pinned = pinned_codes s.pinned; recent = codes_of vec_bytes s.recent.entries; size = s.recent.cap }

-- the code is pinned or recent
abbrev pub is_held : Cache → List ℕ → Bool
is_held c code = is_among code c.pinned || is_among code c.recent
