-- What finding a code's module does to the cache.
use Rattle.std.specs.Prelude.{ℕ, ◌≡◌, ◌⊎◌, List, Some, None}
use Rattle.gatekeeper.specs.declared.served.Served.{Served}
use Rattle.gatekeeper.specs.Cache.{Cache, looked, stowed}
use Rattle.gatekeeper.specs.Fetches.{found_in_cache}

-- the code was held, and was looked up
abbrev pub IsHit : Cache → List ℕ → Served → Cache → Type 0
IsHit old code served new = ((looked old code).held ≡ Some served) × (new ≡ (looked old code).cache)

-- it wasn't, and was stowed
abbrev pub IsMiss : Cache → List ℕ → Served → Cache → Type 0
IsMiss old code served new = ((looked old code).held ≡ None) × (found_in_cache served ≡ None) × (new ≡ stowed (looked old code).cache code)

abbrev pub Finds : Cache → List ℕ → Served → Cache → Type 0
Finds old code served new = IsHit old code served new ⊎ IsMiss old code served new
