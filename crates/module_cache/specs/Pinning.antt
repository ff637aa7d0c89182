-- Codes that are to be pinned, one after the other.
use Rattle.std.specs.Prelude.{ℕ, if◌then◌else◌, List, [], ◌∷◌, ◌++◌}
use Rattle.gatekeeper.specs.Cache.{Tally, is_among, tallied}

-- the codes with one more, unless it is there
abbrev pub with_one_more : List (List ℕ) → List ℕ → List (List ℕ)
with_one_more codes code = if is_among code codes then codes else codes ++ code ∷ []

-- the tally after a code was pinned: one that isn't pinned yet is fetched
abbrev pub fetched_to_pin : Tally → List ℕ → Tally
fetched_to_pin t code = if is_among code t.cache.pinned then t else tallied t code

abbrev pub tally_with_one_more : List (List ℕ) → Tally → List ℕ → Tally
tally_with_one_more codes t code = if is_among code codes then t else fetched_to_pin t code
