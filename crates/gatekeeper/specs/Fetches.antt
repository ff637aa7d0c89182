-- What a fetch says of the tally that a place where modules come from may tell. Where it tells none, nothing is claimed.
use Rattle.std.specs.Prelude.{◌≡◌, ℕ, List, ◌++◌, Option, Some, None, ⊤}
use Rattle.gatekeeper.specs.declared.served.Served.{Served}
use Rattle.gatekeeper.specs.declared.served.Served.TheVariants.{Pinned, Recent, File, Decoded}
use Rattle.gatekeeper.specs.Cache.{Tally, looked, all_tallied}

-- Between the two tallies these codes were fetched, in order.
abbrev pub Tallies : Option Tally → List (List ℕ) → Option Tally → Type 0
Tallies None codes after = ⊤
Tallies (Some t) codes after = after ≡ Some (all_tallied t codes)

abbrev pub found_in_cache : Served → Option Served
found_in_cache Pinned = Some Pinned
found_in_cache Recent = Some Recent
found_in_cache File = None
found_in_cache Decoded = None

-- The code was served pinned or recent just where the cache holds it so.
abbrev pub ServesHeld : Option Tally → List ℕ → Served → Type 0
ServesHeld None code served = ⊤
ServesHeld (Some t) code served = found_in_cache served ≡ (looked t.cache code).held

-- fetches of some codes and then of others are fetches of them all
abbrev pub TalliesJoin : Type 0
TalliesJoin = (codes more : List (List ℕ)) (first middle last : Option Tally) → Tallies first codes middle → Tallies middle more last → Tallies first (codes ++ more) last
