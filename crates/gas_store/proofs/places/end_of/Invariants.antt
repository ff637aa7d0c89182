-- What was taken away were bytes 255.
use Rattle.std.proofs.Common.{◌≡◌, List, ℕ, ◌++◌, vec_len}
use Rattle.gas_store.proofs.Prefixes.{AreLast}
use Rattle.gas_store.proofs.places.end_of.Given as goal

abbrev pub invariant-bytes : goal.invariant-bytes
invariant-bytes l = (gone : List ℕ) × AreLast gone × (l.fn.prefix ≡ l.end.items ++ gone)

abbrev pub decreases-bytes : goal.decreases-bytes
decreases-bytes l = vec_len l.end
