-- What a cache of one thread tells.
use Rattle.gatekeeper.specs.Cache.{Tally}
use Rattle.module_cache.specs.declared.owned.Owned.{Owned}
use Rattle.module_cache.specs.Held.{held}
use Rattle.module_cache.specs.Counted.{tally_with}

abbrev pub tally_of : {F : Type 0} → Owned F → Tally
tally_of o = tally_with (held o.cache) o.counts
