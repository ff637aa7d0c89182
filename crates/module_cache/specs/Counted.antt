-- Counts of fetches, and the tally that they tell together with a cache.
use Rattle.std.specs.Prelude.{◌+◌, ◌-◌, ◌^◌, min}
use Rattle.gatekeeper.specs.declared.served.Served.{Served}
use Rattle.gatekeeper.specs.declared.served.Served.TheVariants.{Pinned, Recent, File, Decoded}
use Rattle.gatekeeper.specs.Cache.{Cache, Tally, one_more}
use Rattle.module_cache.specs.declared.counts.Counts.{Counts}

abbrev pub no_counts : Counts
no_counts = record { pinned = 0; recent = 0; file = 0; decoded = 0 }

abbrev pub counted : Counts → Served → Counts
counted n Pinned = record n { pinned = one_more n.pinned }
counted n Recent = record n { recent = one_more n.recent }
counted n File = record n { file = one_more n.file }
counted n Decoded = record n { decoded = one_more n.decoded }

-- what was served from a file or decoded was missed
abbrev pub tally_with : Cache → Counts → Tally
tally_with c n = record { cache = c; pinned = n.pinned; recent = n.recent; missed = min (n.file + n.decoded) (2 ^ 64 - 1) }
