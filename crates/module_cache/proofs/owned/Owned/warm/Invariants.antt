-- The codes so far stand in the table once each, and those of them that weren't pinned were fetched.
use Rattle.std.proofs.Common.{◌≡◌, map, take}
use Rattle.gatekeeper.specs.CodeBytes.{code_bytes}
use Rattle.gatekeeper.specs.Cache.{all_tallied, each_once, not_pinned}
use Rattle.module_cache.specs.Pinned.{pinned_codes}
use Rattle.module_cache.specs.Told.{tally_of}
use Rattle.module_cache.proofs.owned.Owned.warm.Given as goal

abbrev pub invariant-loop-code : goal.invariant-loop-code
invariant-loop-code g l = record {
  listed : pinned_codes l.table ≡ each_once (map code_bytes (take l.code-index l.pins));
  told : tally_of l.self ≡ all_tallied (tally_of l.fn.self) (not_pinned (tally_of l.fn.self) (each_once (map code_bytes (take l.code-index l.pins))));
}
