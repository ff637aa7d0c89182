-- The codes so far are the same.
use Rattle.std.proofs.Common.{◌≡◌, map, take}
use Rattle.gatekeeper.specs.CodeBytes.{code_bytes}
use Rattle.module_cache.specs.Right.{codes_of}
use Rattle.module_cache.proofs.pin_table.begins_with.Given as goal

abbrev pub invariant-loop-i : goal.invariant-loop-i
invariant-loop-i l = take l.i (codes_of code_bytes l.list) ≡ take l.i (map code_bytes l.codes)
