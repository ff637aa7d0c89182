-- The look-up in those that are left answers for all.
use Rattle.std.proofs.Common.{◌≡◌, drop}
use Rattle.std.specs.Map.{lookup}
use Rattle.gatekeeper.specs.CodeBytes.{code_bytes}
use Rattle.module_cache.proofs.Lists.{is_of}
use Rattle.module_cache.proofs.pin_table.find.Given as goal

abbrev pub invariant-loop-known : goal.invariant-loop-known
invariant-loop-known l = lookup (is_of code_bytes (code_bytes l.code)) (drop l.known-index l.list) ≡ lookup (is_of code_bytes (code_bytes l.code)) l.list
