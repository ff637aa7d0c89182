-- The first one is among the ids that are left.
use Rattle.std.proofs.Common.{◌≡◌, drop}
use Rattle.code_registry.specs.Steps.{first_outside}
use Rattle.code_registry.proofs.authority.first_outside.Given as goal

abbrev pub invariant-loop-id : goal.invariant-loop-id
invariant-loop-id l = first_outside l.next (drop l.id-index l.ids) ≡ first_outside l.next l.ids
