-- The ids before this one were added.
use Rattle.std.proofs.Common.{◌≡◌, take}
use Rattle.std.specs.FinMap.{keys}
use Rattle.code_registry.specs.Codes.{Pins, pins_with}
use Rattle.code_registry.proofs.counting.add_all.Given as goal

abbrev pub invariant-loop-id : goal.invariant-loop-id
invariant-loop-id l = (pins : Pins) → l.fn.set.keys ≡ keys pins → l.set.keys ≡ keys (pins_with pins (take l.id-index l.ids))
