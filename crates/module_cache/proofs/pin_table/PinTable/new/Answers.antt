use Rattle.gatekeeper.specs.CodeBytes.{code_bytes}
use Rattle.module_cache.proofs.Pins.{none_are_right, none_differ}
use Rattle.module_cache.proofs.pin_table.PinTable.new.Goals as goal

pub invariant_of-result : goal.invariant_of-result
invariant_of-result c = record {
  right = none_are_right code_bytes c.new.result.items c.new.ensures.items;
  differ = none_differ code_bytes c.new.result.items c.new.ensures.items;
}
