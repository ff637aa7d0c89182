-- The ids before this one are unpinned.
use Rattle.std.proofs.Common.{◌≡◌, take}
use Rattle.chain_records.specs.State.{Spells}
use Rattle.kv_layers.specs.Layers.{depth}
use Rattle.kv_layers.specs.Spelling.{Writes}
use Rattle.code_registry.specs.Codes.{unpinned}
use Rattle.code_registry.proofs.pinning.remove_pins.Given as goal

abbrev pub invariant-loop-id : goal.invariant-loop-id
invariant-loop-id g l = record {
  depth : depth l.layers ≡ depth l.fn.layers;
  written : Writes Spells g.B.Base.stands_for l.fn.layers l.layers (λ s. unpinned s (take l.id-index l.ids));
}
