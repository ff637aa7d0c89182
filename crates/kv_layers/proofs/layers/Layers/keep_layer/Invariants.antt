use Rattle.std.proofs.Common.{◌≡◌, ◌+◌}
use Rattle.kv_layers.specs.Bytes.{Bytes}
use Rattle.kv_layers.specs.Layers.{depth, Stands}
use Rattle.kv_layers.specs.Maps.{Maps, changed, kept}
use Rattle.kv_layers.proofs.Keeping.{IsRising, LeftTo}
use Rattle.kv_layers.proofs.layers.Layers.keep_layer.Given as goal

abbrev pub invariant-loop-key : goal.invariant-loop-key
invariant-loop-key g l = record {
  depth : depth l.self + 1 ≡ depth l.fn.self;
  rising : IsRising l.key-iterator;
  maps : (maps : Maps) → Stands g.B.Base.stands_for l.fn.self maps → (now : Bytes) × Stands g.B.Base.stands_for l.self (changed (kept maps) now) × LeftTo l.key-iterator now maps.current;
}
