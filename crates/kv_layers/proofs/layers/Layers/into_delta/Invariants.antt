use Rattle.std.proofs.Common.{◌≡◌, ◌≤◌, ◌+◌, ◌++◌, length, vec_len, vec_capacity}
use Rattle.kv_layers.proofs.Keeping.{IsRising}
use Rattle.kv_layers.proofs.layers.Layers.into_delta.Given as goal

abbrev pub invariant-loop-change : goal.invariant-loop-change
invariant-loop-change g l = record {
  poured : l.room.items ++ l.change-iterator ≡ l.fn.self.newest.entries;
  rising : IsRising l.fn.self.newest.entries;
  fits : vec_len l.room + length l.change-iterator ≤ vec_capacity l.room;
}
