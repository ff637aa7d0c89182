use Rattle.std.proofs.Common.{◌≡◌, ◌+◌, ◌*◌, ◌≤◌, List}
use Rattle.wasm_types.specs.Plain.{plain_module}
use Rattle.wasm_machine.specs.Acts.{Act}
use Rattle.wasm_machine.specs.Start.{table}
use Rattle.wasm_machine.specs.Rests.{hosts, height, ahead, at_place, running}
use Rattle.wasm_machine.proofs.state.State.go.Given as goal

-- what comes of the function at the place is what comes of it from the start
abbrev pub invariant-loop-onward : goal.invariant-loop-onward
invariant-loop-onward l = record {
  same : (acts : List Act) → l.code.table.now ≡ table (plain_module l.code.module.now) → running (plain_module l.code.module.now) l.fn.self l.frame (ahead l.fn.meter.left l.code.costs.now acts) ≡ running (plain_module l.code.module.now) l.self (at_place l.frame l.place) (ahead l.meter.left l.code.costs.now acts);
  hosts : hosts l.self.callers.items ≡ hosts l.fn.self.callers.items;
  sinks : 5 * l.meter.left + height l.self ≤ 5 * l.fn.meter.left + height l.fn.self;
  left : l.meter.left ≤ l.fn.meter.left;
  used : l.meter.left + l.meter.used ≡ l.fn.meter.left + l.fn.meter.used;
}

abbrev pub decreases-loop-onward : goal.decreases-loop-onward
decreases-loop-onward l = 5 * l.meter.left + height l.self
