use Rattle.std.proofs.Common.{◌≡◌, ◌+◌, ◌*◌, ◌≤◌, List}
use Rattle.wasm_types.specs.Plain.{plain_module}
use Rattle.wasm_machine.specs.Acts.{Act}
use Rattle.wasm_machine.specs.Start.{table}
use Rattle.wasm_machine.specs.Rests.{next_weight, Begins, hosts, height, ahead, next_at}
use Rattle.wasm_machine.proofs.state.State.run.Given as goal

-- what comes of the event is what comes of the first
abbrev pub invariant-loop-frame : goal.invariant-loop-frame
invariant-loop-frame l = record {
  same : (acts : List Act) → 1 ≤ hosts l.fn.self.callers.items → l.code.table.now ≡ table (plain_module l.code.module.now) → next_at (plain_module l.code.module.now) l.fn.self l.fn.self.next (ahead l.fn.meter.left l.code.costs.now acts) ≡ next_at (plain_module l.code.module.now) l.self l.self.next (ahead l.meter.left l.code.costs.now acts);
  hosts : hosts l.self.callers.items ≡ hosts l.fn.self.callers.items;
  left : l.meter.left ≤ l.fn.meter.left;
  begins : l.meter.left ≡ l.fn.meter.left → Begins l.self.next → Begins l.fn.self.next;
  used : l.meter.left + l.meter.used ≡ l.fn.meter.left + l.fn.meter.used;
}

abbrev pub decreases-loop-frame : goal.decreases-loop-frame
decreases-loop-frame l = 5 * l.meter.left + height l.self + next_weight l.self.next
