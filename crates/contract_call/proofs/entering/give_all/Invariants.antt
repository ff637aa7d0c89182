use Rattle.std.proofs.Common.{◌≡◌, ◌+◌, ◌≤◌, [], map, drop}
use Rattle.kv_layers.specs.Plain.{bytes_view}
use Rattle.wasm_machine.specs.Machine.{module_of, phase_of}
use Rattle.contract_call.specs.Calls.{gives_all}
use Rattle.contract_call.specs.Parts.{MovesOn}
use Rattle.contract_call.proofs.entering.give_all.Given as goal

abbrev pub invariant-loop-bytes : goal.invariant-loop-bytes
invariant-loop-bytes l = record {
  moves_on : MovesOn l.initial.machine l.machine l.initial.meter.left l.meter.left (gives_all l.costs (map bytes_view l.args) []) (gives_all l.costs (map bytes_view (drop l.bytes-index l.args)) l.values.items);
  phase : phase_of l.machine ≡ phase_of l.initial.machine;
  same : module_of l.machine ≡ module_of l.initial.machine;
  spends : l.meter.left ≤ l.initial.meter.left;
  used : l.meter.left + l.meter.used ≡ l.initial.meter.left + l.initial.meter.used;
}
