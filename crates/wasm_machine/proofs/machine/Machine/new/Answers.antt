use Rattle.std.proofs.Common.{◌≡◌, ◌∙◌, ap}
use Rattle.std.specs.Arc.{arc_value}
use Rattle.gas_meter.specs.Costs.{standard_schedule}
use Rattle.wasm_types.specs.Plain.{plain_module}
use Rattle.wasm_machine.specs.Acts.{idle}
use Rattle.wasm_machine.specs.Start.{table, start_memory, start_globals}
use Rattle.wasm_machine.specs.Effects.{Shared}
use Rattle.wasm_machine.specs.Piles.{all}
use Rattle.wasm_machine.proofs.Runs.{fresh, same_shared}
use Rattle.wasm_machine.specs.Rests.{hosts, waiting}
use Rattle.wasm_machine.specs.Machine.{StandsFor}
use Rattle.wasm_machine.proofs.machine.Machine.new.Goals as goal

pub returns-clause-stands : goal.returns-clause-stands
unfolding StandsFor waiting
returns-clause-stands c =
    let m = plain_module (arc_value c.args.m) in
    let memory : c.in_ok-memory.memory ≡ start_memory m = c.in_ok-memory.ensures ∙ ap (λ x. start_memory (plain_module x)) c.deref.ensures in
    let globals : c.in_ok-globals.globals.items ≡ start_globals m = c.in_ok-globals.ensures ∙ ap (λ x. start_globals (plain_module x)) c.deref-2.ensures in
    let shared : Shared = record { memory = c.in_ok-memory.memory; globals = c.in_ok-globals.globals.items } in
    record {
      standing = idle;
      left = 0;
      costs = standard_schedule;
      goes_on = λ more. fresh m c.new-4.result.items (all c.new.result) (all c.new-2.result) (all c.new-3.result) shared more c.new-4.ensures.items c.new.ensures c.new-2.ensures (same_shared c.in_ok-memory.memory (start_memory m) c.in_ok-globals.globals.items (start_globals m) memory globals);
      hosts_in = ap hosts c.new-4.ensures.items;
      cells = c.in_ok-table.ensures ∙ ap (λ x. table (plain_module x)) c.deref-3.ensures;
    }
