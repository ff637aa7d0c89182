use Rattle.std.proofs.Common.{◌≡◌, ◌+◌, ◌<◌, ◌≤◌, ℕ}
use Rattle.std.specs.Prelude.{IsTrue}
use Rattle.kv_layers.specs.Layers.{depth, Turns}
use Rattle.gas_store.specs.Views.{is_read_only}
use Rattle.gas_store.specs.Effects.{IsSameScope}
use Rattle.wasm_machine.specs.declared.turn.Phase.TheVariants.{Ready}
use Rattle.wasm_machine.specs.Machine.{module_of, phase_of, HasUnbegunCall}
use Rattle.host_imports.specs.Imports.{setting}
use Rattle.contract_call.specs.Calls.{turns}
use Rattle.contract_call.specs.Parts.{Leads}
use Rattle.contract_call.proofs.turning.go_on.Given as goal

abbrev pub invariant-loop-pause : goal.invariant-loop-pause
invariant-loop-pause g l = record {
  leads : (n : ℕ) → l.initial.meter.left < n → (m : ℕ) × (l.meter.left < m) × Leads g.B.Base.stands_for l.initial.layers l.layers l.initial.store l.store l.initial.machine l.machine l.initial.meter.left l.meter.left (turns (setting l.costs (is_read_only l.initial.store) l.prefix) n) (turns (setting l.costs (is_read_only l.initial.store) l.prefix) m);
  phase : phase_of l.machine ≡ Ready;
  begun : ¬ HasUnbegunCall l.machine;
  scope : IsSameScope l.initial.store l.store;
  deep : depth l.layers ≡ depth l.initial.layers;
  unchanged : IsTrue (is_read_only l.initial.store) → Turns g.B.Base.stands_for l.initial.layers l.layers (λ maps. maps);
  same : module_of l.machine ≡ module_of l.initial.machine;
  spends : l.meter.left ≤ l.initial.meter.left;
  used : l.meter.left + l.meter.used ≡ l.initial.meter.left + l.initial.meter.used;
}

abbrev pub decreases-loop-pause : goal.decreases-loop-pause
decreases-loop-pause g l = l.meter.left
