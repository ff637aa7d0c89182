use Rattle.std.specs.Prelude.{IsTrue}
use Rattle.std.proofs.Common.{◌≡◌, ℕ, ◌+◌, ◌-◌, ◌*◌, ◌≤◌}
use Rattle.chain_records.specs.State.{State, Spells}
use Rattle.kv_layers.specs.Layers.{Stands, Turns, HasCurrent}
use Rattle.kv_layers.specs.Layers as stacks
use Rattle.kv_layers.specs.Maps.{Maps}
use Rattle.gas_store.specs.Views.{addr_of, is_read_only}
use Rattle.gas_store.specs.Effects.{IsSameScope}
use Rattle.contract_call.specs.Calls.{Call}
use Rattle.contract_call.specs.declared.step.Step.{Step}
use Rattle.contract_call.specs.declared.step.Step.TheVariants as steps
use Rattle.contract_call.specs.Running.{WaitsForAnswer}
use Rattle.contract_call.specs.Steps.{IfQuery}
use Rattle.query_router.specs.Calls.{gathered_all, outset_of, queries}
use Rattle.query_router.specs.Calling.{HasCome, IsBegun}
use Rattle.query_router.specs.Lawful.{IsLawful}
use Rattle.query_router.proofs.router.+queries.Given as goal

abbrev pub decreases-query : goal.decreases-query
decreases-query g l = 3 * (11 - l.depth)

abbrev pub decreases-finish : goal.decreases-finish
decreases-finish g l = 3 * (11 - l.depth) - 1

abbrev pub decreases-go_on : goal.decreases-go_on
decreases-go_on g l = 3 * (11 - l.depth) - 2

-- measured at a query; there is more to do there than the gas that is left
abbrev steps_left : Step → ℕ → ℕ
steps_left (steps.Finished bytes) left = 0
steps_left (steps.Query request) left = left + 1
steps_left (steps.Fault fault) left = 0
steps_left steps.OutOfGas left = 0

abbrev pub invariant-finish-loop-step : goal.invariant-finish-loop-step
invariant-finish-loop-step g l = record {
  comes : (maps : Maps) (s : State) (of : Call) → Stands g.B.Base.stands_for l.fn.view maps → Spells maps.current s → IsLawful s → IsBegun s l.fn.call of
      → HasCome g.B.Base.stands_for l.view maps s (addr_of l.fn.call.store) l.call l.meter.left (g.M.Modules.tally l.fn.modules) (g.M.Modules.tally l.modules) (queries l.costs (9 - l.depth)) of
      (outset_of l.costs s (addr_of l.fn.call.store) l.fn.meter.left) (gathered_all (queries l.costs (9 - l.depth)) s (addr_of l.fn.call.store) of (outset_of l.costs s (addr_of l.fn.call.store) l.fn.meter.left)) l.step;
  waits : IfQuery l.step (WaitsForAnswer l.call.running);
  scope : IsSameScope l.fn.call.store l.call.store;
  prefix : l.call.prefix ≡ l.fn.call.prefix;
  gas : l.meter.left + l.meter.used ≡ l.fn.meter.left + l.fn.meter.used;
  spends : l.meter.left ≤ l.fn.meter.left;
  unchanged : IsTrue (is_read_only l.fn.call.store) → Turns g.B.Base.stands_for l.fn.view l.view (λ maps. maps);
  deep : stacks.depth l.view ≡ stacks.depth l.fn.view;
}

abbrev pub decreases-finish-loop-step : goal.decreases-finish-loop-step
decreases-finish-loop-step g l = steps_left l.step l.meter.left
