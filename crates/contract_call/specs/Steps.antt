-- Where a running call goes on, and what it comes to.
use Rattle.std.specs.Prelude.{ℕ, ◌≡◌, List, ⊤}
use Rattle.gas_meter.specs.declared.schedule.Schedule.{Schedule}
use Rattle.kv_layers.specs.declared.layers.Layers.{Layers}
use Rattle.kv_layers.specs.Bytes.{Bytes}
use Rattle.kv_layers.specs.Maps.{Maps, changed}
use Rattle.gas_store.specs.declared.scoped.Scoped.{Scoped}
use Rattle.gas_store.specs.Storage.{HasOthers}
use Rattle.gas_store.specs.Views.{is_read_only}
use Rattle.host_imports.specs.Faults.{fault_view}
use Rattle.host_imports.specs.Work.{Ended, gave, faulted, ran_out}
use Rattle.host_imports.specs.Reaching.{Holds}
use Rattle.contract_call.specs.declared.running.Running.{Running}
use Rattle.contract_call.specs.declared.step.Step.{Step}
use Rattle.contract_call.specs.declared.step.Step.TheVariants.{Finished, Query, Fault, OutOfGas}
use Rattle.contract_call.specs.Calls.{Call, Outset, Answer, Reached, finished, wants, only_reads, part, place_before}
use Rattle.contract_call.specs.Running.{StandsForPart}

-- a step as a plain value
abbrev pub step_view : Step → Ended Reached
step_view (Finished bytes) = gave (finished bytes.items)
step_view (Query request) = gave (wants request.items)
step_view (Fault fault) = faulted (fault_view fault)
step_view OutOfGas = ran_out

-- of a step that is a query
abbrev pub IfQuery : Step → Type 0 → Type 0
IfQuery (Finished bytes) P = ⊤
IfQuery (Query request) P = P
IfQuery (Fault fault) P = ⊤
IfQuery OutOfGas P = ⊤

-- Everything is as the call wants it to go on with the newest of these answers: the layers stand for maps, of which the current one
-- has what the contract keeps, the scans are those of the call, so much gas is left, and costs and prefix are as the call found them.
-- Before the first answer that is so where the contract's access to its storage is as it was made.
pub record GoesOnFrom {B : Type 0} (S : B → Bytes → Type 0) (layers : Layers B) (maps : Maps) (store : Scoped) (left : ℕ) (costs : Schedule) (prefix : List ℕ) (c : Call) (o : Outset) (answers : List Answer) : Type 0 where
  pub holds : Holds S layers maps store (place_before c o answers)
  pub gas : (place_before c o answers).left ≡ left
  pub read_only : is_read_only store ≡ only_reads c.entry
  pub same_costs : o.costs ≡ costs
  pub same_prefix : o.prefix ≡ prefix

-- The step is what comes of the call after these answers. The layers stand for maps that differ in what this contract keeps alone,
-- and have what it keeps then; scans and gas are those of the call too. A call that waits still stands for these answers.
pub record ComesTo {B : Type 0} (S : B → Bytes → Type 0) (layers : Layers B) (maps : Maps) (addr : List ℕ) (store : Scoped) (running : Running) (left : ℕ) (c : Call) (o : Outset) (answers : List Answer) (step : Step) : Type 0 where
  pub ended_so : (part c o answers).ended ≡ step_view step
  pub gas : (part c o answers).place.left ≡ left
  pub map : Bytes
  pub holds : Holds S layers (changed maps map) store (part c o answers).place
  pub others : HasOthers addr maps.current map
  pub stands : IfQuery step (StandsForPart running c o answers)
