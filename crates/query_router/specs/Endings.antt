-- How a contract's call has ended in the code, by what comes of it.
use Rattle.std.specs.Prelude.{ℕ, ◌≡◌, List, Option, Result, Ok, Err, ⊤}
use Rattle.chain_records.specs.State.{Bytes, State, Spells}
use Rattle.gatekeeper.specs.Cache.{Tally}
use Rattle.gatekeeper.specs.Fetches.{Tallies}
use Rattle.kv_layers.specs.declared.layers.Layers.{Layers}
use Rattle.kv_layers.specs.Layers.{Stands}
use Rattle.kv_layers.specs.Maps.{Maps, changed}
use Rattle.gas_store.specs.Typed.{with_storage}
use Rattle.host_imports.specs.Faults.{fault_view}
use Rattle.host_imports.specs.Work.{Ended, gave, faulted, ran_out}
use Rattle.query_router.specs.declared.end.CallEnd.{CallEnd}
use Rattle.query_router.specs.declared.end.CallEnd.TheVariants as ends
use Rattle.query_router.specs.declared.stop.QueryStop.{QueryStop}
use Rattle.query_router.specs.declared.stop.QueryStop.TheVariants.{OutOfGas, NoMemory}
use Rattle.query_router.specs.Calls.{Called}

abbrev pub end_view : CallEnd → Ended (List ℕ)
end_view (ends.Finished bytes) = gave bytes.items
end_view (ends.Fault fault) = faulted (fault_view fault)

-- the call has ended so, with so much gas left, and the layers stand for the state with what the contract keeps then
pub record EndsAt {B : Type 0} (S : B → Bytes → Type 0) (layers : Layers B) (maps : Maps) (s : State) (addr : List ℕ) (left : ℕ) (before after : Option Tally) (called : Called) (ended : Ended (List ℕ)) : Type 0 where
  pub ended_so : called.ended ≡ ended
  pub gas : called.left ≡ left
  pub fetched : Tallies before called.fetched after
  pub map : Bytes
  pub stands : Stands S layers (changed maps map)
  pub spelled : Spells map (with_storage s addr called.storage)

-- a call without gas has ended too; want of memory says nothing
abbrev pub Ends : {B : Type 0} → (B → Bytes → Type 0) → Layers B → Maps → State → List ℕ → ℕ → Option Tally → Option Tally → Called → Result CallEnd QueryStop → Type 0
Ends S layers maps s addr left before after called (Ok end) = EndsAt S layers maps s addr left before after called (end_view end)
Ends S layers maps s addr left before after called (Err OutOfGas) = EndsAt S layers maps s addr left before after called ran_out
Ends S layers maps s addr left before after called (Err NoMemory) = ⊤
