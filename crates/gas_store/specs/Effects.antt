-- What a call of a `Scoped` did: one step on the contract's storage in the layers, its scans and the gas.
use Rattle.std.specs.Prelude.{◌≡◌, Result, Ok, Err}
use Rattle.gas_meter.specs.Gas.{Gas}
use Rattle.kv_layers.specs.declared.layers.Layers.{Layers}
use Rattle.kv_layers.specs.Bytes.{Bytes}
use Rattle.kv_layers.specs.Layers.{Stands}
use Rattle.kv_layers.specs.Maps.{Maps, changed}
use Rattle.gas_store.specs.declared.scoped.Scoped.{Scoped}
use Rattle.gas_store.specs.declared.stop.StoreStop.{StoreStop}
use Rattle.gas_store.specs.declared.stop.StoreStop.TheVariants.{OutOfGas, WriteInQuery, EmptyValue, NoSuchScan, TooManyScans, NoMemory}
use Rattle.gas_store.specs.Storage.{storage_of, HasOthers}
use Rattle.gas_store.specs.Store.{Store, Step}
use Rattle.gas_store.specs.Views.{addr_of, scans_of}

-- of an answer, unless memory ran out
abbrev pub UnlessNoMemory : StoreStop → Type 0 → Type 0
UnlessNoMemory NoMemory P = Unit {0}
UnlessNoMemory OutOfGas P = P
UnlessNoMemory WriteInQuery P = P
UnlessNoMemory EmptyValue P = P
UnlessNoMemory NoSuchScan P = P
UnlessNoMemory TooManyScans P = P

abbrev pub Answers : {X A : Type 0} → (X → A) → Result X StoreStop → (Result A StoreStop → Type 0) → Type 0
Answers view (Ok x) P = P (Ok (view x))
Answers view (Err stop) P = UnlessNoMemory stop (P (Err stop))

abbrev pub store_in : Bytes → Scoped → Gas → Store
store_in map scoped gas = record { storage = storage_of map (addr_of scoped); scans = scans_of scoped; gas = gas }

-- whichever map the layers stand for: they stand for one in which all that isn't the contract's is as before, and the answer and
-- what is there of the contract are those of the step
abbrev pub Does : {B A : Type 0} → (B → Bytes → Type 0) → Layers B → Layers B → Scoped → Scoped → Gas → Gas → (Store → Step A) → Result A StoreStop → Type 0
Does S old_layers new_layers old new old_gas new_gas step answer =
    (maps : Maps) → Stands S old_layers maps
    → (map : Bytes) × Stands S new_layers (changed maps map) × HasOthers (addr_of old) maps.current map
    × (step (store_in maps.current old old_gas) ≡ (answer, store_in map new new_gas))

-- the same of a call without layers, which leaves each storage as it is
abbrev pub DoesAlone : {A : Type 0} → Scoped → Scoped → Gas → Gas → (Store → Step A) → Result A StoreStop → Type 0
DoesAlone old new old_gas new_gas step answer =
    (storage : Bytes)
    → step (record { storage = storage; scans = scans_of old; gas = old_gas }) ≡ (answer, record { storage = storage; scans = scans_of new; gas = new_gas })

-- a call leaves whose storage it is, and whether the call only reads
pub record IsSameScope (old new : Scoped) : Type 0 where
  pub addr : addr_of new ≡ addr_of old
  pub read_only : new.read_only ≡ old.read_only
