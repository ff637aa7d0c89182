-- Where a machine, a contract's storage and the gas are as a call's place has them, and what some work comes to from there.
use Rattle.std.specs.Prelude.{ℕ, ◌≡◌, List}
use Rattle.kv_layers.specs.declared.layers.Layers.{Layers}
use Rattle.kv_layers.specs.Bytes.{Bytes}
use Rattle.kv_layers.specs.Layers.{Stands}
use Rattle.kv_layers.specs.Maps.{Maps, changed}
use Rattle.gas_store.specs.declared.scoped.Scoped.{Scoped}
use Rattle.gas_store.specs.Storage.{storage_of, HasOthers}
use Rattle.gas_store.specs.Views.{addr_of, scans_of}
use Rattle.wasm_machine.specs.declared.machine.Machine.{Machine}
use Rattle.wasm_machine.specs.Machine.{plain_of, StandsFor}
use Rattle.host_imports.specs.Work.{Place, Ended, gave, faulted, ran_out, Ran}

-- the machine stands for the acts of the place, and so much gas is left
pub record IsAt (machine : Machine) (left : ℕ) (p : Place) : Type 0 where
  pub runs : p.module ≡ plain_of machine
  pub acts : StandsFor machine p.acts
  pub gas : p.left ≡ left

-- after an end of the call the machine has no use, and the gas is told alone
abbrev pub IsLeft : {A : Type 0} → Machine → ℕ → Ended A → Place → Type 0
IsLeft machine left (gave x) p = IsAt machine left p
IsLeft machine left (faulted fault) p = p.left ≡ left
IsLeft machine left ran_out p = p.left ≡ left

-- the layers stand for maps, of which the current one has what the contract keeps, and the scans are those of the place
pub record Holds {B : Type 0} (S : B → Bytes → Type 0) (layers : Layers B) (maps : Maps) (store : Scoped) (p : Place) : Type 0 where
  pub stands : Stands S layers maps
  pub storage : p.storage ≡ storage_of maps.current (addr_of store)
  pub scans : p.scans ≡ scans_of store

-- work that leaves storage and scans as they were ended so
pub record Comes {A : Type 0} (machine : Machine) (left : ℕ) (p : Place) (ran : Ran A) (ended : Ended A) : Type 0 where
  pub ended_so : ran.ended ≡ ended
  pub machine_left : IsLeft machine left ended ran.place
  pub storage : ran.place.storage ≡ p.storage
  pub scans : ran.place.scans ≡ p.scans

-- Work ended so. The layers stand for maps that differ in what this contract keeps alone, and have what it keeps then.
pub record Reaches {B A : Type 0} (S : B → Bytes → Type 0) (layers : Layers B) (maps : Maps) (addr : List ℕ) (store : Scoped) (machine : Machine) (left : ℕ) (ran : Ran A) (ended : Ended A) : Type 0 where
  pub ended_so : ran.ended ≡ ended
  pub machine_left : IsLeft machine left ended ran.place
  pub map : Bytes
  pub holds : Holds S layers (changed maps map) store ran.place
  pub others : HasOthers addr maps.current map
  pub same : addr_of store ≡ addr
