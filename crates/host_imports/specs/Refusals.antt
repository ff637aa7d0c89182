-- Not for readers of contracts: it serves the proofs of this crate alone.
-- Why a call of a contract's storage did nothing.
use Rattle.gas_store.specs.declared.stop.StoreStop.{StoreStop}
use Rattle.gas_store.specs.declared.stop.StoreStop.TheVariants as stores
use Rattle.host_imports.specs.declared.fault.CallFault.TheVariants as faults
use Rattle.host_imports.specs.declared.stop.Stop.{Stop}
use Rattle.host_imports.specs.declared.stop.Stop.TheVariants.{Fault, OutOfGas, NoMemory}

abbrev pub stop_at : StoreStop → Stop
stop_at stores.OutOfGas = OutOfGas
stop_at stores.WriteInQuery = Fault faults.WriteInQuery
stop_at stores.EmptyValue = Fault faults.EmptyValue
stop_at stores.NoSuchScan = Fault faults.NoSuchScan
stop_at stores.TooManyScans = Fault faults.TooManyScans
stop_at stores.NoMemory = NoMemory
