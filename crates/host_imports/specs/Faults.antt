-- Why a contract's call fails, as plain values, and what is told of it.
use Rattle.std.specs.Prelude.{ℕ, List, ◌++◌, codes, decimal, string_bytes}
use Rattle.linear_memory.specs.declared.region.RegionBad.{RegionBad}
use Rattle.linear_memory.specs.declared.region.RegionBad.TheVariants as regions
use Rattle.wasm_machine.specs.declared.turn.TrapKind.{TrapKind}
use Rattle.wasm_machine.specs.declared.turn.TrapKind.TheVariants as traps
use Rattle.host_imports.specs.declared.fault.CallFault.{CallFault}
use Rattle.host_imports.specs.declared.fault.CallFault.TheVariants as faults

pub data Fault : Type 0 where
  trap : TrapKind → Fault
  -- by the contract itself, with this text
  aborted : List ℕ → Fault
  region_bad : RegionBad → Fault
  -- so many bytes, of which there may be so many
  too_long : ℕ → ℕ → Fault
  write_in_query : Fault
  empty_value : Fault
  bad_order : Fault
  no_such_scan : Fault
  too_many_scans : Fault
  import_in_allocate : Fault
  signature_out_of_scope : Fault
  no_entry : List ℕ → Fault
  bad_result : Fault
  bad_event : Fault

abbrev pub fault_view : CallFault → Fault
fault_view (faults.Trap kind) = trap kind
fault_view (faults.Aborted text) = aborted (string_bytes text)
fault_view (faults.RegionBad bad) = region_bad bad
fault_view (faults.TooLong length limit) = too_long length limit
fault_view faults.WriteInQuery = write_in_query
fault_view faults.EmptyValue = empty_value
fault_view faults.BadOrder = bad_order
fault_view faults.NoSuchScan = no_such_scan
fault_view faults.TooManyScans = too_many_scans
fault_view faults.ImportInAllocate = import_in_allocate
fault_view faults.SignatureOutOfScope = signature_out_of_scope
fault_view (faults.NoEntry name) = no_entry (string_bytes name)
fault_view faults.BadResult = bad_result
fault_view faults.BadEvent = bad_event

-- the fault of a Region that can't be read or written
abbrev pub region_fault : RegionBad → Fault
region_fault (regions.TooLong length limit) = too_long length limit
region_fault regions.Pointer = region_bad regions.Pointer
region_fault regions.Offset = region_bad regions.Offset
region_fault regions.Length = region_bad regions.Length
region_fault regions.Range = region_bad regions.Range
region_fault regions.End = region_bad regions.End

-- ---- texts: the fault's name, and then what belongs to it

abbrev pub trap_name : TrapKind → List ℕ
trap_name traps.Unreachable = codes "Unreachable"
trap_name traps.DivideByZero = codes "DivideByZero"
trap_name traps.IntegerOverflow = codes "IntegerOverflow"
trap_name traps.OutOfBounds = codes "OutOfBounds"
trap_name traps.TableBounds = codes "TableBounds"
trap_name traps.TableEmpty = codes "TableEmpty"
trap_name traps.TableType = codes "TableType"
trap_name traps.StackOverflow = codes "StackOverflow"

abbrev pub region_name : RegionBad → List ℕ
region_name regions.Pointer = codes "Pointer"
region_name regions.Offset = codes "Offset"
region_name regions.Length = codes "Length"
region_name regions.Range = codes "Range"
region_name regions.End = codes "End"
region_name (regions.TooLong length limit) = codes "TooLong"

abbrev pub fault_text : Fault → List ℕ
fault_text (trap kind) = codes "Trap " ++ trap_name kind
fault_text (aborted text) = codes "Aborted " ++ text
fault_text (region_bad bad) = codes "RegionBad " ++ region_name bad
fault_text (too_long length limit) = codes "TooLong " ++ decimal length ++ codes " " ++ decimal limit
fault_text write_in_query = codes "WriteInQuery"
fault_text empty_value = codes "EmptyValue"
fault_text bad_order = codes "BadOrder"
fault_text no_such_scan = codes "NoSuchScan"
fault_text too_many_scans = codes "TooManyScans"
fault_text import_in_allocate = codes "ImportInAllocate"
fault_text signature_out_of_scope = codes "SignatureOutOfScope"
fault_text (no_entry name) = codes "NoEntry " ++ name
fault_text bad_result = codes "BadResult"
fault_text bad_event = codes "BadEvent"
