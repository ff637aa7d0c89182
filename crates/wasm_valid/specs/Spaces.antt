-- The index spaces as the code keeps them, and what its calls say of items.
use Rattle.std.specs.Prelude.{◌≡◌, ◌≤◌, map, length, Option, Some, None, Result, Ok, Err, ⊤}
use Rattle.wasm_types.specs.Plain.{PlainModule}
use Rattle.wasm_types.specs.Validity.{Fault, table_in, memory_in, global_in, imported, funcs_of, tables_of, memories_of, globals_of}
use Rattle.wasm_valid.specs.declared.spaces.Spaces.{Spaces}
use Rattle.wasm_valid.specs.declared.stop.ValidStop.{ValidStop}
use Rattle.wasm_valid.specs.declared.stop.ValidStop.TheVariants as stops
use Rattle.wasm_valid.specs.Contexts.{plain_global}

pub record AreSpaces (s : Spaces) (m : PlainModule) : Type 0 where
  pub funcs : s.funcs.items ≡ funcs_of m
  pub tables : s.tables ≡ length (tables_of m)
  pub memories : s.memories ≡ length (memories_of m)
  pub globals : map plain_global s.globals.items ≡ globals_of m
  pub imported_tables : s.imported_tables ≡ length (imported table_in m.imports)
  pub imported_memories : s.imported_memories ≡ length (imported memory_in m.imports)
  pub imported_globals : s.imported_globals ≡ length (imported global_in m.imports)
  pub few_tables : s.imported_tables ≤ length m.imports
  pub few_memories : s.imported_memories ≤ length m.imports

-- what a call that looks for the first fault says of it
abbrev pub Faults : Result (Unit {0}) ValidStop → Option Fault → Type 0
Faults (Ok done) fault = fault ≡ None
Faults (Err (stops.Invalid func instr kind)) fault = fault ≡ Some (record { func = func; instr = instr; kind = kind })
Faults (Err stops.NoMemory) fault = ⊤
