-- What the reader answers where bytes spell no module.
use Rattle.std.specs.Prelude.{◌≡◌, Option, Some}
use Rattle.wasm_types.specs.Place.{Broken}
use Rattle.wasm_reader.specs.declared.stop.ReadStop.{ReadStop}
use Rattle.wasm_reader.specs.declared.stop.ReadStop.TheVariants.{Fault, NoMemory}

-- a fault is where the bytes break first, with its kind; want of memory says nothing of them
abbrev pub IsFault : ReadStop → Option Broken → Type 0
IsFault (Fault at kind) broken = broken ≡ Some (record { at = at; kind = kind })
IsFault NoMemory broken = Unit {0}
