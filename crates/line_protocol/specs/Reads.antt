-- What reading a line answers: what it says, the way in which it is bad, or want of memory.
use Rattle.std.specs.Prelude.{◌≡◌, Result, Ok, Err, ⊤, true, string_bytes}
use Rattle.json_shapes.specs.declared.stop.JsonStop.{JsonStop}
use Rattle.json_shapes.specs.declared.stop.JsonStop.TheVariants as json_stops
use Rattle.json_shapes.specs.declared.stop.ShapeStop.{ShapeStop}
use Rattle.json_shapes.specs.declared.stop.ShapeStop.TheVariants as shape_stops
use Rattle.line_protocol.specs.declared.kind.BadKind.{BadKind}
use Rattle.line_protocol.specs.declared.kind.BadKind.TheVariants.{Json, Number, Shape}
use Rattle.line_protocol.specs.declared.line.Line as line_type
use Rattle.line_protocol.specs.declared.line.Line.TheVariants as lines
use Rattle.line_protocol.specs.declared.line.ParseStop.{ParseStop}
use Rattle.line_protocol.specs.declared.line.ParseStop.TheVariants.{Bad, NoMemory}
use Rattle.line_protocol.specs.Parts.{is_prefix}

abbrev pub IsStopOf : {A : Type 0} → ParseStop → Result A BadKind → Type 0
IsStopOf NoMemory said = ⊤
IsStopOf (Bad kind) said = said ≡ Err kind

abbrev pub Reads : {X A : Type 0} → (X → A) → Result X ParseStop → Result A BadKind → Type 0
Reads view (Ok x) said = said ≡ Ok (view x)
Reads view (Err stop) said = IsStopOf stop said

-- the prefix of a genesis can begin addresses
abbrev pub HasPrefix : line_type.Line → Type 0
HasPrefix (lines.Genesis g) = is_prefix (string_bytes g.prefix) ≡ true
HasPrefix lines.Empty = ⊤
HasPrefix (lines.Block b) = ⊤
HasPrefix (lines.Query q) = ⊤

-- ---- what a text or a value that was not read is to a line

abbrev pub json_stop : JsonStop → ParseStop
json_stop json_stops.NoReading = Bad Json
json_stop json_stops.NotWhole = Bad Number
json_stop json_stops.NoMemory = NoMemory

abbrev pub shape_stop : ShapeStop → ParseStop
shape_stop (shape_stops.Shape path want) = Bad Shape
shape_stop shape_stops.NoMemory = NoMemory
