-- What readers answer: what a form reads, or want of memory.
use Rattle.std.specs.Prelude.{◌≡◌, ℕ, List, None, Some, Result, Ok, Err, ⊤, string_bytes, true}
use Rattle.serde_json.specs.Data.{Data}
use Rattle.serde_json.specs.Written.{has_float}
use Rattle.serde_json.specs.View.{view}
use Rattle.serde_json.specs.declared.value.Value.{Value}
use Rattle.json_shapes.specs.Json.{json_of, IsWhole}
use Rattle.json_shapes.specs.Shapes.{Fault, Step, Reading, path_text, step_text, dotted}
use Rattle.json_shapes.specs.declared.stop.JsonStop.{JsonStop}
use Rattle.json_shapes.specs.declared.stop.JsonStop.TheVariants.{NoReading, NotWhole, NoMemory as JsonNoMemory}
use Rattle.json_shapes.specs.declared.stop.ShapeStop.{ShapeStop}
use Rattle.json_shapes.specs.declared.stop.ShapeStop.TheVariants.{Shape, NoMemory}

-- the stop names the fault
abbrev pub Names : ShapeStop → Fault → Type 0
Names (Shape path want) fault = (string_bytes path ≡ path_text fault.path) × (want ≡ fault.want)
Names NoMemory fault = ⊤

-- the reading has the fault that the stop names
abbrev pub IsStopOf : {A : Type 0} → ShapeStop → Reading A → Type 0
IsStopOf (Shape path want) r = (fault : Fault) × (r ≡ Err fault) × Names (Shape path want) fault
IsStopOf NoMemory r = ⊤

-- what a reader answers, where the view is what a value stands for
abbrev pub Reads : {X A : Type 0} → (X → A) → Result X ShapeStop → Reading A → Type 0
Reads view (Ok x) r = r ≡ Ok (view x)
Reads view (Err stop) r = IsStopOf stop r

-- the path has the step in front, and the want is as it was
abbrev pub IsBehind : Step → ShapeStop → ShapeStop → Type 0
IsBehind step (Shape path want) (Shape longer same) = (string_bytes longer ≡ dotted (step_text step) (string_bytes path)) × (same ≡ want)
IsBehind step (Shape path want) NoMemory = ⊤
IsBehind step NoMemory stop = stop ≡ NoMemory

-- the value as it was, or the stop with the step in front of its path
abbrev pub IsWithin : {X : Type 0} → Step → Result X ShapeStop → Result X ShapeStop → Type 0
IsWithin step (Ok x) result = result ≡ Ok x
IsWithin step (Err stop) (Ok x) = ⊥
IsWithin step (Err stop) (Err longer) = IsBehind step stop longer

-- what is read of a text: its value, which is whole; that it reads as nothing; or that some number isn't whole
abbrev pub ReadsJson : Result Value JsonStop → List ℕ → Type 0
ReadsJson (Ok value) text = (json_of text ≡ Some (view value)) × IsWhole (view value)
ReadsJson (Err NoReading) text = json_of text ≡ None
ReadsJson (Err NotWhole) text = (d : Data) × (json_of text ≡ Some d) × (has_float d ≡ true)
ReadsJson (Err JsonNoMemory) text = ⊤
