-- Forms of JSON values. Reading a value by a form gives what it says, or the first fault: the path of the first part
-- that is missing or isn't what belongs there, and what belongs there. Unknown fields are ignored, of a repeated field
-- the last one counts, and what is no object has no fields.
use Rattle.std.specs.Prelude.{ℕ, ◌+◌, List, [], ◌∷◌, ◌++◌, decimal, Option, Some, None, option_and_then, ok_or, unwrap_or, Result, Ok, Err}
use Rattle.base64.specs.Engines.{standard}
use Rattle.base64.specs.GeneralPurpose.{decoded_of}
use Rattle.serde_json.specs.Data.{Data, null, Items, no_items, item}
use Rattle.serde_json.specs.Find.{get, as_str, as_number, as_u64, as_array}
use Rattle.json_shapes.specs.Json.{variant_of}
use Rattle.json_shapes.specs.declared.stop.Want.{Want}
use Rattle.json_shapes.specs.declared.stop.Want.TheVariants.{Text, Number, List as ListWant, Binary, Variant}

-- a step of a path: to the field of a name, or to a place in a list, from 0
pub data Step : Type 0 where
  field_step : List ℕ → Step
  place_step : ℕ → Step

-- what belongs at the end of the path, and isn't there
pub record Fault : Type 0 where
  pub path : List Step
  pub want : Want

abbrev pub Reading : Type 0 → Type 0
Reading A = Result A Fault

abbrev pub and_then : {A B : Type 0} → Reading A → (A → Reading B) → Reading B
and_then (Ok x) f = f x
and_then (Err fault) f = Err fault

infixl 10 ◌>>=◌
abbrev pub ◌>>=◌ : {A B : Type 0} → Reading A → (A → Reading B) → Reading B
r >>= f = and_then r f

abbrev pub mapped : {A B : Type 0} → (A → B) → Reading A → Reading B
mapped f (Ok x) = Ok (f x)
mapped f (Err fault) = Err fault

-- the path of a fault gets the step in front
abbrev pub behind : Step → Fault → Fault
behind step fault = record { path = step ∷ fault.path; want = fault.want }

abbrev pub within : {A : Type 0} → Step → Reading A → Reading A
within step (Ok x) = Ok x
within step (Err fault) = Err (behind step fault)

-- what was found, or that this was wanted
abbrev pub found : {A : Type 0} → Want → Option A → Reading A
found want o = ok_or o (record { path = []; want = want })

-- ---- forms

-- what belongs where nothing stands, and what a value says
pub record Form (A : Type 0) : Type 0 where
  pub want : Want
  pub read : Data → Reading A

abbrev pub text : Form (List ℕ)
text = record { want = Text; read = λ d. found Text (as_str d) }

-- an integer from 0 to 2^64 - 1
abbrev pub number : Form ℕ
number = record { want = Number; read = λ d. found Number (option_and_then as_u64 (as_number d)) }

-- the bytes that a text has in standard base64 with its padding
abbrev pub binary : Form (List ℕ)
binary = record { want = Binary; read = λ d. found Binary (option_and_then (decoded_of standard) (as_str d)) }

-- a list, whatever its items are: they are taken as they are
abbrev pub items : Form Items
items = record { want = ListWant; read = λ d. found ListWant (as_array d) }

-- the items of a list, the first of which has this place
abbrev pub each : {A : Type 0} → Form A → ℕ → Items → Reading (List A)
each form place no_items = Ok []
each form place (item d ds) = within (place_step place) (form.read d) >>= λ x. mapped (λ xs. x ∷ xs) (each form (place + 1) ds)

-- a list, each item of which has the form
abbrev pub list : {A : Type 0} → Form A → Form (List A)
list form = record { want = ListWant; read = λ d. found ListWant (as_array d) >>= each form 0 }

abbrev pub none_or : {A : Type 0} → Reading A → Data → Reading (Option A)
none_or r null = Ok None
none_or r d = mapped Some r

-- of the form, or null
abbrev pub nullable : {A : Type 0} → Form A → Form (Option A)
nullable form = record { want = form.want; read = λ d. none_or (form.read d) d }

-- ---- fields

-- a field that has to be there
abbrev pub field : {A : Type 0} → List ℕ → Form A → Data → Reading A
field name form d = within (field_step name) (found form.want (get name d) >>= form.read)

abbrev pub read_optional : {A : Type 0} → Form A → Option Data → Reading (Option A)
read_optional form None = Ok None
read_optional form (Some d) = none_or (form.read d) d

-- a field that may be missing, or null
abbrev pub optional : {A : Type 0} → List ℕ → Form A → Data → Reading (Option A)
optional name form d = within (field_step name) (read_optional form (get name d))

-- a list in a field, which is empty where the field is missing, or null
abbrev pub or_empty : {A : Type 0} → List ℕ → Form A → Data → Reading (List A)
or_empty name form d = mapped (λ xs. unwrap_or xs []) (optional name (list form) d)

-- the name and the value of an object's one field
abbrev pub variant : Data → Reading (List ℕ × Data)
variant d = found Variant (variant_of d)

-- ---- paths

abbrev pub step_text : Step → List ℕ
step_text (field_step name) = name
step_text (place_step place) = decimal place

-- a dot stands between, where something follows: an empty name at the end of a path leaves none
abbrev pub dotted : List ℕ → List ℕ → List ℕ
dotted front [] = front
dotted front (b ∷ rest) = front ++ 46 ∷ b ∷ rest

-- names and decimal places, joined by dots
abbrev pub path_text : List Step → List ℕ
path_text [] = []
path_text (step ∷ path) = dotted (step_text step) (path_text path)
