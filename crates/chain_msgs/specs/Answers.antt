-- What the bytes of a contract's answer say, a `ContractResult` of CosmWasm 1.x in JSON: a value, or the first of these that
-- holds: they are no JSON with whole numbers, they haven't the form, or an event has a name that contracts may not choose.
use Rattle.std.specs.Prelude.{◌≡◌, ℕ, ◌+◌, ◌==◌, ◌||◌, List, [], ◌∷◌, length, Bool, true, nat_lt, Option, Some, None, option_and_then, Result, Ok, Err, ⊤, if◌then◌else◌}
use Rattle.std.specs.List.{list_any}
use Rattle.serde_json.specs.Data.{Data}
use Rattle.json_shapes.specs.Answers.{Names}
use Rattle.json_shapes.specs.Json.{json_of, whole_numbered}
use Rattle.json_shapes.specs.Shapes.{Form, Fault, Reading, binary}
use Rattle.json_shapes.specs.declared.stop.ShapeStop.TheVariants.{Shape}
use Rattle.chain_msgs.specs.Plain.{Attribute, Event}
use Rattle.chain_msgs.specs.Messages.{Response, Told, told, error}
use Rattle.chain_msgs.specs.Forms.{told_of, response}
use Rattle.chain_msgs.specs.declared.response.ResponseStop.{ResponseStop}
use Rattle.chain_msgs.specs.declared.response.ResponseStop.TheVariants as stops

pub data Outcome (A : Type 0) : Type 0 where
  says : A → Outcome A
  no_json : Outcome A
  no_form : Fault → Outcome A
  -- the number of the event, from 1; 0 for the response itself
  bad_event : ℕ → Outcome A

-- ---- the form

abbrev pub read_outcome : {A : Type 0} → Reading A → Outcome A
read_outcome (Ok x) = says x
read_outcome (Err fault) = no_form fault

abbrev pub json_outcome : {A : Type 0} → (Data → Reading A) → Option Data → Outcome A
json_outcome read None = no_json
json_outcome read (Some d) = read_outcome (read d)

-- what the bytes say as what a contract tells, the value in this form
abbrev pub told_in : {A : Type 0} → Form A → List ℕ → Outcome (Told A)
told_in form text = json_outcome (told_of form) (option_and_then whole_numbered (json_of text))

-- ---- names that contracts may not choose

-- a key that is empty or begins with 95, which is `_`
abbrev pub is_reserved : List ℕ → Bool
is_reserved [] = true
is_reserved (b ∷ key) = b == 95

abbrev pub has_reserved : List Attribute → Bool
has_reserved attributes = list_any (λ a. is_reserved a.key) attributes

-- its type has fewer than 2 bytes, or a key of it is reserved
abbrev pub is_bad_event : Event → Bool
is_bad_event e = nat_lt (length e.kind) 2 || has_reserved e.attributes

-- the number of the first bad one, where the first event has this number
abbrev pub first_bad : ℕ → List Event → Option ℕ
first_bad n [] = None
first_bad n (e ∷ es) = if is_bad_event e then Some n else first_bad (n + 1) es

-- 0 for the response's own attributes, which come first; else the number of the first bad event, from 1
abbrev pub bad_in_response : Response → Option ℕ
bad_in_response r = if has_reserved r.attributes then Some 0 else first_bad 1 r.events

abbrev pub bad_in : Told Response → Option ℕ
bad_in (told r) = bad_in_response r
bad_in (error text) = None

abbrev pub unless_bad : Option ℕ → Told Response → Outcome (Told Response)
unless_bad None x = says x
unless_bad (Some n) x = bad_event n

abbrev pub judged : Outcome (Told Response) → Outcome (Told Response)
judged (says x) = unless_bad (bad_in x) x
judged no_json = no_json
judged (no_form fault) = no_form fault
judged (bad_event n) = bad_event n

-- ---- the answers

-- to a call
unfoldable pub response_in : List ℕ → Outcome (Told Response)
response_in text = judged (told_in response text)

-- to a query
unfoldable pub query_result_in : List ℕ → Outcome (Told (List ℕ))
query_result_in text = told_in binary text

-- ---- what readers answer

-- this stop belongs to the outcome; want of memory says nothing
abbrev pub IsStopAt : {A : Type 0} → ResponseStop → Outcome A → Type 0
IsStopAt stops.Json outcome = outcome ≡ no_json
IsStopAt (stops.Shape path want) outcome = (fault : Fault) × (outcome ≡ no_form fault) × Names (Shape path want) fault
IsStopAt (stops.Event n) outcome = outcome ≡ bad_event n
IsStopAt stops.NoMemory outcome = ⊤

-- what a reader answers, where the view is what a value stands for
abbrev pub ReadsOutcome : {X A : Type 0} → (X → A) → Result X ResponseStop → Outcome A → Type 0
ReadsOutcome view (Ok x) outcome = outcome ≡ says (view x)
ReadsOutcome view (Err stop) outcome = IsStopAt stop outcome
