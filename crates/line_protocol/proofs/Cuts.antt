-- What is read of a value from which a field was taken.
use Rattle.std.proofs.Common.{◌≡◌, ◌≢◌, ℕ, List, [], ◌∷◌, Option, None, Some, Result, Ok, Err, map, codes, refl, ap, ◌∙◌, Vec, Global}
use Rattle.serde_json.specs.Data.{Data, Items}
use Rattle.serde_json.specs.Find.{get, as_array}
use Rattle.serde_json.specs.View.{view, items_view}
use Rattle.serde_json.specs.declared.value.Value.{Value}
use Rattle.json_shapes.specs.Answers.{Reads, IsStopOf}
use Rattle.json_shapes.specs.Shapes.{Form, Reading, ◌>>=◌, mapped, within, field_step, found, items, each, list, field}
use Rattle.json_shapes.specs.declared.stop.ShapeStop.{ShapeStop}
use Rattle.json_shapes.specs.declared.stop.ShapeStop.TheVariants.{Shape, NoMemory}
use Rattle.json_shapes.specs.declared.stop.Want.TheVariants.{List as ListWant}
use Rattle.line_protocol.specs.Parts.{values_of, payer_of}

pub values_view : (items : List Value) → values_of (items_view items) ≡ map view items
values_view [] = refl
values_view (v ∷ vs) = ap (λ l. view v ∷ l) (values_view vs)

abbrev pub Cut : Type 0
Cut = Vec Value Global × Value

-- a list that was read, as its values
pub reads_values : (r : Result Cut ShapeStop) (o : Reading Items) → Reads (λ cut. items_view cut.0.items) r o → Reads (λ cut. map view cut.0.items) r (mapped values_of o)
reads_values (Ok cut) o read = ap (mapped values_of) read ∙ ap Ok (values_view cut.0.items)
reads_values (Err NoMemory) o read = tt
reads_values (Err (Shape path want)) o read = (read.0, ap (mapped values_of) read.1, read.2)

pub payer_same : (d rest : Data) → get (codes "sender") rest ≡ get (codes "sender") d → get (codes "gas") rest ≡ get (codes "gas") d → payer_of rest ≡ payer_of d
unfolding payer_of
payer_same d rest sender gas = rw (sender, gas) refl

pub sender_is_not_msgs : codes "sender" ≢ codes "msgs"
sender_is_not_msgs e = cc

pub gas_is_not_msgs : codes "gas" ≢ codes "msgs"
gas_is_not_msgs e = cc

-- ---- a list that was taken out, and then read item by item

-- what the items of a list say that stands in the field of this name
abbrev in_list : {A : Type 0} → List ℕ → Form A → Items → Reading (List A)
in_list name form ds = within (field_step name) (each form 0 ds)

items_then : {A : Type 0} (name : List ℕ) (form : Form A) (o : Option Items)
    → within (field_step name) (found ListWant o >>= each form 0) ≡ (within (field_step name) (found ListWant o) >>= in_list name form)
items_then name form None = refl
items_then name form (Some ds) = refl

value_then : {A : Type 0} (name : List ℕ) (form : Form A) (o : Option Data)
    → within (field_step name) (found ListWant o >>= λ d. found ListWant (as_array d) >>= each form 0) ≡ (within (field_step name) (found ListWant o >>= λ d. found ListWant (as_array d)) >>= in_list name form)
value_then name form None = refl
value_then name form (Some d) = items_then name form (as_array d)

list_then : {A : Type 0} (name : List ℕ) (form : Form A) (d : Data) → field name (list form) d ≡ (field name items d >>= in_list name form)
list_then name form d = value_then name form (get name d)

-- where there is no list, nothing is read of it
pub no_list : {A : Type 0} (name : List ℕ) (form : Form A) (d : Data) (stop : ShapeStop) → IsStopOf stop (field name items d) → IsStopOf stop (field name (list form) d)
no_list name form d NoMemory none = tt
no_list name form d (Shape path want) none = (none.0, list_then name form d ∙ ap (λ r. r >>= in_list name form) none.1, none.2)
