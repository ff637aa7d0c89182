-- What stops a reader of a contract's answer.
use Rattle.std.proofs.Common.{◌≡◌, ◌∙◌, false, ℕ, List, None, Some, Err, refl, ap}
use Rattle.serde_json.specs.Data.{Data}
use Rattle.serde_json.specs.Written.{has_float}
use Rattle.json_shapes.specs.Answers.{ReadsJson, IsStopOf}
use Rattle.json_shapes.specs.Json.{json_of}
use Rattle.json_shapes.specs.Shapes.{Form, Reading}
use Rattle.json_shapes.specs.declared.stop.JsonStop.{JsonStop}
use Rattle.json_shapes.specs.declared.stop.JsonStop.TheVariants as json_stops
use Rattle.json_shapes.specs.declared.stop.ShapeStop.{ShapeStop}
use Rattle.json_shapes.specs.declared.stop.ShapeStop.TheVariants as shape_stops
use Rattle.chain_msgs.specs.Messages.{Response, Told}
use Rattle.chain_msgs.specs.Forms.{told_of}
use Rattle.chain_msgs.specs.Answers.{Outcome, says, bad_event, read_outcome, told_in, bad_in, unless_bad, judged, IsStopAt}
use Rattle.chain_msgs.specs.Stops.{json_stop, shape_stop}
use Rattle.chain_msgs.specs.declared.response.ResponseStop.{ResponseStop}
use Rattle.chain_msgs.specs.declared.response.ResponseStop.TheVariants as stops

module _ {A : Type 0} (form : Form A) (text : List ℕ) where
  pub stopped_json : (stop : JsonStop) → ReadsJson (Err stop) text → IsStopAt (json_stop stop) (told_in form text)
  stopped_json json_stops.NoReading none = rw none refl
  stopped_json json_stops.NotWhole (d, is, float) = rw (is, float) refl
  stopped_json json_stops.NoMemory any = tt

  pub json_read : (d : Data) → json_of text ≡ Some d → has_float d ≡ false → told_in form text ≡ read_outcome (told_of form d)
  json_read d is whole = rw (is, whole) refl

pub stopped_shape : {A : Type 0} (r : Reading A) (stop : ShapeStop) → IsStopOf stop r → IsStopAt (shape_stop stop) (read_outcome r)
stopped_shape r (shape_stops.Shape path want) (fault, is, named) = (fault, ap read_outcome is, named)
stopped_shape r shape_stops.NoMemory any = tt

-- A stop comes before any name is looked at.
pub stop_judged : (stop : ResponseStop) (outcome : Outcome (Told Response)) → IsStopAt stop outcome → IsStopAt stop (judged outcome)
stop_judged stops.Json outcome is = ap judged is
stop_judged (stops.Shape path want) outcome (fault, is, named) = (fault, ap judged is, named)
stop_judged (stops.Event n) outcome is = ap judged is
stop_judged stops.NoMemory outcome any = tt

module _ (outcome : Outcome (Told Response)) (x : Told Response) (is : outcome ≡ says x) where
  pub all_good : bad_in x ≡ None → judged outcome ≡ says x
  all_good none = ap judged is ∙ ap (λ b. unless_bad b x) none

  pub one_bad : (n : ℕ) → bad_in x ≡ Some n → judged outcome ≡ bad_event n
  one_bad n some = ap judged is ∙ ap (λ b. unless_bad b x) some
