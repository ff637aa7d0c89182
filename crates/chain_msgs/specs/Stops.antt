-- Not for readers of contracts: it serves the proofs of this crate alone.
-- The stops of JSON and of forms, as stops of a contract's answer.
use Rattle.json_shapes.specs.declared.stop.JsonStop.{JsonStop}
use Rattle.json_shapes.specs.declared.stop.JsonStop.TheVariants as json_stops
use Rattle.json_shapes.specs.declared.stop.ShapeStop.{ShapeStop}
use Rattle.json_shapes.specs.declared.stop.ShapeStop.TheVariants as shape_stops
use Rattle.chain_msgs.specs.declared.response.ResponseStop.{ResponseStop}
use Rattle.chain_msgs.specs.declared.response.ResponseStop.TheVariants.{Json, Shape, NoMemory}

abbrev pub json_stop : JsonStop → ResponseStop
json_stop json_stops.NoReading = Json
json_stop json_stops.NotWhole = Json
json_stop json_stops.NoMemory = NoMemory

abbrev pub shape_stop : ShapeStop → ResponseStop
shape_stop (shape_stops.Shape path want) = Shape path want
shape_stop shape_stops.NoMemory = NoMemory
