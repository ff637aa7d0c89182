use Rattle.std.proofs.Common.{◌∙◌}
use Rattle.chain_records.specs.Keys.{plain_key}
use Rattle.kv_layers.specs.Plain.{value_view}
use Rattle.state_records.proofs.Found.{found_some, some_view}
use Rattle.state_records.proofs.reading.is_there.Goals as goal

pub returns : goal.returns
returns g c = λ map s stands spelled.
    c.is_some.ensures ∙ some_view c.in_ok-found.found
    ∙ found_some c.maps_give_records.ensures map s (plain_key c.args.key.now) c.in_ok-place.place.items (value_view c.in_ok-found.found) c.in_ok-place.ensures spelled (rw c.deref.ensures.value at (c.in_ok-found.ensures map stands))
