use Rattle.std.proofs.Common.{Some, None, sym, ap, ◌∙◌}
use Rattle.kv_layers.specs.Plain.{value_view}
use Rattle.query_router.proofs.Values.{value_found}
use Rattle.query_router.proofs.contracts.value_at.Goals as goal

pub returns-in-Some : goal.returns-in-Some
returns-in-Some g c = λ map s stands spelled.
    value_found c.maps_give_records.ensures map s c.args.addr.items c.args.key.items c.in_ok-place.place.items (Some c.in-Some.value.items) c.in_ok-place.ensures spelled
    (sym (ap value_view c.in-Some.is) ∙ rw c.deref.ensures.value at (c.in_ok-value.ensures map stands))

pub returns : goal.returns
returns g c = λ map s stands spelled.
    c.new.ensures.items ∙ value_found c.maps_give_records.ensures map s c.args.addr.items c.args.key.items c.in_ok-place.place.items None c.in_ok-place.ensures spelled
    (sym (ap value_view c.in-None.is) ∙ rw c.deref.ensures.value at (c.in_ok-value.ensures map stands))
