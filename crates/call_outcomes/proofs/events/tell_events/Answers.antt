use Rattle.std.proofs.Common.{◌≡◌, ◌++◌, [], List, ap, ◌∙◌, append_assoc, map, arith}
use Rattle.std.specs.Vec.Iter.{into_iter_items}
use Rattle.chain_msgs.specs.declared.event.Event as event_type
use Rattle.chain_msgs.specs.Plain.{Event, attribute_view, event_view}
use Rattle.call_outcomes.specs.Events.{custom_event, wasm_events}
use Rattle.call_outcomes.proofs.Telling.{with_rest, one_told, all_told, none_left}
use Rattle.call_outcomes.proofs.events.tell_events.Goals as goal

pub loop-event-init : goal.loop-event-init
loop-event-init c =
    let contract = c.args.contract.now in
    let told : List event_type.Event = c.tell_attributes.new.told.items in
    let mine = map event_view c.args.told.now.items in
    let first = wasm_events contract (map attribute_view c.args.attributes.items) in
    let rest = map (custom_event contract) (map event_view c.args.events.items) in
    ap (λ (xs : List event_type.Event). with_rest contract told xs) c.into_iter-event-iterator.ensures.into_iter_gives.0
    ∙ ap (λ (xs : List Event). xs ++ rest) c.in_ok-tell_attributes.ensures
    ∙ append_assoc mine first rest

pub loop-event-preserved : goal.loop-event-preserved
loop-event-preserved c =
    one_told c.args.contract.now c.loop-event.told.items c.push.new.self.items (into_iter_items c.loop-event.event-iterator) (into_iter_items c.next.new.self) c.in_ok-custom_event.field-0 c.in-Some.event
    c.in_ok-push.ensures.items c.in-Some.ensures.steps.0 c.in_ok-custom_event.ensures
    ∙ c.loop-event.invariant

pub returns : goal.returns
returns c =
    let rest = into_iter_items c.loop-event.event-iterator in
    let none : rest ≡ [] = none_left rest (omega (arith, c.in-None.ensures.steps.0, c.loop-event.event-iterator.rest.ok.0)) in
    all_told c.args.contract.now c.loop-event.told.items rest none ∙ c.loop-event.invariant
