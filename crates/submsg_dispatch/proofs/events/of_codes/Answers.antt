use Rattle.std.proofs.Common.{◌≡◌, ◌++◌, ◌∷◌, [], refl, sym, ap, ◌∙◌, ◌+◌, map, take, get_or}
use Rattle.std.proofs.lemmas.List.{take_more, take_all, map-append}
use Rattle.chain_msgs.specs.Plain.{event_view}
use Rattle.submsg_dispatch.specs.Events.{of_code}
use Rattle.submsg_dispatch.proofs.events.of_codes.Goals as goal

pub loop-id-preserved : goal.loop-id-preserved
loop-id-preserved c =
    let ids = c.args.ids.now in
    let at = c.loop-id.id-index in
    let kind = c.args.kind.now in
    let more = ap (map event_view) c.in_ok-push.ensures.items ∙ map-append event_view c.loop-id.events.items (c.in_ok-of_code.field-0 ∷ []) in
    let both : map event_view c.loop-id.events.items ++ event_view c.in_ok-of_code.field-0 ∷ [] ≡ map (of_code kind) (take at ids) ++ of_code kind (get_or ids at 0) ∷ [] = λ i. c.loop-id.invariant i ++ c.in_ok-of_code.ensures i ∷ [] in
    more ∙ both ∙ sym (map-append (of_code kind) (take at ids) (get_or ids at 0 ∷ [])) ∙ ap (map (of_code kind)) (sym (take_more ids at 0 c.loop-id-test.true))

pub returns : goal.returns
returns c =
    let ids = c.args.ids.now in
    c.loop-id.invariant ∙ ap (map (of_code c.args.kind.now)) (take_all c.loop-id.id-index ids c.loop-id-test.false)
