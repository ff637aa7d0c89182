use Rattle.std.proofs.Common.{ap, ◌∙◌, map, codes}
use Rattle.chain_records.specs.State.{State}
use Rattle.code_registry.specs.Codes.{pin_refusal, pinned}
use Rattle.submsg_dispatch.specs.Events.{of_code}
use Rattle.submsg_dispatch.specs.Messages.{only_events, pin_codes}
use Rattle.submsg_dispatch.specs.Views.{outcome_view}
use Rattle.submsg_dispatch.proofs.Changing.{pins_lead, pins_refused}
use Rattle.submsg_dispatch.proofs.codes.pin_codes.Goals as goal

pub returns-in_ok-of_codes-in-Ok-clause-leads : goal.returns-in_ok-of_codes-in-Ok-clause-leads
unfolding pin_codes
returns-in_ok-of_codes-in-Ok-clause-leads g c = λ prefix tally left.
    let ids = c.args.ids.now in
    pins_lead {view = outcome_view} tally c.only_events.result (only_events (map (of_code (codes "pin_code")) ids)) c.args.sender.now ids
    (c.only_events.ensures ∙ ap only_events c.in_ok-of_codes-in-Ok.ensures) c.in-Ok.ensures.pinned

pub returns-in-Err-clause-leads : goal.returns-in-Err-clause-leads
unfolding pin_codes
returns-in-Err-clause-leads g c = λ prefix tally left.
    let sender = c.args.sender.now in
    let ids = c.args.ids.now in
    pins_refused {view = outcome_view} tally c.in-Err.stop c.code_stop.result (λ (s : State). pin_refusal s sender ids) (λ (s : State). pinned s ids) (only_events (map (of_code (codes "pin_code")) ids))
    c.in-Err.ensures.stop c.in-Err.ensures.unchanged c.code_stop.ensures
