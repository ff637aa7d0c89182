use Rattle.std.proofs.Common.{ap, ◌∙◌, map, codes}
use Rattle.chain_records.specs.State.{State}
use Rattle.code_registry.specs.Codes.{unpin_refusal, unpinned}
use Rattle.submsg_dispatch.specs.Events.{of_code}
use Rattle.submsg_dispatch.specs.Messages.{only_events, unpin_codes}
use Rattle.submsg_dispatch.specs.Views.{outcome_view}
use Rattle.submsg_dispatch.proofs.Changing.{unpins_lead, pins_refused}
use Rattle.submsg_dispatch.proofs.codes.unpin_codes.Goals as goal

pub returns-in_ok-of_codes-in-Ok-clause-leads : goal.returns-in_ok-of_codes-in-Ok-clause-leads
unfolding unpin_codes
returns-in_ok-of_codes-in-Ok-clause-leads g c = λ prefix tally left.
    let ids = c.args.ids.now in
    unpins_lead {view = outcome_view} tally c.only_events.result (only_events (map (of_code (codes "unpin_code")) ids)) c.args.sender.now ids
    (c.only_events.ensures ∙ ap only_events c.in_ok-of_codes-in-Ok.ensures) c.in-Ok.ensures.unpinned

pub returns-in-Err-clause-leads : goal.returns-in-Err-clause-leads
unfolding unpin_codes
returns-in-Err-clause-leads g c = λ prefix tally left.
    let sender = c.args.sender.now in
    let ids = c.args.ids.now in
    pins_refused {view = outcome_view} tally c.in-Err.stop c.code_stop.result (λ (s : State). unpin_refusal s sender ids) (λ (s : State). unpinned s ids) (only_events (map (of_code (codes "unpin_code")) ids))
    c.in-Err.ensures.stop c.in-Err.ensures.unchanged c.code_stop.ensures
