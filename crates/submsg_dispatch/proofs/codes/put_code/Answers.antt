use Rattle.std.proofs.Common.{◌∷◌, [], ap, ◌∙◌, map, option_map}
use Rattle.chain_records.specs.Records.{list_view}
use Rattle.chain_msgs.specs.Plain.{event_view}
use Rattle.submsg_dispatch.specs.Messages.{only_events}
use Rattle.submsg_dispatch.specs.Views.{outcome_view}
use Rattle.submsg_dispatch.proofs.Changing.{stores_lead, store_refused}
use Rattle.submsg_dispatch.proofs.codes.put_code.Goals as goal

pub returns-in_ok-one-in-Ok-clause-leads : goal.returns-in_ok-one-in-Ok-clause-leads
returns-in_ok-one-in-Ok-clause-leads g c = λ prefix tally left.
    let code = c.args.code.items in
    let checksum = rw c.deref.ensures.value at c.in_ok-checksum.ensures in
    stores_lead {view = outcome_view} tally c.only_events.result c.args.sender.now code (option_map list_view c.args.allowed) c.in-Ok.id c.contracts_stay_lawful.ensures.stored
    (c.only_events.ensures ∙ ap only_events (ap (map event_view) c.in_ok-one-in-Ok.ensures ∙ ap (λ e. e ∷ []) (c.in_ok-event-in-Ok.ensures code checksum))) c.in-Ok.ensures.stored

pub returns-in-Err-clause-leads : goal.returns-in-Err-clause-leads
returns-in-Err-clause-leads g c = λ prefix tally left.
    store_refused {view = outcome_view} tally c.in-Err.stop c.code_stop.result c.args.sender.now c.args.code.items (option_map list_view c.args.allowed) c.in-Err.ensures.stop c.in-Err.ensures.unchanged c.code_stop.ensures
