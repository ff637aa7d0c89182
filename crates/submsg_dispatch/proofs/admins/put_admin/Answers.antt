use Rattle.std.proofs.Common.{[], ap, ◌∙◌, map}
use Rattle.std.specs.Option.{option_copied}
use Rattle.chain_msgs.specs.Plain.{event_view}
use Rattle.submsg_dispatch.specs.Messages.{only_events}
use Rattle.submsg_dispatch.specs.Views.{outcome_view}
use Rattle.submsg_dispatch.proofs.Changing.{admin_leads, admin_refused}
use Rattle.submsg_dispatch.proofs.admins.put_admin.Goals as goal

pub returns-in-Ok-clause-leads : goal.returns-in-Ok-clause-leads
returns-in-Ok-clause-leads g c = λ tally left.
    admin_leads {view = outcome_view} tally c.only_events.result c.args.sender.now c.args.addr.now (option_copied c.args.admin)
    (c.only_events.ensures ∙ ap (λ es. only_events (map event_view es)) c.new.ensures.items) c.in-Ok.ensures.changed

pub returns-in-Err-clause-leads : goal.returns-in-Err-clause-leads
returns-in-Err-clause-leads g c = λ tally left.
    admin_refused {view = outcome_view} tally c.in-Err.stop c.contract_stop.result c.args.sender.now c.args.addr.now (option_copied c.args.admin) c.in-Err.ensures.stop c.in-Err.ensures.unchanged c.contract_stop.ensures
