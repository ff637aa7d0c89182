use Rattle.std.proofs.Common.{ℕ, List, [], ◌∷◌, refl, ap, ◌∙◌, map}
use Rattle.coin_amounts.specs.Coins.{coins_view}
use Rattle.chain_records.specs.State.{State}
use Rattle.bank_ledger.specs.Accounts.{burned}
use Rattle.bank_ledger.specs.Effects.{IsBurned}
use Rattle.chain_msgs.specs.Plain.{event_view}
use Rattle.submsg_dispatch.specs.Events.{burn}
use Rattle.submsg_dispatch.specs.Messages.{only_events}
use Rattle.submsg_dispatch.specs.Views.{outcome_view}
use Rattle.submsg_dispatch.proofs.Banking.{enough_leads, short_leads, burned_steps}
use Rattle.submsg_dispatch.proofs.bank.burn_paid.Goals as goal

pub returns-in_ok-one-in-Ok-clause-leads : goal.returns-in_ok-one-in-Ok-clause-leads
returns-in_ok-one-in-Ok-clause-leads g c = λ tally left.
    let from = c.args.from.now in
    let coins = coins_view c.args.coins.now in
    enough_leads {view = outcome_view} tally c.only_events.result from coins (λ (s : State). burned s from coins) (λ (p : List ℕ). only_events (burn p from coins ∷ [])) (λ (s t : State). IsBurned s from coins t) (burned_steps from coins) (λ (s : State). refl)
    (c.only_events.ensures ∙ ap only_events (ap (map event_view) c.in_ok-one-in-Ok.ensures ∙ ap (λ e. e ∷ []) c.in_ok-event-in-Ok.ensures)) c.in-Ok.ensures.burned

pub returns-in-Err-clause-leads : goal.returns-in-Err-clause-leads
returns-in-Err-clause-leads g c = λ tally left.
    let from = c.args.from.now in
    let coins = coins_view c.args.coins.now in
    short_leads {view = outcome_view} tally c.in-Err.stop c.bank_stop.result from coins (λ (s : State). burned s from coins) (λ (p : List ℕ). only_events (burn p from coins ∷ [])) c.in-Err.ensures.stop c.in-Err.ensures.unchanged c.bank_stop.ensures
