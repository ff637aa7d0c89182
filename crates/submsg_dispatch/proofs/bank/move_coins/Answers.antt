use Rattle.std.proofs.Common.{ℕ, List, [], ◌∷◌, refl, ap, ◌∙◌, map}
use Rattle.coin_amounts.specs.Coins.{coins_view}
use Rattle.chain_records.specs.State.{State}
use Rattle.bank_ledger.specs.Accounts.{sent}
use Rattle.bank_ledger.specs.Effects.{IsSent}
use Rattle.chain_msgs.specs.Plain.{event_view}
use Rattle.submsg_dispatch.specs.Events.{transfer}
use Rattle.submsg_dispatch.specs.Under.{events_view}
use Rattle.submsg_dispatch.proofs.Banking.{enough_leads, short_leads, sent_steps}
use Rattle.submsg_dispatch.proofs.bank.move_coins.Goals as goal

pub returns-in_ok-one-in-Ok-clause-leads : goal.returns-in_ok-one-in-Ok-clause-leads
returns-in_ok-one-in-Ok-clause-leads g c = λ tally left.
    let from = c.args.from.now in
    let to = c.args.to.now in
    let coins = coins_view c.args.coins.now in
    enough_leads {view = events_view} tally c.in_ok-one-in-Ok.field-0 from coins (λ (s : State). sent s from to coins) (λ (p : List ℕ). transfer p from to coins ∷ []) (λ (s t : State). IsSent s from to coins t) (sent_steps from to coins) (λ (s : State). refl)
    (ap (map event_view) c.in_ok-one-in-Ok.ensures ∙ ap (λ e. e ∷ []) c.in_ok-event-in-Ok.ensures) c.in-Ok.ensures.sent

pub returns-in-Err-clause-leads : goal.returns-in-Err-clause-leads
returns-in-Err-clause-leads g c = λ tally left.
    let from = c.args.from.now in
    let to = c.args.to.now in
    let coins = coins_view c.args.coins.now in
    short_leads {view = events_view} tally c.in-Err.stop c.bank_stop.result from coins (λ (s : State). sent s from to coins) (λ (p : List ℕ). transfer p from to coins ∷ []) c.in-Err.ensures.stop c.in-Err.ensures.unchanged c.bank_stop.ensures
