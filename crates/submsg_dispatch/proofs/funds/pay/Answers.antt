use Rattle.std.proofs.Common.{◌≡◌, List, [], Ok, sym, ap, ◌∙◌, subst, map}
use Rattle.std.proofs.lemmas.Bool.{false≢true}
use Rattle.coin_amounts.specs.Plain.{Coin}
use Rattle.coin_amounts.specs.Coins.{coins_view}
use Rattle.chain_msgs.specs.Plain.{Event, event_view}
use Rattle.submsg_dispatch.specs.Parts.{Part, done}
use Rattle.submsg_dispatch.specs.Calling.{pays}
use Rattle.submsg_dispatch.specs.Under.{LeadsOn, events_view}
use Rattle.submsg_dispatch.proofs.Chaining.{gives_on, on_of_under}
use Rattle.submsg_dispatch.proofs.Seeing.{pays_some}
use Rattle.submsg_dispatch.proofs.funds.pay.Goals as goal

pub returns-then-is_empty-clause-leads : goal.returns-then-is_empty-clause-leads
returns-then-is_empty-clause-leads g c = λ tally.
    let costs = c.args.costs.now in
    let from = c.args.from.now in
    let to = c.args.to.now in
    let coins = coins_view c.args.coins.now in
    let none : coins ≡ [] = c.is_empty.ensures.0 c.if-is_empty.true in
    gives_on (pays costs from to coins) events_view (Ok c.new.result) (λ s left is. ap (λ (cs : List Coin). pays costs from to cs s left) none ∙ ap (λ (es : List Event). done es s left) (sym (ap (map event_view) c.new.ensures.items)))

pub returns-clause-leads : goal.returns-clause-leads
returns-clause-leads g c = λ tally.
    let costs = c.args.costs.now in
    let from = c.args.from.now in
    let to = c.args.to.now in
    let coins = coins_view c.args.coins.now in
    let some : coins ≡ [] → ⊥ = λ none. false≢true (sym c.if-is_empty.false ∙ c.is_empty.ensures.1 none) in
    subst (λ (p : Part (List Event)). LeadsOn c.args.prefix.now g.B.Base.stands_for c.args.layers.now c.transfers.new.layers tally tally c.args.meter.now.left c.transfers.new.meter.left p events_view c.transfers.result) (sym (pays_some costs from to coins some)) (on_of_under c.transfers.result (c.transfers.ensures.leads tally))
