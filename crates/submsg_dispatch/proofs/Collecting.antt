-- The data and the events of outcomes, one after the other.
use Rattle.std.proofs.Common.{◌≡◌, ℕ, List, [], ◌∷◌, ◌++◌, Option, None, map, length, append_assoc, append-nil, refl, sym, ap, ◌∙◌, arith}
use Rattle.std.specs.List.{flat_map}
use Rattle.std.specs.Global.{Vec}
use Rattle.std.proofs.lemmas.List.{map-append}
use Rattle.chain_msgs.specs.declared.event.Event as event_type
use Rattle.chain_msgs.specs.Plain.{Event, event_view, out_view, TxResult}
use Rattle.submsg_dispatch.specs.declared.outcome.Outcome as outcome_type
use Rattle.submsg_dispatch.specs.Messages.{Outcome}
use Rattle.submsg_dispatch.specs.Transactions.{succeeded}
use Rattle.submsg_dispatch.specs.Views.{outcome_view}

abbrev pub outs_of : List outcome_type.Outcome → List (Option (List ℕ))
outs_of outcomes = map (λ (o : Outcome). o.out) (map outcome_view outcomes)

abbrev pub events_of : List outcome_type.Outcome → List Event
events_of outcomes = flat_map (λ (o : Outcome). o.events) (map outcome_view outcomes)

pub outs_step : (outs more : List (Option (Vec ℕ))) (o : outcome_type.Outcome) (rest later : List outcome_type.Outcome) → more ≡ outs ++ o.out ∷ [] → rest ≡ o ∷ later → map out_view more ++ outs_of later ≡ map out_view outs ++ outs_of rest
outs_step outs more o rest later pushed is =
    ap (λ (xs : List (Option (Vec ℕ))). map out_view xs ++ outs_of later) pushed
    ∙ ap (λ (xs : List (Option (List ℕ))). xs ++ outs_of later) (map-append out_view outs (o.out ∷ []))
    ∙ append_assoc (map out_view outs) (out_view o.out ∷ []) (outs_of later)
    ∙ ap (λ (xs : List outcome_type.Outcome). map out_view outs ++ outs_of xs) (sym is)

pub events_step : (events more : List event_type.Event) (o : outcome_type.Outcome) (rest later : List outcome_type.Outcome) → more ≡ events ++ o.events.items → rest ≡ o ∷ later → map event_view more ++ events_of later ≡ map event_view events ++ events_of rest
events_step events more o rest later pushed is =
    ap (λ (xs : List event_type.Event). map event_view xs ++ events_of later) pushed
    ∙ ap (λ (xs : List Event). xs ++ events_of later) (map-append event_view events o.events.items)
    ∙ append_assoc (map event_view events) (map event_view o.events.items) (events_of later)
    ∙ ap (λ (xs : List outcome_type.Outcome). map event_view events ++ events_of xs) (sym is)

pub none_left : (outcomes : List outcome_type.Outcome) → length outcomes ≡ 0 → outcomes ≡ []
none_left [] e = refl
none_left (o ∷ outcomes) e = absurd (omega arith)

-- where none is left, all was collected
pub collected : (outcomes rest : List outcome_type.Outcome) (outs : List (Option (Vec ℕ))) (events : List event_type.Event) (gas : ℕ) → rest ≡ [] → map out_view outs ++ outs_of rest ≡ outs_of outcomes → map event_view events ++ events_of rest ≡ events_of outcomes
    → ◌≡◌ {A = TxResult} (record { failure = None; outs = map out_view outs; events = map event_view events; gas = gas }) (succeeded (map outcome_view outcomes) gas)
collected outcomes rest outs events gas none outs_are events_are =
    let all_outs = sym (append-nil (map out_view outs)) ∙ ap (λ (xs : List outcome_type.Outcome). map out_view outs ++ outs_of xs) (sym none) ∙ outs_are in
    let all_events = sym (append-nil (map event_view events)) ∙ ap (λ (xs : List outcome_type.Outcome). map event_view events ++ events_of xs) (sym none) ∙ events_are in
    λ i. record { failure = None; outs = all_outs i; events = all_events i; gas = gas }
