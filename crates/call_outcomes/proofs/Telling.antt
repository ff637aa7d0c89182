-- Events that are told one by one, behind those that were told before.
use Rattle.std.proofs.Common.{◌≡◌, List, ℕ, [], ◌∷◌, ◌++◌, length, append-nil, append_assoc, refl, sym, ap, ◌∙◌, map, arith}
use Rattle.std.proofs.lemmas.List.{map-append}
use Rattle.chain_msgs.specs.declared.event.Event as event_type
use Rattle.chain_msgs.specs.Plain.{Event, event_view}
use Rattle.call_outcomes.specs.Events.{custom_event}

-- what is told and what is still to be told
abbrev pub with_rest : List ℕ → List event_type.Event → List event_type.Event → List Event
with_rest contract told rest = map event_view told ++ map (custom_event contract) (map event_view rest)

pub one_told : (contract : List ℕ) (told next rest left : List event_type.Event) (kept event : event_type.Event) → next ≡ told ++ kept ∷ [] → rest ≡ event ∷ left → event_view kept ≡ custom_event contract (event_view event)
    → with_rest contract next left ≡ with_rest contract told rest
one_told contract told next rest left kept event pushed first is =
    ap (λ (x : List event_type.Event). with_rest contract x left) pushed
    ∙ ap (λ (x : List Event). x ++ map (custom_event contract) (map event_view left)) (map-append event_view told (kept ∷ []))
    ∙ append_assoc (map event_view told) (event_view kept ∷ []) (map (custom_event contract) (map event_view left))
    ∙ ap (λ (x : Event). map event_view told ++ x ∷ map (custom_event contract) (map event_view left)) is
    ∙ ap (λ (x : List event_type.Event). with_rest contract told x) (sym first)

pub all_told : (contract : List ℕ) (told rest : List event_type.Event) → rest ≡ [] → map event_view told ≡ with_rest contract told rest
all_told contract told rest none = sym (append-nil (map event_view told)) ∙ ap (λ (x : List event_type.Event). with_rest contract told x) (sym none)

pub none_left : (events : List event_type.Event) → length events ≡ 0 → events ≡ []
none_left [] e = refl
none_left (event ∷ events) e = absurd (omega arith)
