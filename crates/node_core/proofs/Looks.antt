-- What a look and a stow are where codes are named by numbers.
use Rattle.std.proofs.Common.{◌≡◌, ℕ, ◌==◌, Bool, true, false, not, cond, List, ◌∷◌, map, take, Some, None, refl, sym, ap, ◌∙◌}
use Rattle.std.proofs.lemmas.List.{take-map}
use Rattle.std.specs.List.{filter, list_any}
use Rattle.gatekeeper.specs.declared.served.Served.TheVariants.{Pinned, Recent}
use Rattle.gatekeeper.specs.Cache.{Look, is_among, to_front}
use Rattle.node_core.specs.declared.answer.CoreAnswer.{CoreAnswer}
use Rattle.node_core.specs.declared.answer.CoreAnswer.TheVariants.{Nothing, Found, Missing, Refused}
use Rattle.node_core.specs.Plain.{look, stow}
use Rattle.node_core.specs.Steps.{State, Step, named, is_actor, lawful, after_look, stepped}
use Rattle.node_core.proofs.NamedCodes.{among_named, front_named}

abbrev has : ℕ → List ℕ → Bool
has code codes = list_any (λ c. c == code) codes

abbrev fronted : ℕ → List ℕ → List ℕ
fronted code codes = code ∷ filter (λ c. not (c == code)) codes

-- the state with these lists of numbers
abbrev pub state_of : ℕ → ℕ → ℕ → List ℕ → List ℕ → List ℕ → State
state_of newest keep size pinned recent seen = record {
  newest = newest;
  keep = keep;
  cache = record { pinned = map named pinned; recent = map named recent; size = size };
  seen = seen;
}

abbrev step_of : State → CoreAnswer → Step
step_of s answer = record { state = s; answer = answer }

module _ (newest keep size : ℕ) (pinned recent seen : List ℕ) (actor code : ℕ) where
  abbrev here : List ℕ → State
  here codes = state_of newest keep size pinned codes seen

  abbrev with_recent : List (List ℕ) → State
  with_recent codes = record {
    newest = newest;
    keep = keep;
    cache = record { pinned = map named pinned; recent = codes; size = size };
    seen = seen;
  }

  abbrev look_by : Bool → Bool → Look
  look_by p r =
      cond p (record { held = Some Pinned; cache = (here recent).cache })
      (cond r (record { held = Some Recent; cache = record (here recent).cache { recent = to_front (named code) (map named recent) } })
      (record { held = None; cache = (here recent).cache }))

  abbrev look_step : Bool → Bool → Bool → Step
  look_step a p r = lawful a (here recent) (after_look (here recent) code (look_by p r))

  look_is : (a p r : Bool) → is_actor (here recent) actor ≡ a → has code pinned ≡ p → has code recent ≡ r → stepped (here recent) (look actor code) ≡ look_step a p r
  look_is a p r acts ps rs =
      ap (λ (x : Bool). look_step x (is_among (named code) (map named pinned)) (is_among (named code) (map named recent))) acts
      ∙ ap (λ (x : Bool). look_step a x (is_among (named code) (map named recent))) (among_named code pinned ∙ ps)
      ∙ ap (λ (x : Bool). look_step a p x) (among_named code recent ∙ rs)

  pub looked_refused : is_actor (here recent) actor ≡ false → step_of (here recent) Refused ≡ stepped (here recent) (look actor code)
  looked_refused acts = sym (look_is false (has code pinned) (has code recent) acts refl refl)

  pub looked_pinned : is_actor (here recent) actor ≡ true → has code pinned ≡ true → step_of (here recent) (Found code) ≡ stepped (here recent) (look actor code)
  looked_pinned acts ps = sym (look_is true true (has code recent) acts ps refl)

  pub looked_missing : is_actor (here recent) actor ≡ true → has code pinned ≡ false → has code recent ≡ false → step_of (here recent) Missing ≡ stepped (here recent) (look actor code)
  looked_missing acts ps rs = sym (look_is true false false acts ps rs)

  pub looked_recent : (codes : List ℕ) → is_actor (here recent) actor ≡ true → has code pinned ≡ false → has code recent ≡ true → codes ≡ fronted code recent
      → step_of (here codes) (Found code) ≡ stepped (here recent) (look actor code)
  looked_recent codes acts ps rs is =
      ap (λ (cs : List (List ℕ)). step_of (with_recent cs) (Found code)) (ap (map named) is ∙ sym (front_named code recent))
      ∙ sym (look_is true false true acts ps rs)

  pub stow_refused : is_actor (here recent) actor ≡ false → step_of (here recent) Refused ≡ stepped (here recent) (stow actor code)
  stow_refused acts = sym (ap (λ (x : Bool). lawful x (here recent) (step_of (with_recent (take size (to_front (named code) (map named recent)))) Nothing)) acts)

  pub stow_kept : (front codes : List ℕ) → is_actor (here recent) actor ≡ true → front ≡ fronted code recent → codes ≡ take size front
      → step_of (here codes) Nothing ≡ stepped (here recent) (stow actor code)
  stow_kept front codes acts fs is =
      ap (λ (cs : List (List ℕ)). step_of (with_recent cs) Nothing)
      (ap (map named) is ∙ sym (take-map named size front) ∙ ap (take size) (ap (map named) fs ∙ sym (front_named code recent)))
      ∙ sym (ap (λ (x : Bool). lawful x (here recent) (step_of (with_recent (take size (to_front (named code) (map named recent)))) Nothing)) acts)
