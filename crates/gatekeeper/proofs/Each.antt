-- Going over the items of a list up to the first that breaks a rule.
use Rattle.std.proofs.Common.{◌≡◌, ℕ, suc, ◌+◌, ◌≤◌, ◌<◌, List, ◌∷◌, length, map, drop, get_or, Option, None, Err, refl, sym, ap, ◌∙◌, arith, add-one}
use Rattle.std.proofs.Math.Seq.{drop-cons}
use Rattle.std.proofs.lemmas.List.{drop-map, length-map, drop_all}
use Rattle.wasm_types.specs.Plain.{PlainRefusal}
use Rattle.wasm_types.specs.Typing.{or_else}
use Rattle.wasm_types.specs.Gate.{first_refused}
use Rattle.gatekeeper.specs.declared.stop.GateStop.{GateStop}
use Rattle.gatekeeper.specs.declared.stop.GateStop.TheVariants as stops
use Rattle.gatekeeper.specs.Judging.{Judges}

-- the first refusal of the items from this place on
abbrev pub from : {A : Type 0} → (ℕ → A → Option PlainRefusal) → List A → ℕ → Option PlainRefusal
from judge items at = first_refused judge at (drop at items)

abbrev Refusal : Type 0
Refusal = Option PlainRefusal

module _ {A B : Type 0} (shown : B → A) (judge : ℕ → A → Refusal) (raw : List B) where
  module _ (at : ℕ) (x d : B) (within : at < length raw) (here : x ≡ get_or raw at d) where
    back : drop at (map shown raw) ≡ shown x ∷ drop (at + 1) (map shown raw)
    back =
        rw add-one (drop-map shown at raw ∙ ap (map shown) (drop-cons raw at d within ∙ ap (λ (y : B). y ∷ drop (suc at) raw) (sym here)) ∙ ap (λ (l : List A). shown x ∷ l) (sym (drop-map shown (suc at) raw)))

    opened : from judge (map shown raw) at ≡ or_else (judge at (shown x)) (from judge (map shown raw) (at + 1))
    unfolding first_refused
    opened = rw back refl

    pub passes : (whole : Refusal) → whole ≡ from judge (map shown raw) at → judge at (shown x) ≡ None → whole ≡ from judge (map shown raw) (at + 1)
    passes whole so_far e = so_far ∙ opened ∙ ap (λ (o : Refusal). or_else o (from judge (map shown raw) (at + 1))) e

    pub refuses : (whole : Refusal) (stop : GateStop) → whole ≡ from judge (map shown raw) at → Judges {A = Unit {0}} (Err stop) (judge at (shown x)) → Judges {A = Unit {0}} (Err stop) whole
    refuses whole (stops.Refused r) so_far e = so_far ∙ opened ∙ ap (λ (o : Refusal). or_else o (from judge (map shown raw) (at + 1))) e
    refuses whole stops.NoMemory so_far e = tt

  pub none_left : (whole : Refusal) (at : ℕ) → whole ≡ from judge (map shown raw) at → length raw ≤ at → whole ≡ None
  unfolding first_refused
  none_left whole at so_far past = so_far ∙ ap (first_refused judge at) (drop_all at (map shown raw) (omega (arith, past, length-map raw shown)))

-- the last of four rules refuses
pub last_refuses : (a b c d : Refusal) (stop : GateStop) → a ≡ None → b ≡ None → c ≡ None → Judges {A = Unit {0}} (Err stop) d → Judges {A = Unit {0}} (Err stop) (or_else a (or_else b (or_else c (or_else d None))))
last_refuses a b c d (stops.Refused r) e f g h = rw (e, f, g, h) refl
last_refuses a b c d stops.NoMemory e f g h = tt
