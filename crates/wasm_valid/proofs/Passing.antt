-- Going over the items of a list up to the first fault.
use Rattle.std.proofs.Common.{◌≡◌, ℕ, suc, ◌+◌, ◌≤◌, ◌<◌, List, [], ◌∷◌, ◌++◌, length, map, take, drop, get_or, Option, Some, None, Result, Ok, Err, sym, ap, ◌∙◌, arith, add-one}
use Rattle.std.proofs.Math.Seq.{take-suc, drop-cons}
use Rattle.std.proofs.lemmas.List.{map-append, take-map, drop-map, length-map, length-take, drop_all, map-id}
use Rattle.wasm_types.specs.declared.kind.ValidKind.{ValidKind}
use Rattle.wasm_types.specs.Typing.{or_else}
use Rattle.wasm_types.specs.Validity.{Fault, fault_at, first_fault}
use Rattle.wasm_valid.specs.declared.stop.TypingStop.{TypingStop}
use Rattle.wasm_valid.specs.declared.stop.TypingStop.TheVariants as typing_stops
use Rattle.wasm_valid.specs.declared.stop.ValidStop.{ValidStop}
use Rattle.wasm_valid.specs.Spaces.{Faults}
use Rattle.wasm_valid.specs.Names.{Keeps, item_stop}

-- the first fault of the items from this place on
abbrev pub from : {A : Type 0} → (List A → A → Result (Unit {0}) ValidKind) → List A → ℕ → Option Fault
from kept items at = first_fault kept (take at items) (drop at items)

module _ {A B : Type 0} (shown : B → A) (kept : List A → A → Result (Unit {0}) ValidKind) (raw : List B) where
  module _ (at : ℕ) (x d : B) (within : at < length raw) (here : x ≡ get_or raw at d) where
    back : drop at (map shown raw) ≡ shown x ∷ drop (at + 1) (map shown raw)
    back =
        rw add-one (drop-map shown at raw ∙ ap (map shown) (drop-cons raw at d within ∙ ap (λ (y : B). y ∷ drop (suc at) raw) (sym here)) ∙ ap (λ (l : List A). shown x ∷ l) (sym (drop-map shown (suc at) raw)))

    pub front : take (at + 1) (map shown raw) ≡ take at (map shown raw) ++ shown x ∷ []
    front =
        rw add-one (take-map shown (suc at) raw ∙ ap (map shown) (take-suc raw at d within ∙ ap (λ (y : B). take at raw ++ y ∷ []) (sym here)) ∙ map-append shown (take at raw) (x ∷ []) ∙ ap (λ (l : List A). l ++ shown x ∷ []) (sym (take-map shown at raw)))

    count : length (take at (map shown raw)) ≡ at
    count = omega (arith, length-take at (map shown raw), length-map raw shown)

    opened : from kept (map shown raw) at ≡ or_else (fault_at at (kept (take at (map shown raw)) (shown x))) (from kept (map shown raw) (at + 1))
    unfolding first_fault
    opened = rw (back, front) (ap (λ (n : ℕ). or_else (fault_at n (kept (take at (map shown raw)) (shown x))) (first_fault kept (take at (map shown raw) ++ shown x ∷ []) (drop (at + 1) (map shown raw)))) count)

    pub passes : (whole : Option Fault) → whole ≡ from kept (map shown raw) at → kept (take at (map shown raw)) (shown x) ≡ Ok tt → whole ≡ from kept (map shown raw) (at + 1)
    passes whole so_far e = so_far ∙ opened ∙ ap (λ (r : Result (Unit {0}) ValidKind). or_else (fault_at at r) (from kept (map shown raw) (at + 1))) e

    pub fails : (whole : Option Fault) (kind : ValidKind) → whole ≡ from kept (map shown raw) at → kept (take at (map shown raw)) (shown x) ≡ Err kind → whole ≡ Some (record { func = None; instr = at; kind = kind })
    fails whole kind so_far e = so_far ∙ opened ∙ ap (λ (r : Result (Unit {0}) ValidKind). or_else (fault_at at r) (from kept (map shown raw) (at + 1))) e

    pub stops : (whole : Option Fault) (stop : TypingStop) (result : ValidStop) → result ≡ item_stop at stop → whole ≡ from kept (map shown raw) at → Keeps (Err stop) (kept (take at (map shown raw)) (shown x)) → Faults (Err result) whole
    stops whole (typing_stops.Wrong kind) result is so_far e = rw is (fails whole kind so_far e)
    stops whole typing_stops.NoMemory result is so_far e = rw is tt

  pub none_left : (whole : Option Fault) (at : ℕ) → whole ≡ from kept (map shown raw) at → length raw ≤ at → whole ≡ None
  unfolding first_fault
  none_left whole at so_far past = so_far ∙ ap (first_fault kept (take at (map shown raw))) (drop_all at (map shown raw) (omega (arith, length-map raw shown)))

-- the same where the items are their own plain form
module _ {A : Type 0} (kept : List A → A → Result (Unit {0}) ValidKind) (items : List A) where
  itself : map (λ (x : A). x) items ≡ items
  itself = map-id items

  module _ (at : ℕ) (x d : A) (within : at < length items) (here : x ≡ get_or items at d) where
    pub passes_itself : (whole : Option Fault) → whole ≡ from kept items at → kept (take at items) x ≡ Ok tt → whole ≡ from kept items (at + 1)
    passes_itself whole so_far e =
        rw itself at (passes (λ (x : A). x) kept items at x d within here whole (rw itself so_far) (rw itself e))

    pub fails_itself : (whole : Option Fault) (kind : ValidKind) → whole ≡ from kept items at → kept (take at items) x ≡ Err kind → whole ≡ Some (record { func = None; instr = at; kind = kind })
    fails_itself whole kind so_far e = fails (λ (x : A). x) kept items at x d within here whole kind (rw itself so_far) (rw itself e)

  pub none_left_itself : (whole : Option Fault) (at : ℕ) → whole ≡ from kept items at → length items ≤ at → whole ≡ None
  none_left_itself whole at so_far past = none_left (λ (x : A). x) kept items whole at (rw itself so_far) past
