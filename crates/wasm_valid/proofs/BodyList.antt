-- Going over the bodies of a module up to the first fault.
use Rattle.std.proofs.Common.{◌≡◌, ℕ, suc, ◌+◌, ◌≤◌, ◌<◌, List, [], ◌∷◌, length, map, drop, get_or, Option, None, Err, refl, sym, ap, ◌∙◌, arith, add-one, min, Bool, true, false, leb, ◌⊎◌, inl, inr}
use Rattle.std.specs.Prelude.{zip, option_map, All}
use Rattle.std.proofs.Math.Seq.{drop-cons}
use Rattle.std.proofs.lemmas.Bool.{leb-true, leb-false}
use Rattle.std.proofs.lemmas.List.{drop-map, length-map, drop_all, get_or-map}
use Rattle.std.proofs.lemmas.List.Elements.{All-get_or}
use Rattle.wasm_types.specs.declared.kind.ValidKind.{ValidKind}
use Rattle.wasm_types.specs.declared.module.Code.{Code}
use Rattle.wasm_types.specs.Plain.{PlainCode, PlainModule, plain_code}
use Rattle.wasm_types.specs.Typing.{or_else}
use Rattle.wasm_types.specs.Validity.{Fault, in_func, bodies_fault}
use Rattle.wasm_valid.specs.declared.body.BodyStop.{BodyStop}
use Rattle.wasm_valid.specs.declared.body.BodyStop.TheVariants as body_stops
use Rattle.wasm_valid.specs.declared.stop.ValidStop.{ValidStop}
use Rattle.wasm_valid.specs.Spaces.{Faults}
use Rattle.wasm_valid.specs.Steps.{Finds}
use Rattle.wasm_valid.specs.Bodies.{IsNested, func_stop, typed_fault}

-- the first fault of the bodies from this place on
abbrev pub from : PlainModule → List ℕ → List Code → ℕ → Option Fault
from m funcs codes at = bodies_fault m at (zip (drop at funcs) (drop at (map plain_code codes)))

pub nested_at : (codes : List Code) (at : ℕ) (code : Code) → All IsNested (map plain_code codes) → at < length codes → code ≡ get_or codes at code → IsNested (plain_code code)
nested_at codes at code all within here =
    let there : get_or (map plain_code codes) at (plain_code code) ≡ plain_code code = get_or-map plain_code codes at code (plain_code code) within ∙ ap plain_code (sym here) in
    rw there at (All-get_or IsNested (map plain_code codes) at (plain_code code) (omega (arith, within, length-map codes plain_code)) all)

module _ (m : PlainModule) (funcs : List ℕ) (codes : List Code) where
  module _ (at func d : ℕ) (code : Code) (func_within : at < length funcs) (func_here : func ≡ get_or funcs at d) (within : at < length codes) (here : code ≡ get_or codes at code) where
    opened : from m funcs codes at ≡ or_else (option_map (in_func at) (typed_fault m func (plain_code code))) (from m funcs codes (at + 1))
    unfolding bodies_fault
    opened =
        let f : drop at funcs ≡ func ∷ drop (at + 1) funcs = rw add-one (drop-cons funcs at d func_within ∙ ap (λ (x : ℕ). x ∷ drop (suc at) funcs) (sym func_here)) in
        let c : drop at (map plain_code codes) ≡ plain_code code ∷ drop (at + 1) (map plain_code codes) =
        rw add-one (drop-map plain_code at codes ∙ ap (map plain_code) (drop-cons codes at code within ∙ ap (λ (x : Code). x ∷ drop (suc at) codes) (sym here)) ∙ ap (λ (l : List PlainCode). plain_code code ∷ l) (sym (drop-map plain_code (suc at) codes))) in
        rw (f, c) refl

    pub passes : (whole : Option Fault) → whole ≡ from m funcs codes at → typed_fault m func (plain_code code) ≡ None → whole ≡ from m funcs codes (at + 1)
    passes whole so_far e = so_far ∙ opened ∙ ap (λ (o : Option (ℕ × ValidKind)). or_else (option_map (in_func at) o) (from m funcs codes (at + 1))) e

    pub stops : (whole : Option Fault) (stop : BodyStop) (result : ValidStop) → result ≡ func_stop at stop → whole ≡ from m funcs codes at → Finds (Err stop) (typed_fault m func (plain_code code)) → Faults (Err result) whole
    stops whole (body_stops.Untyped instr kind) result is so_far e =
        rw is (so_far ∙ opened ∙ ap (λ (o : Option (ℕ × ValidKind)). or_else (option_map (in_func at) o) (from m funcs codes (at + 1))) e)
    stops whole body_stops.NoMemory result is so_far e = rw is tt

  zip_nothing : (fs : List ℕ) (cs : List PlainCode) → (fs ≡ []) ⊎ (cs ≡ []) → zip fs cs ≡ []
  zip_nothing fs cs (inl e) = rw e refl
  zip_nothing [] cs (inr e) = refl
  zip_nothing (f ∷ fs) cs (inr e) = rw e refl

  ends_one : (at : ℕ) → min (length funcs) (length codes) ≤ at → (length funcs ≤ at) ⊎ (length codes ≤ at)
  ends_one at past = go (leb (length funcs) at) refl
    where
      go : (b : Bool) → leb (length funcs) at ≡ b → (length funcs ≤ at) ⊎ (length codes ≤ at)
      go true e = inl (leb-true (length funcs) at e)
      go false e = inr (omega (arith, past, leb-false (length funcs) at e))

  one_dropped : (at : ℕ) → (length funcs ≤ at) ⊎ (length codes ≤ at) → (drop at funcs ≡ []) ⊎ (drop at (map plain_code codes) ≡ [])
  one_dropped at (inl le) = inl (drop_all at funcs le)
  one_dropped at (inr le) = inr (drop_all at (map plain_code codes) (omega (arith, le, length-map codes plain_code)))

  pub none_left : (whole : Option Fault) (at : ℕ) → whole ≡ from m funcs codes at → min (length funcs) (length codes) ≤ at → whole ≡ None
  unfolding bodies_fault
  none_left whole at so_far past = so_far ∙ ap (bodies_fault m at) (zip_nothing (drop at funcs) (drop at (map plain_code codes)) (one_dropped at (ends_one at past)))
