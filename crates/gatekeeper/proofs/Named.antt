-- Names that aren't in a table, and types of i32 alone.
use Rattle.std.proofs.Common.{◌≡◌, ℕ, zero, suc, Bool, true, false, ◌&&◌, ◌||◌, map, List, [], ◌∷◌, length, replicate, Option, refl, sym, ap, ◌∙◌}
use Rattle.std.specs.Str.{bytes_eq}
use Rattle.std.specs.List.{list_all, list_any}
use Rattle.std.specs.Cmp.Lexicographic.{pointwise}
use Rattle.std.proofs.lemmas.Bool.{false_from_ne_true}
use Rattle.std.proofs.lemmas.Slice.Eq.{bytes_eq-Decides}
use Rattle.wasm_types.specs.declared.value.ValType.{ValType}
use Rattle.wasm_types.specs.declared.value.ValType.TheVariants.{I32, I64}
use Rattle.wasm_types.specs.Plain.{PlainFuncType}
use Rattle.wasm_types.specs.Typing.{same_type}
use Rattle.wasm_types.specs.Interface.{type_named}
use Rattle.gatekeeper.specs.Signatures.{is_i32}

pub unlike : (other name : List ℕ) → (name ≡ other → ⊥) → bytes_eq other name ≡ false
unlike other name differ = false_from_ne_true (bytes_eq other name) (λ e. differ (sym ((bytes_eq-Decides other name).0 e)))

pub skips : (other name : List ℕ) (t : PlainFuncType) (functions : List (List ℕ × PlainFuncType)) (r : Option PlainFuncType) → (name ≡ other → ⊥) → r ≡ type_named functions name → r ≡ type_named ((other, t) ∷ functions) name
skips other name t functions r differ e = rw (unlike other name differ) e

same_first : (t : ValType) (b : Bool) → (same_type t I32 && b) ≡ (is_i32 t && b)
same_first I32 b = refl
same_first I64 b = refl

pub same_length : (types : List ValType) → pointwise same_type types (replicate (length types) I32) ≡ list_all is_i32 types
same_length [] = refl
same_length (t ∷ types) = ap (λ (b : Bool). same_type t I32 && b) (same_length types) ∙ same_first t (list_all is_i32 types)

and_false : (b : Bool) → (b && false) ≡ false
and_false true = refl
and_false false = refl

pub other_length : (types : List ValType) (n : ℕ) → (length types ≡ n → ⊥) → pointwise same_type types (replicate n I32) ≡ false
other_length [] zero differ = absurd (differ refl)
other_length [] (suc n) differ = refl
other_length (t ∷ types) zero differ = refl
other_length (t ∷ types) (suc n) differ = ap (λ (b : Bool). same_type t I32 && b) (other_length types n (λ e. differ (ap suc e))) ∙ and_false (same_type t I32)

-- a test on plain forms
pub any_shown : {X Y : Type 0} (shown : X → Y) (test : Y → Bool) (xs : List X) → list_any (λ (x : X). test (shown x)) xs ≡ list_any test (map shown xs)
any_shown shown test [] = refl
any_shown shown test (x ∷ xs) = ap (λ (b : Bool). test (shown x) || b) (any_shown shown test xs)
