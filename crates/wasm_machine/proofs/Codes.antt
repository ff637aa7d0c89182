-- The functions of a module as a plain value.
use Rattle.std.proofs.Common.{◌≡◌, refl, sym, ◌∙◌, ap, ℕ, ◌<◌, ◌≤◌, get_or, length, List, Option, Some, None}
use Rattle.std.specs.Prelude.{slice_get, IfSome, MatchOption}
use Rattle.std.specs.Borrow.{Bor}
use Rattle.std.specs.List.{HoldsAt}
use Rattle.std.specs.Option.{option_map}
use Rattle.std.proofs.lemmas.Option.{slice_get-map, slice_get_read, slice_get_past}
use Rattle.wasm_types.specs.declared.func_type.FuncType.{FuncType}
use Rattle.wasm_types.specs.declared.module.Code.{Code}
use Rattle.wasm_types.specs.declared.module.Module.{Module}
use Rattle.wasm_types.specs.Plain.{plain_func_type, plain_code, plain_module}
use Rattle.wasm_machine.specs.Start.{code_at, code_or_none, no_code}

pub code_found : (m : Module) (i : ℕ) (code : Code) → slice_get m.codes.items i ≡ Some code → code_at (plain_module m) i ≡ plain_code code
unfolding code_at
code_found m i code e = ap code_or_none (slice_get-map plain_code m.codes.items i ∙ ap (option_map plain_code) e)

pub code_missing : (m : Module) (i : ℕ) → slice_get m.codes.items i ≡ None → code_at (plain_module m) i ≡ no_code
unfolding code_at
code_missing m i e = ap code_or_none (slice_get-map plain_code m.codes.items i ∙ ap (option_map plain_code) e)

pub code_read : (m : Module) (xs : List Code) (i : ℕ) (code : Code) → xs ≡ m.codes.items → i < length xs → code ≡ get_or xs i code → code_at (plain_module m) i ≡ plain_code code
code_read m xs i code e lt h = code_found m i code (ap (λ ys. slice_get ys i) (sym e) ∙ slice_get_read xs (length xs) i code refl lt h)

pub code_past : (m : Module) (xs : List Code) (i : ℕ) → xs ≡ m.codes.items → length xs ≤ i → code_at (plain_module m) i ≡ no_code
code_past m xs i e le = code_missing m i (ap (λ ys. slice_get ys i) (sym e) ∙ slice_get_past xs i le)

pub type_read : (m : Module) (xs : List FuncType) (i : ℕ) (t : FuncType) → xs ≡ m.types.items → i < length xs → t ≡ get_or xs i t → slice_get (plain_module m).types i ≡ Some (plain_func_type t)
type_read m xs i t e lt h =
    slice_get-map plain_func_type m.types.items i ∙ ap (option_map plain_func_type) (ap (λ ys. slice_get ys i) (sym e) ∙ slice_get_read xs (length xs) i t refl lt h)

pub type_past : (m : Module) (xs : List FuncType) (i : ℕ) → xs ≡ m.types.items → length xs ≤ i → slice_get (plain_module m).types i ≡ None
type_past m xs i e le =
    slice_get-map plain_func_type m.types.items i ∙ ap (option_map plain_func_type) (ap (λ ys. slice_get ys i) (sym e) ∙ slice_get_past xs i le)

pub type_got : (m : Module) (xs : List FuncType) (i : ℕ) (r : Option (Bor FuncType)) → xs ≡ m.types.items → IfSome r (λ x. x.now ≡ get_or xs i x.now) → MatchOption r (length xs ≤ i) (λ x. (i < length xs) × HoldsAt (λ y. x.now ≡ y) xs i) → option_map (λ t. plain_func_type t.now) r ≡ slice_get (plain_module m).types i
type_got m xs i None e h k = sym (type_past m xs i e k)
type_got m xs i (Some t) e h k = sym (type_read m xs i t.now e k.0 h)
