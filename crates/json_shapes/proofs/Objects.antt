-- An object's one field.
use Rattle.std.proofs.Common.{◌≡◌, ◌≢◌, ℕ, List, [], ◌∷◌, length, None, Some, String, string_bytes, slice_get, refl, ap, arith, Global}
use Rattle.serde_json.specs.Data.{object}
use Rattle.serde_json.specs.View.{view, members_view}
use Rattle.serde_json.specs.declared.value.Value.{Value}
use Rattle.serde_json.proofs.Views.{Entry}
use Rattle.json_shapes.specs.Json.{variant_of}

pub variant_none : (es : List Entry) → length es ≢ 1 → variant_of (object (members_view es)) ≡ None
variant_none [] other = refl
variant_none (e ∷ []) other = absurd (other refl)
variant_none (e ∷ f ∷ es) other = refl

pub variant_some : (es : List Entry) (key : String Global) (v : Value) (name : List ℕ) → length es ≡ 1 → slice_get es 0 ≡ Some (key, v) → name ≡ string_bytes key
    → variant_of (object (members_view es)) ≡ Some (name, view v)
variant_some [] key v name one is named = absurd (omega arith)
variant_some (e ∷ []) key v name one is named = let same : e ≡ (key, v) = cc in rw (same, named) refl
variant_some (e ∷ f ∷ es) key v name one is named = absurd (omega arith)

pub variant_first : (es rest : List Entry) (e : Entry) → length es ≡ 1 → es ≡ e ∷ rest → variant_of (object (members_view es)) ≡ Some (string_bytes e.0, view e.1)
variant_first es [] e one is = rw is refl
variant_first es (f ∷ rest) e one is = absurd (omega (arith, ap length is))
