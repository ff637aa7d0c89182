-- Exports, imports and requests by their names.
use Rattle.std.proofs.Common.{◌≡◌, ◌<◌, ◌≤◌, ℕ, length, get_or, Bool, true, false, map, List, [], ◌∷◌, Option, Some, None, refl, sym, ap, ◌∙◌}
use Rattle.std.specs.Prelude.{find, option_map, option_and_then, if◌then◌else◌}
use Rattle.std.specs.List.{slice_get}
use Rattle.std.specs.Str.{bytes_eq}
use Rattle.std.proofs.lemmas.Bool.{false_from_ne_true}
use Rattle.std.proofs.lemmas.Option.{slice_get-map, slice_get_read, slice_get_past}
use Rattle.std.proofs.lemmas.Slice.Eq.{bytes_eq-Decides}
use Rattle.wasm_types.specs.declared.export.Export.{Export}
use Rattle.wasm_types.specs.declared.import.Import.{Import}
use Rattle.wasm_types.specs.declared.module.Module.{Module}
use Rattle.wasm_types.specs.declared.value.Value.{Value}
use Rattle.wasm_types.specs.Plain.{PlainExport, PlainImport, plain_export, plain_import, plain_module}
use Rattle.host_imports.specs.declared.request.Request.{Request}
use Rattle.host_imports.specs.Allocation.{func_of, exported}
use Rattle.host_imports.specs.Requests.{Named, request_named, request_of, asked}

-- ---- names that aren't in a table

unlike : (other name : List ℕ) → (name ≡ other → ⊥) → bytes_eq other name ≡ false
unlike other name differ = false_from_ne_true (bytes_eq other name) (λ e. differ (sym ((bytes_eq-Decides other name).0 e)))

pub skips : (other name : List ℕ) (request : Request) (more : List Named) (r : Option Request) → (name ≡ other → ⊥) → r ≡ request_named name more → r ≡ request_named name ((other, request) ∷ more)
skips other name request more r differ e = rw (unlike other name differ) e

-- ---- exports

found_by : {X Y : Type 0} (shown : X → Y) (x : X) (found : Bool) (r : Option Y) (s : Option X) → r ≡ option_map shown s → (if found then Some (shown x) else r) ≡ option_map shown (if found then Some x else s)
found_by shown x true r s e = refl
found_by shown x false r s e = e

find_shown : {X Y : Type 0} (shown : X → Y) (test : Y → Bool) (xs : List X) → find test (map shown xs) ≡ option_map shown (find (λ (x : X). test (shown x)) xs)
find_shown shown test [] = refl
find_shown shown test (x ∷ xs) = found_by shown x (test (shown x)) (find test (map shown xs)) (find (λ x. test (shown x)) xs) (find_shown shown test xs)

abbrev named : List ℕ → PlainExport → Bool
named name e = bytes_eq e.name name

abbrev pub found_named : List Export → List ℕ → Option Export
found_named exports name = find (λ (e : Export). bytes_eq (plain_export e).name name) exports

exported_is : (m : Module) (name : List ℕ) (found : Option Export) → found_named m.exports.items name ≡ found → exported (plain_module m) name ≡ option_and_then (λ (e : PlainExport). func_of e.ext) (option_map plain_export found)
exported_is m name found e = ap (λ (o : Option PlainExport). option_and_then (λ (e : PlainExport). func_of e.ext) o) (find_shown plain_export (named name) m.exports.items ∙ ap (λ (o : Option Export). option_map plain_export o) e)

pub exported_so : (m : Module) (name : List ℕ) (found : Export) (func : Option ℕ) → Some found ≡ found_named m.exports.items name → func ≡ func_of found.ext → func ≡ exported (plain_module m) name
exported_so m name found func e f = f ∙ sym (exported_is m name (Some found) (sym e))

pub not_exported : (m : Module) (name : List ℕ) → None ≡ found_named m.exports.items name → None ≡ exported (plain_module m) name
not_exported m name e = sym (exported_is m name None (sym e))

-- ---- imports

asked_is : (m : Module) (import : ℕ) (args : List Value) (found : Option Import) → slice_get m.imports.items import ≡ found → asked (plain_module m) import args ≡ option_and_then (λ (i : PlainImport). request_of i.name args) (option_map plain_import found)
unfolding asked
asked_is m import args found e = ap (λ (o : Option PlainImport). option_and_then (λ (i : PlainImport). request_of i.name args) o) (slice_get-map plain_import m.imports.items import ∙ ap (λ (o : Option Import). option_map plain_import o) e)

pub asked_so : (m : Module) (import : ℕ) (args : List Value) (found : Import) (request : Option Request) → slice_get m.imports.items import ≡ Some found → request ≡ request_of (plain_import found).name args → request ≡ asked (plain_module m) import args
asked_so m import args found request e f = f ∙ sym (asked_is m import args (Some found) e)

pub not_asked : (m : Module) (import : ℕ) (args : List Value) → slice_get m.imports.items import ≡ None → None ≡ asked (plain_module m) import args
not_asked m import args e = sym (asked_is m import args None e)

pub import_read : (m : Module) (xs : List Import) (i : ℕ) (found : Import) → xs ≡ m.imports.items → i < length xs → found ≡ get_or xs i found → slice_get m.imports.items i ≡ Some found
import_read m xs i found e lt h = ap (λ ys. slice_get ys i) (sym e) ∙ slice_get_read xs (length xs) i found refl lt h

pub import_past : (m : Module) (xs : List Import) (i : ℕ) → xs ≡ m.imports.items → length xs ≤ i → slice_get m.imports.items i ≡ None
import_past m xs i e le = ap (λ ys. slice_get ys i) (sym e) ∙ slice_get_past xs i le
