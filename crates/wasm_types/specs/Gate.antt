-- Which bytes the host takes as a contract's code: the rules that it looks at, in their order, and the first that is broken. That the module
-- is one and is valid is core 1.0; the functions are those of CosmWasm 1.x; the limits are this host's own.
use Rattle.std.specs.Prelude.{ℕ, ◌+◌, ◌*◌, ◌&&◌, not, nat_lt, nat_le, nat_eq, if◌then◌else◌, Bool, true, false, List, [], ◌∷◌, length, drop, slice_get, is_some, is_none, Option, Some, None, option_map, option_and_then, Ok, Err, codes}
use Rattle.std.specs.List.{list_any, starts_with}
use Rattle.std.specs.Cmp.Lexicographic.{pointwise}
use Rattle.std.specs.Str.{bytes_eq}
use Rattle.wasm_types.specs.declared.value.Value.TheVariants as values
use Rattle.wasm_types.specs.declared.limits.Limits.{Limits}
use Rattle.wasm_types.specs.declared.import.Desc.{Desc}
use Rattle.wasm_types.specs.declared.import.Desc.TheVariants as descs
use Rattle.wasm_types.specs.declared.export.Ext.{Ext}
use Rattle.wasm_types.specs.declared.export.Ext.TheVariants as exts
use Rattle.wasm_types.specs.declared.global.Init.{Init}
use Rattle.wasm_types.specs.declared.global.Init.TheVariants as inits
use Rattle.wasm_types.specs.Plain.{PlainFuncType, PlainImport, PlainExport, PlainModule, PlainRefusal, gzip, too_large, read, invalid, import_kind, import_count, import_unknown, import_type, memory_missing, memory_max, memory_initial, table_no_max, table_size, element_range, data_range, export_missing, interface_twice, export_type, capability}
use Rattle.wasm_types.specs.Place.{Reading}
use Rattle.wasm_types.specs.ModuleText.{reading_of}
use Rattle.wasm_types.specs.Typing.{or_else, same_type, same_result}
use Rattle.wasm_types.specs.Validity.{funcs_of, valid_fault}
use Rattle.wasm_types.specs.Interface.{host_functions, entry_points, wanted_exports, type_named}

abbrev pub unless : Bool → PlainRefusal → Option PlainRefusal
unless true refusal = None
unless false refusal = Some refusal

abbrev pub first_some : List (Option PlainRefusal) → Option PlainRefusal
first_some [] = None
first_some (r ∷ rules) = or_else r (first_some rules)

-- the refusal of the first item that has one; the first item has this place
unfoldable pub first_refused : {A : Type 0} → (ℕ → A → Option PlainRefusal) → ℕ → List A → Option PlainRefusal
first_refused judge at [] = None
first_refused judge at (x ∷ items) = or_else (judge at x) (first_refused judge (at + 1) items)

abbrev pub of_first : {A : Type 0} → (A → Option PlainRefusal) → List A → Option PlainRefusal
of_first judge [] = None
of_first judge (x ∷ items) = judge x

-- ---- the code's bytes

abbrev pub gzip_head : List ℕ
gzip_head = 0x1F ∷ 0x8B ∷ 0x08 ∷ []

abbrev pub most_bytes : ℕ
most_bytes = 819200

abbrev pub gzip_rule : List ℕ → Option PlainRefusal
gzip_rule code = unless (not (starts_with nat_eq code gzip_head)) gzip

abbrev pub size_rule : List ℕ → Option PlainRefusal
size_rule code = unless (nat_le (length code) most_bytes) (too_large (length code))

-- ---- imports

abbrev pub invalid_rule : PlainModule → Option PlainRefusal
invalid_rule m = option_map (λ f. invalid f.kind) (valid_fault m)

abbrev pub is_func : Desc → Bool
is_func (descs.Func ty) = true
is_func _ = false

abbrev pub import_kind_rule : PlainModule → Option PlainRefusal
import_kind_rule m = first_refused (λ at i. unless (is_func i.desc) (import_kind at)) 0 m.imports

abbrev pub most_imports : ℕ
most_imports = 100

abbrev pub import_count_rule : PlainModule → Option PlainRefusal
import_count_rule m = unless (nat_le (length m.imports) most_imports) (import_count (length m.imports))

-- the type of the function that is wanted under an import's names
abbrev pub wanted_type : PlainImport → Option PlainFuncType
wanted_type i = if bytes_eq i.module (codes "env") then type_named host_functions i.name else None

abbrev pub import_unknown_rule : PlainModule → Option PlainRefusal
import_unknown_rule m = first_refused (λ at i. unless (is_some (wanted_type i)) (import_unknown at)) 0 m.imports

abbrev pub same_func_type : PlainFuncType → PlainFuncType → Bool
same_func_type t u = pointwise same_type t.params u.params && same_result t.result u.result

abbrev pub are_same : Option PlainFuncType → Option PlainFuncType → Bool
are_same (Some t) (Some u) = same_func_type t u
are_same _ _ = false

abbrev pub desc_type : PlainModule → Desc → Option PlainFuncType
desc_type m (descs.Func ty) = slice_get m.types ty
desc_type m _ = None

abbrev pub import_type_rule : PlainModule → Option PlainRefusal
import_type_rule m = first_refused (λ at i. unless (are_same (desc_type m i.desc) (wanted_type i)) (import_type at)) 0 m.imports

-- ---- the memory and the table, of which there is at most one each

abbrev pub memory_missing_rule : PlainModule → Option PlainRefusal
memory_missing_rule m = unless (nat_lt 0 (length m.memories)) memory_missing

abbrev pub memory_max_rule : PlainModule → Option PlainRefusal
memory_max_rule m = of_first (λ size. unless (is_none size.max) memory_max) m.memories

abbrev pub most_initial_pages : ℕ
most_initial_pages = 512

abbrev pub memory_initial_rule : PlainModule → Option PlainRefusal
memory_initial_rule m = of_first (λ size. unless (nat_le size.min most_initial_pages) (memory_initial size.min)) m.memories

abbrev pub table_no_max_rule : PlainModule → Option PlainRefusal
table_no_max_rule m = of_first (λ size. unless (is_some size.max) table_no_max) m.tables

abbrev pub most_table_elements : ℕ
most_table_elements = 2500

abbrev pub max_refused : Option ℕ → Option PlainRefusal
max_refused None = None
max_refused (Some max) = unless (nat_le max most_table_elements) (table_size max)

abbrev pub table_size_rule : PlainModule → Option PlainRefusal
table_size_rule m = of_first (λ size. max_refused size.max) m.tables

-- ---- segments: an offset is read without sign; no global is imported by then that it could name

abbrev pub offset_of : Init → ℕ
offset_of (inits.Const (values.I32 n)) = n
offset_of (inits.Const (values.I64 n)) = n
offset_of (inits.Global i) = 0

abbrev pub least_size : Option Limits → ℕ
least_size None = 0
least_size (Some size) = size.min

abbrev pub page : ℕ
page = 65536

abbrev pub element_range_rule : PlainModule → Option PlainRefusal
element_range_rule m = first_refused (λ at e. unless (nat_le (offset_of e.offset + length e.funcs) (least_size (slice_get m.tables e.table))) (element_range at)) 0 m.elems

abbrev pub data_range_rule : PlainModule → Option PlainRefusal
data_range_rule m = first_refused (λ at s. unless (nat_le (offset_of s.offset + length s.bytes) (page * least_size (slice_get m.memories s.memory))) (data_range at)) 0 m.segs

-- ---- exports

abbrev pub is_exported : PlainModule → List ℕ → Bool
is_exported m name = list_any (λ e. bytes_eq e.name name) m.exports

abbrev pub export_missing_rule : PlainModule → Option PlainRefusal
export_missing_rule m = first_refused (λ at name. unless (is_exported m name) (export_missing name)) 0 wanted_exports

abbrev pub is_other_interface : PlainExport → Bool
is_other_interface e = starts_with nat_eq e.name (codes "interface_version_") && not (bytes_eq e.name (codes "interface_version_8"))

abbrev pub interface_twice_rule : PlainModule → Option PlainRefusal
interface_twice_rule m = unless (not (list_any is_other_interface m.exports)) interface_twice

abbrev pub ext_type : PlainModule → Ext → Option PlainFuncType
ext_type m (exts.Func i) = option_and_then (slice_get m.types) (slice_get (funcs_of m) i)
ext_type m _ = None

abbrev pub entry_refused : PlainModule → PlainExport → Option PlainFuncType → Option PlainRefusal
entry_refused m e None = None
entry_refused m e (Some t) = unless (are_same (ext_type m e.ext) (Some t)) (export_type e.name)

abbrev pub export_type_rule : PlainModule → Option PlainRefusal
export_type_rule m = first_refused (λ at e. entry_refused m e (type_named entry_points e.name)) 0 m.exports

abbrev pub required : List ℕ → Option (List ℕ)
required name = if starts_with nat_eq name (codes "requires_") then Some (drop 9 name) else None

abbrev pub capability_refused : List (List ℕ) → Option (List ℕ) → Option PlainRefusal
capability_refused caps None = None
capability_refused caps (Some name) = unless (list_any (λ cap. bytes_eq cap name) caps) (capability name)

abbrev pub capability_rule : List (List ℕ) → PlainModule → Option PlainRefusal
capability_rule caps m = first_refused (λ at e. capability_refused caps (required e.name)) 0 m.exports

-- ---- the gate

abbrev pub module_rules : List (List ℕ) → PlainModule → List (Option PlainRefusal)
module_rules caps m =
    invalid_rule m
    ∷ import_kind_rule m
    ∷ import_count_rule m
    ∷ import_unknown_rule m
    ∷ import_type_rule m
    ∷ memory_missing_rule m
    ∷ memory_max_rule m
    ∷ memory_initial_rule m
    ∷ table_no_max_rule m
    ∷ table_size_rule m
    ∷ element_range_rule m
    ∷ data_range_rule m
    ∷ export_missing_rule m
    ∷ interface_twice_rule m
    ∷ export_type_rule m
    ∷ capability_rule caps m
    ∷ []

abbrev pub reading_rules : List (List ℕ) → Reading PlainModule → Option PlainRefusal
reading_rules caps (Err broken) = Some (read broken.kind broken.at)
reading_rules caps (Ok x) = first_some (module_rules caps x.0)

-- the first rule that a code breaks under these capabilities, with its value, or none where the host takes it
unfoldable pub gate : List ℕ → List (List ℕ) → Option PlainRefusal
gate code caps = or_else (gzip_rule code) (or_else (size_rule code) (reading_rules caps (reading_of code)))
