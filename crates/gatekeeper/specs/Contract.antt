-- What an accepted code is, rule by rule. These facts follow from the gate's definition.
use Rattle.std.specs.Prelude.{◌≡◌, ℕ, ◌+◌, ◌*◌, ◌≤◌, nat_eq, false, List, [], ◌∷◌, length, slice_get, All, Any, IsSome, Some, None}
use Rattle.std.specs.List.{starts_with}
use Rattle.wasm_types.specs.declared.limits.Limits.{Limits}
use Rattle.wasm_types.specs.declared.import.Desc.TheVariants as descs
use Rattle.wasm_types.specs.Plain.{PlainFuncType, PlainImport, PlainExport, PlainElem, PlainSeg, PlainModule}
use Rattle.wasm_types.specs.ModuleText.{AreBytes, IsModule, HasSpelling, module_of}
use Rattle.wasm_types.specs.Validity.{valid_fault}
use Rattle.wasm_types.specs.Interface.{entry_points, wanted_exports, type_named}
use Rattle.wasm_types.specs.Gate.{gzip_head, most_bytes, most_imports, most_initial_pages, most_table_elements, page, wanted_type, desc_type, offset_of, least_size, is_other_interface, ext_type, required, gate}
use Rattle.gatekeeper.specs.Accepted.{IsAccepted, required_in}

abbrev pub IsFunction : PlainImport → Type 0
IsFunction i = (ty : ℕ) × (i.desc ≡ descs.Func ty)

-- it is of the type that the host's function of its names has
abbrev pub IsHostFunction : PlainModule → PlainImport → Type 0
IsHostFunction m i = (t : PlainFuncType) × (desc_type m i.desc ≡ Some t) × (wanted_type i ≡ Some t)

abbrev pub HasMax : ℕ → Limits → Type 0
HasMax most size = (max : ℕ) × (size.max ≡ Some max) × (max ≤ most)

abbrev pub ElementsFit : PlainModule → PlainElem → Type 0
ElementsFit m e = offset_of e.offset + length e.funcs ≤ least_size (slice_get m.tables e.table)

abbrev pub DataFits : PlainModule → PlainSeg → Type 0
DataFits m s = offset_of s.offset + length s.bytes ≤ page * least_size (slice_get m.memories s.memory)

abbrev pub IsExported : PlainModule → List ℕ → Type 0
IsExported m name = Any (λ (e : PlainExport). e.name ≡ name) m.exports

-- where the host calls exports of this name, it is a function of the type that the host calls
abbrev pub IsEntry : PlainModule → PlainExport → Type 0
IsEntry m e = (t : PlainFuncType) → type_named entry_points e.name ≡ Some t → ext_type m e.ext ≡ Some t

abbrev pub IsCapable : List (List ℕ) → PlainExport → Type 0
IsCapable caps e = (name : List ℕ) → required e.name ≡ Some name → Any (λ (cap : List ℕ). cap ≡ name) caps

-- the bytes are the code of this module, which a chain with these capabilities takes
pub record IsContract (caps : List (List ℕ)) (bytes : List ℕ) (m : PlainModule) : Type 0 where
  pub decoded : module_of bytes ≡ Some m
  pub spelled : AreBytes bytes → IsModule bytes m
  pub not_gzip : starts_with nat_eq bytes gzip_head ≡ false
  pub size : length bytes ≤ most_bytes
  pub valid : valid_fault m ≡ None
  pub imports_are_functions : All IsFunction m.imports
  pub few_imports : length m.imports ≤ most_imports
  pub imports_are_known : All (λ i. IsSome (wanted_type i)) m.imports
  pub imports_are_typed : All (IsHostFunction m) m.imports
  pub memory : (size : Limits) × (m.memories ≡ size ∷ [])
  pub memory_has_no_max : All (λ size. size.max ≡ None) m.memories
  pub memory_begins_small : All (λ size. size.min ≤ most_initial_pages) m.memories
  pub few_tables : length m.tables ≤ 1
  pub table_has_max : All (λ size. IsSome size.max) m.tables
  pub table_stays_small : All (HasMax most_table_elements) m.tables
  pub elements_fit : All (ElementsFit m) m.elems
  pub data_fits : All (DataFits m) m.segs
  pub wanted_are_exported : All (IsExported m) wanted_exports
  pub one_interface : All (λ e. is_other_interface e ≡ false) m.exports
  pub entries_are_typed : All (IsEntry m) m.exports
  pub capable : All (IsCapable caps) m.exports

-- what the gate takes under some capabilities is a contract under them
abbrev pub TakenIsContract : Type 0
TakenIsContract = (bytes : List ℕ) (caps : List (List ℕ)) → gate bytes caps ≡ None → (m : PlainModule) × IsContract caps bytes m

-- an accepted code is a contract under the capabilities that it requires itself
abbrev pub AcceptedIsContract : Type 0
AcceptedIsContract = (bytes : List ℕ) → IsAccepted bytes → (m : PlainModule) × IsContract (required_in (module_of bytes)) bytes m

-- the module that bytes spell has a spelling
abbrev pub DecodedIsSpelled : Type 0
DecodedIsSpelled = (bytes : List ℕ) (m : PlainModule) → AreBytes bytes → module_of bytes ≡ Some m → HasSpelling m
