-- What a module starts with (WebAssembly core 1.0, section 4.5.4), and what its functions are. Imports are functions, as in
-- each module that a host takes: nothing else is brought from outside.
use Rattle.std.specs.Prelude.{ℕ, ◌+◌, ◌-◌, nat_lt, nat_le, min, if◌then◌else◌, List, [], ◌∷◌, map, replicate, length, slice_get, slice_set, Option, Some, None}
use Rattle.linear_memory.specs.Numbers.{overwritten}
use Rattle.linear_memory.specs.Pages.{most_pages, zeros}
use Rattle.wasm_types.specs.declared.value.ValType.{ValType}
use Rattle.wasm_types.specs.declared.value.ValType.TheVariants as val_types
use Rattle.wasm_types.specs.declared.value.Value.{Value}
use Rattle.wasm_types.specs.declared.value.Value.TheVariants.{I32, I64}
use Rattle.wasm_types.specs.declared.limits.Limits.{Limits}
use Rattle.wasm_types.specs.declared.import.Desc.{Desc}
use Rattle.wasm_types.specs.declared.import.Desc.TheVariants as descs
use Rattle.wasm_types.specs.declared.global.Init.{Init}
use Rattle.wasm_types.specs.declared.global.Init.TheVariants as inits
use Rattle.wasm_types.specs.Plain.{PlainFuncType, PlainImport, PlainElem, PlainSeg, PlainCode, PlainModule}

-- ---- memory, globals and table

-- the value of an initialiser; no global is imported, so none starts with another's value
abbrev pub init_value : Init → Value
init_value (inits.Const v) = v
init_value (inits.Global i) = I32 0

-- an offset, read without sign
abbrev pub unsigned : Value → ℕ
unsigned (I32 n) = n
unsigned (I64 n) = n

abbrev pub offset_of : Init → ℕ
offset_of init = unsigned (init_value init)

abbrev pub first_pages : List Limits → ℕ
first_pages [] = 0
first_pages (l ∷ others) = min l.min most_pages

-- a segment is written where it fits
abbrev pub with_segment : List ℕ → PlainSeg → List ℕ
with_segment memory seg =
    if nat_le (offset_of seg.offset + length seg.bytes) (length memory) then overwritten memory (offset_of seg.offset) seg.bytes
    else memory

abbrev pub with_segments : List ℕ → List PlainSeg → List ℕ
with_segments memory [] = memory
with_segments memory (seg ∷ segs) = with_segments (with_segment memory seg) segs

unfoldable pub start_memory : PlainModule → List ℕ
start_memory m = with_segments (zeros (first_pages m.memories)) m.segs

unfoldable pub start_globals : PlainModule → List Value
start_globals m = map (λ g. init_value g.init) m.globals

-- functions in a table, one after the other from a place on
abbrev pub with_funcs : List (Option ℕ) → ℕ → List ℕ → List (Option ℕ)
with_funcs cells at [] = cells
with_funcs cells at (f ∷ funcs) = with_funcs (slice_set cells at (Some f)) (at + 1) funcs

abbrev pub with_elements : List (Option ℕ) → List PlainElem → List (Option ℕ)
with_elements cells [] = cells
with_elements cells (e ∷ elems) = with_elements (with_funcs cells (offset_of e.offset) e.funcs) elems

abbrev pub first_cells : List Limits → ℕ
first_cells [] = 0
first_cells (l ∷ others) = l.min

-- the functions in the table
unfoldable pub table : PlainModule → List (Option ℕ)
table m = with_elements (replicate (first_cells m.tables) None) m.elems

-- ---- functions, the imported ones counted first

abbrev pub imported : PlainModule → ℕ
imported m = length m.imports

abbrev pub desc_type : Desc → Option ℕ
desc_type (descs.Func t) = Some t
desc_type (descs.Table l) = None
desc_type (descs.Memory l) = None
desc_type (descs.Global t mutable) = None

abbrev pub import_type : Option PlainImport → Option ℕ
import_type None = None
import_type (Some i) = desc_type i.desc

abbrev pub type_at : PlainModule → Option ℕ → Option PlainFuncType
type_at m None = None
type_at m (Some t) = slice_get m.types t

-- the place of a function's type among the types
abbrev pub type_index : PlainModule → ℕ → Option ℕ
type_index m func =
    if nat_lt func (imported m) then import_type (slice_get m.imports func) else slice_get m.funcs (func - imported m)

-- the type of a function
unfoldable pub func_type : PlainModule → ℕ → Option PlainFuncType
func_type m func = type_at m (type_index m func)

-- the code of a function that isn't imported; a function that isn't there has none
abbrev pub no_code : PlainCode
no_code = record { locals = []; targets = []; body = [] }

abbrev pub code_or_none : Option PlainCode → PlainCode
code_or_none None = no_code
code_or_none (Some code) = code

unfoldable pub code_at : PlainModule → ℕ → PlainCode
code_at m i = code_or_none (slice_get m.codes i)

-- a declared local starts as zero
abbrev pub zero_of : ValType → Value
zero_of val_types.I32 = I32 0
zero_of val_types.I64 = I64 0
