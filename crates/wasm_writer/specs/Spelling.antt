-- The shortest spelling of a module, part by part (core 1.0, chapter 5): each number is as short as it can be, each run of
-- locals of one type is one group, and a section without items is left out, as are custom sections.
use Rattle.std.specs.Prelude.{ℕ, ◌+◌, if◌then◌else◌, Bool, true, false, List, [], ◌∷◌, ◌++◌, length, take, drop, Option, Some, None, is_some, Result, Ok}
use Rattle.std.specs.List.{flat_map}
use Rattle.wasm_types.specs.declared.kind.ReadKind.{ReadKind}
use Rattle.wasm_types.specs.declared.value.ValType.{ValType}
use Rattle.wasm_types.specs.declared.value.ValType.TheVariants as val_types
use Rattle.wasm_types.specs.declared.value.Value.{Value}
use Rattle.wasm_types.specs.declared.value.Value.TheVariants as values
use Rattle.wasm_types.specs.declared.limits.Limits.{Limits}
use Rattle.wasm_types.specs.declared.import.Desc.{Desc}
use Rattle.wasm_types.specs.declared.import.Desc.TheVariants as descs
use Rattle.wasm_types.specs.declared.export.Ext.{Ext}
use Rattle.wasm_types.specs.declared.export.Ext.TheVariants as exts
use Rattle.wasm_types.specs.declared.global.Init.{Init}
use Rattle.wasm_types.specs.declared.global.Init.TheVariants as inits
use Rattle.wasm_types.specs.declared.global.GlobalVar.{GlobalVar}
use Rattle.wasm_types.specs.declared.opcode.Shape.{Shape}
use Rattle.wasm_types.specs.declared.opcode.Shape.TheVariants as shapes
use Rattle.wasm_types.specs.declared.instr.Instr.{Instr}
use Rattle.wasm_types.specs.declared.instr.Instr.TheVariants.{Op, Index, CallIndirect, BrTable, Mem, Const, Block, Loop, If, Else, End}
use Rattle.wasm_types.specs.Opcodes.{shape}
use Rattle.wasm_types.specs.Plain.{PlainFuncType, PlainImport, PlainExport, PlainElem, PlainSeg, PlainCode, PlainModule}
use Rattle.wasm_types.specs.ModuleText.{header}
use Rattle.wasm_writer.specs.declared.locals.Run.{Run}
use Rattle.wasm_writer.specs.ShortNumber.{unsigned, signed_32, signed_64}

-- ---- lists, and parts that say how long they are

-- the number of items, and the items
unfoldable pub vector_text : {A : Type 0} → (A → List ℕ) → List A → List ℕ
vector_text text items = unsigned (length items) ++ flat_map text items

-- bytes behind their number
unfoldable pub sized_text : List ℕ → List ℕ
sized_text bytes = unsigned (length bytes) ++ bytes

-- ---- types

abbrev pub val_type_byte : ValType → ℕ
val_type_byte val_types.I32 = 0x7F
val_type_byte val_types.I64 = 0x7E

abbrev pub val_type_text : ValType → List ℕ
val_type_text t = val_type_byte t ∷ []

abbrev pub result_text : Option ValType → List ℕ
result_text None = unsigned 0
result_text (Some t) = unsigned 1 ++ val_type_text t

abbrev pub func_type_text : PlainFuncType → List ℕ
func_type_text t = 0x60 ∷ (vector_text val_type_text t.params ++ result_text t.result)

abbrev pub flag_byte : Bool → ℕ
flag_byte false = 0
flag_byte true = 1

abbrev pub max_text : Option ℕ → List ℕ
max_text None = []
max_text (Some n) = unsigned n

abbrev pub limits_text : Limits → List ℕ
limits_text l = flag_byte (is_some l.max) ∷ (unsigned l.min ++ max_text l.max)

abbrev pub table_text : Limits → List ℕ
table_text l = 0x70 ∷ limits_text l

-- ---- imports and exports

abbrev pub desc_text : Desc → List ℕ
desc_text (descs.Func ty) = 0 ∷ unsigned ty
desc_text (descs.Table size) = 1 ∷ table_text size
desc_text (descs.Memory size) = 2 ∷ limits_text size
desc_text (descs.Global ty mutable) = 3 ∷ val_type_byte ty ∷ flag_byte mutable ∷ []

abbrev pub import_text : PlainImport → List ℕ
import_text i = sized_text i.module ++ (sized_text i.name ++ desc_text i.desc)

abbrev pub ext_text : Ext → List ℕ
ext_text (exts.Func i) = 0 ∷ unsigned i
ext_text (exts.Table i) = 1 ∷ unsigned i
ext_text (exts.Memory i) = 2 ∷ unsigned i
ext_text (exts.Global i) = 3 ∷ unsigned i

abbrev pub export_text : PlainExport → List ℕ
export_text e = sized_text e.name ++ ext_text e.ext

-- ---- constant expressions, globals and segments

abbrev pub value_text : Value → List ℕ
value_text (values.I32 n) = 0x41 ∷ signed_32 n
value_text (values.I64 n) = 0x42 ∷ signed_64 n

abbrev pub init_value_text : Init → List ℕ
init_value_text (inits.Const v) = value_text v
init_value_text (inits.Global i) = 0x23 ∷ unsigned i

abbrev pub init_text : Init → List ℕ
init_text i = init_value_text i ++ 0x0B ∷ []

abbrev pub global_text : GlobalVar → List ℕ
global_text g = val_type_byte g.ty ∷ flag_byte g.mutable ∷ init_text g.init

abbrev pub elem_text : PlainElem → List ℕ
elem_text e = unsigned e.table ++ (init_text e.offset ++ vector_text unsigned e.funcs)

abbrev pub seg_text : PlainSeg → List ℕ
seg_text s = unsigned s.memory ++ (init_text s.offset ++ sized_text s.bytes)

-- ---- codes

abbrev pub same_type : ValType → ValType → Bool
same_type val_types.I32 val_types.I32 = true
same_type val_types.I64 val_types.I64 = true
same_type _ _ = false

abbrev pub with_first : ValType → List Run → List Run
with_first t [] = record { count = 1; ty = t } ∷ []
with_first t (r ∷ rest) = if same_type t r.ty then record { count = r.count + 1; ty = t } ∷ rest else record { count = 1; ty = t } ∷ (r ∷ rest)

-- the runs of neighbours of one type
abbrev pub runs : List ValType → List Run
runs [] = []
runs (t ∷ types) = with_first t (runs types)

-- how many types at the front are this one
abbrev pub front_len : ValType → List ValType → ℕ
front_len t [] = 0
front_len t (u ∷ types) = if same_type t u then front_len t types + 1 else 0

abbrev pub run_text : Run → List ℕ
run_text r = unsigned r.count ++ val_type_text r.ty

abbrev pub locals_text : List ValType → List ℕ
locals_text types = vector_text run_text (runs types)

abbrev pub block_type_text : Option ValType → List ℕ
block_type_text None = 0x40 ∷ []
block_type_text (Some t) = val_type_text t

-- memory.size and memory.grow have a byte 0
abbrev pub reserved_text : Result Shape ReadKind → List ℕ
reserved_text (Ok shapes.Reserved) = 0 ∷ []
reserved_text _ = []

-- an instruction, where the labels of all `br_table`s of its body are these. The places of `end` and `else` aren't spelled.
abbrev pub instr_text : List ℕ → Instr → List ℕ
instr_text targets (Op op) = op ∷ reserved_text (shape op)
instr_text targets (Index op i) = op ∷ unsigned i
instr_text targets (CallIndirect ty) = 0x11 ∷ (unsigned ty ++ 0 ∷ [])
instr_text targets (BrTable first count default) = 0x0E ∷ (vector_text unsigned (take count (drop first targets)) ++ unsigned default)
instr_text targets (Mem op align offset) = op ∷ (unsigned align ++ unsigned offset)
instr_text targets (Const v) = value_text v
instr_text targets (Block t end) = 0x02 ∷ block_type_text t
instr_text targets (Loop t end) = 0x03 ∷ block_type_text t
instr_text targets (If t els end) = 0x04 ∷ block_type_text t
instr_text targets (Else end) = 0x05 ∷ []
instr_text targets End = 0x0B ∷ []

abbrev pub body_text : List ℕ → List Instr → List ℕ
body_text targets instrs = flat_map (instr_text targets) instrs

abbrev pub code_text : PlainCode → List ℕ
code_text c = sized_text (locals_text c.locals ++ body_text c.targets c.body)

-- ---- sections and the module

abbrev pub section_text : {A : Type 0} → ℕ → (A → List ℕ) → List A → List ℕ
section_text k text [] = []
section_text k text (a ∷ items) = k ∷ sized_text (vector_text text (a ∷ items))

unfoldable pub spelling_of : PlainModule → List ℕ
spelling_of m =
    header
    ++ (section_text 1 func_type_text m.types
    ++ (section_text 2 import_text m.imports
    ++ (section_text 3 unsigned m.funcs
    ++ (section_text 4 table_text m.tables
    ++ (section_text 5 limits_text m.memories
    ++ (section_text 6 global_text m.globals
    ++ (section_text 7 export_text m.exports
    ++ (section_text 9 elem_text m.elems
    ++ (section_text 10 code_text m.codes
    ++ section_text 11 seg_text m.segs)))))))))
