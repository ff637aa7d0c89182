-- The parts of a module other than codes, as a module file has them: each field in its order. A type with variants begins with a
-- byte, the variant's place in the type; its two sides stand beside one another.
use Rattle.std.specs.Prelude.{ℕ, ◌==◌, if◌then◌else◌, Bool, true, false, List, [], ◌∷◌, Option, Some, None}
use Rattle.wasm_types.specs.declared.value.ValType.{ValType}
use Rattle.wasm_types.specs.declared.value.ValType.TheVariants as val_types
use Rattle.wasm_types.specs.declared.value.Value.{Value}
use Rattle.wasm_types.specs.declared.value.Value.TheVariants as values
use Rattle.wasm_types.specs.declared.limits.Limits.{Limits}
use Rattle.wasm_types.specs.declared.import.Desc.{Desc}
use Rattle.wasm_types.specs.declared.import.Desc.TheVariants as descs
use Rattle.wasm_types.specs.declared.export.Ext.{Ext}
use Rattle.wasm_types.specs.declared.export.Ext.TheVariants as exts
use Rattle.wasm_types.specs.declared.global.Init.{Init}
use Rattle.wasm_types.specs.declared.global.Init.TheVariants as inits
use Rattle.wasm_types.specs.declared.global.GlobalVar.{GlobalVar}
use Rattle.wasm_types.specs.Plain.{PlainFuncType, PlainImport, PlainExport, PlainElem, PlainSeg}
use Rattle.module_file.specs.Form.{Reading, Form, form_of, field, done, ◌>>=◌, pair, read_as, byte, index, long, byte_list, utf8, list, optional}

-- a byte, and what is read behind it
abbrev pub tagged : {A : Type 0} → (ℕ → List ℕ → Reading A) → List ℕ → Reading A
tagged read [] = None
tagged read (tag ∷ bytes) = read tag bytes

-- ---- types

abbrev pub val_type_byte : ValType → ℕ
val_type_byte val_types.I32 = 0x7F
val_type_byte val_types.I64 = 0x7E

abbrev pub val_type_of : ℕ → Option ValType
val_type_of b = if b == 0x7F then Some val_types.I32 else (if b == 0x7E then Some val_types.I64 else None)

unfoldable pub val_type : Form ValType
val_type = byte val_type_byte val_type_of

abbrev pub flag_byte : Bool → ℕ
flag_byte false = 0
flag_byte true = 1

abbrev pub flag_of : ℕ → Option Bool
flag_of b = if b == 0 then Some false else (if b == 1 then Some true else None)

unfoldable pub flag : Form Bool
flag = byte flag_byte flag_of

unfoldable pub func_type : Form PlainFuncType
func_type = do
  params ← field (λ (t : PlainFuncType). t.params) (list val_type)
  result ← field (λ (t : PlainFuncType). t.result) (optional val_type)
  done (record { params = params; result = result })

unfoldable pub limits : Form Limits
limits = do
  min ← field (λ (l : Limits). l.min) index
  max ← field (λ (l : Limits). l.max) (optional index)
  done (record { min = min; max = max })

-- ---- imports and exports

-- a type, and whether it may be set
abbrev pub global_type : Form (ValType × Bool)
global_type = pair val_type flag

abbrev pub desc_text : Desc → List ℕ
desc_text (descs.Func ty) = 0 ∷ index.text ty
desc_text (descs.Table size) = 1 ∷ limits.text size
desc_text (descs.Memory size) = 2 ∷ limits.text size
desc_text (descs.Global ty mutable) = 3 ∷ global_type.text (ty, mutable)

abbrev pub desc_read : ℕ → List ℕ → Reading Desc
desc_read tag bytes =
    if tag == 0 then read_as index descs.Func bytes
    else (if tag == 1 then read_as limits descs.Table bytes
    else (if tag == 2 then read_as limits descs.Memory bytes
    else (if tag == 3 then read_as global_type (λ x. descs.Global x.0 x.1) bytes
    else None)))

unfoldable pub desc : Form Desc
desc = form_of desc_text (tagged desc_read)

unfoldable pub import_ : Form PlainImport
import_ = do
  from ← field (λ (i : PlainImport). i.module) utf8
  name ← field (λ (i : PlainImport). i.name) utf8
  what ← field (λ (i : PlainImport). i.desc) desc
  done (record { «module» = from; name = name; desc = what })

abbrev pub ext_text : Ext → List ℕ
ext_text (exts.Func i) = 0 ∷ index.text i
ext_text (exts.Table i) = 1 ∷ index.text i
ext_text (exts.Memory i) = 2 ∷ index.text i
ext_text (exts.Global i) = 3 ∷ index.text i

abbrev pub ext_read : ℕ → List ℕ → Reading Ext
ext_read tag bytes =
    if tag == 0 then read_as index exts.Func bytes
    else (if tag == 1 then read_as index exts.Table bytes
    else (if tag == 2 then read_as index exts.Memory bytes
    else (if tag == 3 then read_as index exts.Global bytes
    else None)))

unfoldable pub ext : Form Ext
ext = form_of ext_text (tagged ext_read)

unfoldable pub export_ : Form PlainExport
export_ = do
  name ← field (λ (e : PlainExport). e.name) utf8
  what ← field (λ (e : PlainExport). e.ext) ext
  done (record { name = name; ext = what })

-- ---- constant expressions, globals and segments

abbrev pub value_text : Value → List ℕ
value_text (values.I32 n) = 0 ∷ index.text n
value_text (values.I64 n) = 1 ∷ long.text n

abbrev pub value_read : ℕ → List ℕ → Reading Value
value_read tag bytes =
    if tag == 0 then read_as index values.I32 bytes
    else (if tag == 1 then read_as long values.I64 bytes
    else None)

unfoldable pub value : Form Value
value = form_of value_text (tagged value_read)

abbrev pub init_text : Init → List ℕ
init_text (inits.Const v) = 0 ∷ value.text v
init_text (inits.Global i) = 1 ∷ index.text i

abbrev pub init_read : ℕ → List ℕ → Reading Init
init_read tag bytes =
    if tag == 0 then read_as value inits.Const bytes
    else (if tag == 1 then read_as index inits.Global bytes
    else None)

unfoldable pub init : Form Init
init = form_of init_text (tagged init_read)

unfoldable pub global : Form GlobalVar
global = do
  ty ← field (λ (g : GlobalVar). g.ty) val_type
  mutable ← field (λ (g : GlobalVar). g.mutable) flag
  first ← field (λ (g : GlobalVar). g.init) init
  done (record { ty = ty; mutable = mutable; init = first })

unfoldable pub elem : Form PlainElem
elem = do
  table ← field (λ (e : PlainElem). e.table) index
  offset ← field (λ (e : PlainElem). e.offset) init
  funcs ← field (λ (e : PlainElem). e.funcs) (list index)
  done (record { table = table; offset = offset; funcs = funcs })

unfoldable pub seg : Form PlainSeg
seg = do
  memory ← field (λ (s : PlainSeg). s.memory) index
  offset ← field (λ (s : PlainSeg). s.offset) init
  bytes ← field (λ (s : PlainSeg). s.bytes) byte_list
  done (record { memory = memory; offset = offset; bytes = bytes })
