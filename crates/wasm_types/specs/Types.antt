-- The parts that sections other than that of codes are made of (core 1.0, sections 5.3 and 5.5): types, imports, tables,
-- memories, globals, exports and segments.
use Rattle.std.specs.Prelude.{ℕ, zero, suc, ◌==◌, ◌||◌, nat_le, if◌then◌else◌, Bool, true, false, List, Option, Some, None, Result, Ok, Err}
use Rattle.std.specs.Str.{is_utf8}
use Rattle.wasm_types.specs.declared.kind.ReadKind.{ReadKind}
use Rattle.wasm_types.specs.declared.kind.ReadKind.TheVariants.{Name, Form, ValueType, Float, Results, Kind, Flag, Opcode}
use Rattle.wasm_types.specs.declared.value.ValType.{ValType}
use Rattle.wasm_types.specs.declared.value.ValType.TheVariants as val_types
use Rattle.wasm_types.specs.declared.value.Value.TheVariants as values
use Rattle.wasm_types.specs.declared.limits.Limits.{Limits}
use Rattle.wasm_types.specs.declared.import.Desc.{Desc}
use Rattle.wasm_types.specs.declared.import.Desc.TheVariants as descs
use Rattle.wasm_types.specs.declared.export.Ext.{Ext}
use Rattle.wasm_types.specs.declared.export.Ext.TheVariants as exts
use Rattle.wasm_types.specs.declared.global.Init.{Init}
use Rattle.wasm_types.specs.declared.global.Init.TheVariants as inits
use Rattle.wasm_types.specs.declared.global.GlobalVar.{GlobalVar}
use Rattle.wasm_types.specs.declared.sort.Sort.{Sort}
use Rattle.wasm_types.specs.declared.sort.Sort.TheVariants as sorts
use Rattle.wasm_types.specs.declared.opcode.ConstOp.{ConstOp}
use Rattle.wasm_types.specs.declared.opcode.ConstOp.TheVariants as consts
use Rattle.wasm_types.specs.declared.opcode.Shape.{Shape}
use Rattle.wasm_types.specs.declared.opcode.Shape.TheVariants as shapes
use Rattle.wasm_types.specs.Plain.{PlainFuncType, PlainImport, PlainExport, PlainElem, PlainSeg}
use Rattle.wasm_types.specs.Opcodes.{shape, const_op}
use Rattle.wasm_types.specs.Part.{Part, done, ◌>>=◌, judged, byte, marker, number, index, anything, vector, sized, byte_list}

-- a text in UTF-8
unfoldable pub text : Part (List ℕ)
text = sized (judged Name is_utf8 anything)

-- ---- types

abbrev pub val_type_of : ℕ → Result ValType ReadKind
val_type_of b =
    if b == 0x7F then Ok val_types.I32
    else (if b == 0x7E then Ok val_types.I64
    else (if b == 0x7C || b == 0x7D then Err Float else Err ValueType))

unfoldable pub val_type : Part ValType
val_type = byte val_type_of

-- none, or the one
abbrev pub so_many_results : ℕ → Part (Option ValType)
so_many_results zero = done None
so_many_results (suc n) = do
  t ← val_type
  done (Some t)

unfoldable pub result_type : Part (Option ValType)
result_type = do
  n ← judged Results (λ n. nat_le n 1) index
  so_many_results n

unfoldable pub func_type : Part PlainFuncType
func_type = do
  _ ← byte (marker 0x60 Form)
  params ← vector val_type
  result ← result_type
  done (record { params = params; result = result })

abbrev pub flag_of : ℕ → Result Bool ReadKind
flag_of b = if b == 0 then Ok false else (if b == 1 then Ok true else Err Flag)

unfoldable pub flag : Part Bool
flag = byte flag_of

abbrev pub limits_with : Bool → ℕ → Part Limits
limits_with false min = done (record { min = min; max = None })
limits_with true min = do
  max ← index
  done (record { min = min; max = Some max })

unfoldable pub limits : Part Limits
limits = do
  has_max ← flag
  min ← index
  limits_with has_max min

-- a table of functions
unfoldable pub table : Part Limits
table = do
  _ ← byte (marker 0x70 ValueType)
  limits

-- ---- imports and exports

abbrev pub sort_of : ℕ → Result Sort ReadKind
sort_of b =
    if b == 0 then Ok sorts.Func
    else (if b == 1 then Ok sorts.Table
    else (if b == 2 then Ok sorts.Memory
    else (if b == 3 then Ok sorts.Global else Err Kind)))

unfoldable pub global_desc : Part Desc
global_desc = do
  ty ← val_type
  mutable ← flag
  done (descs.Global ty mutable)

abbrev pub desc_of : Sort → Part Desc
desc_of sorts.Func = do
  ty ← index
  done (descs.Func ty)
desc_of sorts.Table = do
  size ← table
  done (descs.Table size)
desc_of sorts.Memory = do
  size ← limits
  done (descs.Memory size)
desc_of sorts.Global = global_desc

unfoldable pub desc : Part Desc
desc = do
  sort ← byte sort_of
  desc_of sort

unfoldable pub import_ : Part PlainImport
import_ = do
  from ← text
  name ← text
  what ← desc
  done (record { «module» = from; name = name; desc = what })

abbrev pub ext_of : Sort → ℕ → Ext
ext_of sorts.Func i = exts.Func i
ext_of sorts.Table i = exts.Table i
ext_of sorts.Memory i = exts.Memory i
ext_of sorts.Global i = exts.Global i

unfoldable pub ext : Part Ext
ext = do
  sort ← byte sort_of
  i ← index
  done (ext_of sort i)

unfoldable pub export_ : Part PlainExport
export_ = do
  name ← text
  what ← ext
  done (record { name = name; ext = what })

-- ---- constant expressions, globals and segments

abbrev pub end_by : Result Shape ReadKind → Result (Unit {0}) ReadKind
end_by (Ok shapes.End) = Ok tt
end_by (Ok _) = Err Opcode
end_by (Err why) = Err why

abbrev pub end_of : ℕ → Result (Unit {0}) ReadKind
end_of b = end_by (shape b)

abbrev pub const_operand : ConstOp → Part Init
const_operand consts.I32Const = do
  n ← number true 32
  done (inits.Const (values.I32 n))
const_operand consts.I64Const = do
  n ← number true 64
  done (inits.Const (values.I64 n))
const_operand consts.GlobalGet = do
  i ← index
  done (inits.Global i)

unfoldable pub const_value : Part Init
const_value = do
  op ← byte const_op
  const_operand op

unfoldable pub const_end : Part (Unit {0})
const_end = byte end_of

unfoldable pub init : Part Init
init = do
  value ← const_value
  _ ← const_end
  done value

unfoldable pub global : Part GlobalVar
global = do
  ty ← val_type
  mutable ← flag
  value ← init
  done (record { ty = ty; mutable = mutable; init = value })

unfoldable pub elem : Part PlainElem
elem = do
  table ← index
  offset ← init
  funcs ← vector index
  done (record { table = table; offset = offset; funcs = funcs })

unfoldable pub seg : Part PlainSeg
seg = do
  memory ← index
  offset ← init
  bytes ← byte_list
  done (record { memory = memory; offset = offset; bytes = bytes })
