-- Modules and their parts as plain values: a list in place of each `Vec` and of each `String`, which stands as its bytes.
-- A type that has neither is its own plain form. Two values are equal where their plain forms are.
use Rattle.std.specs.Prelude.{ℕ, List, map, Option, string_bytes}
use Rattle.wasm_types.specs.declared.value.ValType.{ValType}
use Rattle.wasm_types.specs.declared.func_type.FuncType.{FuncType}
use Rattle.wasm_types.specs.declared.limits.Limits.{Limits}
use Rattle.wasm_types.specs.declared.import.Desc.{Desc}
use Rattle.wasm_types.specs.declared.import.Import.{Import}
use Rattle.wasm_types.specs.declared.export.Ext.{Ext}
use Rattle.wasm_types.specs.declared.export.Export.{Export}
use Rattle.wasm_types.specs.declared.global.Init.{Init}
use Rattle.wasm_types.specs.declared.global.GlobalVar.{GlobalVar}
use Rattle.wasm_types.specs.declared.segment.Elem.{Elem}
use Rattle.wasm_types.specs.declared.segment.Seg.{Seg}
use Rattle.wasm_types.specs.declared.instr.Instr.{Instr}
use Rattle.wasm_types.specs.declared.module.Code.{Code}
use Rattle.wasm_types.specs.declared.module.Module.{Module}
use Rattle.wasm_types.specs.declared.kind.ReadKind.{ReadKind}
use Rattle.wasm_types.specs.declared.kind.ValidKind.{ValidKind}
use Rattle.wasm_types.specs.declared.refusal.GateRefusal.{GateRefusal}
use Rattle.wasm_types.specs.declared.refusal.GateRefusal.TheVariants as refusals

pub record PlainFuncType : Type 0 where
  pub params : List ValType
  pub result : Option ValType

abbrev pub plain_func_type : FuncType → PlainFuncType
plain_func_type t = record { params = t.params.items; result = t.result }

pub record PlainImport : Type 0 where
  pub «module» : List ℕ
  pub name : List ℕ
  pub desc : Desc

abbrev pub plain_import : Import → PlainImport
plain_import i = record { «module» = string_bytes i.module; name = string_bytes i.name; desc = i.desc }

pub record PlainExport : Type 0 where
  pub name : List ℕ
  pub ext : Ext

abbrev pub plain_export : Export → PlainExport
plain_export e = record { name = string_bytes e.name; ext = e.ext }

pub record PlainElem : Type 0 where
  pub table : ℕ
  pub offset : Init
  pub funcs : List ℕ

abbrev pub plain_elem : Elem → PlainElem
plain_elem e = record { table = e.table; offset = e.offset; funcs = e.funcs.items }

pub record PlainSeg : Type 0 where
  pub memory : ℕ
  pub offset : Init
  pub bytes : List ℕ

abbrev pub plain_seg : Seg → PlainSeg
plain_seg s = record { memory = s.memory; offset = s.offset; bytes = s.bytes.items }

pub record PlainCode : Type 0 where
  pub locals : List ValType
  pub targets : List ℕ
  pub body : List Instr

abbrev pub plain_code : Code → PlainCode
plain_code c = record { locals = c.locals.items; targets = c.targets.items; body = c.body.items }

pub record PlainModule : Type 0 where
  pub types : List PlainFuncType
  pub imports : List PlainImport
  pub funcs : List ℕ
  pub tables : List Limits
  pub memories : List Limits
  pub globals : List GlobalVar
  pub exports : List PlainExport
  pub elems : List PlainElem
  pub codes : List PlainCode
  pub segs : List PlainSeg

abbrev pub plain_module : Module → PlainModule
plain_module m = record {
  types = map plain_func_type m.types.items;
  imports = map plain_import m.imports.items;
  funcs = m.funcs.items;
  tables = m.tables.items;
  memories = m.memories.items;
  globals = m.globals.items;
  exports = map plain_export m.exports.items;
  elems = map plain_elem m.elems.items;
  codes = map plain_code m.codes.items;
  segs = map plain_seg m.segs.items;
}

pub data PlainRefusal : Type 0 where
  gzip : PlainRefusal
  too_large : ℕ → PlainRefusal
  read : ReadKind → ℕ → PlainRefusal
  invalid : ValidKind → PlainRefusal
  import_kind : ℕ → PlainRefusal
  import_count : ℕ → PlainRefusal
  import_unknown : ℕ → PlainRefusal
  import_type : ℕ → PlainRefusal
  memory_missing : PlainRefusal
  memory_max : PlainRefusal
  memory_initial : ℕ → PlainRefusal
  table_no_max : PlainRefusal
  table_size : ℕ → PlainRefusal
  element_range : ℕ → PlainRefusal
  data_range : ℕ → PlainRefusal
  export_missing : List ℕ → PlainRefusal
  interface_twice : PlainRefusal
  export_type : List ℕ → PlainRefusal
  capability : List ℕ → PlainRefusal

abbrev pub plain_refusal : GateRefusal → PlainRefusal
plain_refusal refusals.Gzip = gzip
plain_refusal (refusals.TooLarge n) = too_large n
plain_refusal (refusals.Read k at) = read k at
plain_refusal (refusals.Invalid k) = invalid k
plain_refusal (refusals.ImportKind i) = import_kind i
plain_refusal (refusals.ImportCount n) = import_count n
plain_refusal (refusals.ImportUnknown i) = import_unknown i
plain_refusal (refusals.ImportType i) = import_type i
plain_refusal refusals.MemoryMissing = memory_missing
plain_refusal refusals.MemoryMax = memory_max
plain_refusal (refusals.MemoryInitial n) = memory_initial n
plain_refusal refusals.TableNoMax = table_no_max
plain_refusal (refusals.TableSize n) = table_size n
plain_refusal (refusals.ElementRange i) = element_range i
plain_refusal (refusals.DataRange i) = data_range i
plain_refusal (refusals.ExportMissing name) = export_missing (string_bytes name)
plain_refusal refusals.InterfaceTwice = interface_twice
plain_refusal (refusals.ExportType name) = export_type (string_bytes name)
plain_refusal (refusals.Capability name) = capability (string_bytes name)
