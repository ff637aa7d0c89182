-- What a module that bytes spell keeps to: each list and each text has fewer than 2^32 items, a text is UTF-8, each number fits
-- its bits, each instruction has an opcode of its own form, and its labels and places are there. A writer of another format
-- can give each count and index 32 bits, and read all of them back.
use Rattle.std.specs.Prelude.{◌≡◌, ℕ, ◌+◌, ◌^◌, ◌<◌, ◌≤◌, ◌⊎◌, true, List, length, All, Ok, IfSome}
use Rattle.std.specs.Str.{is_utf8}
use Rattle.wasm_types.specs.declared.value.Value.{Value}
use Rattle.wasm_types.specs.declared.value.Value.TheVariants as values
use Rattle.wasm_types.specs.declared.limits.Limits.{Limits}
use Rattle.wasm_types.specs.declared.import.Desc.{Desc}
use Rattle.wasm_types.specs.declared.import.Desc.TheVariants as descs
use Rattle.wasm_types.specs.declared.export.Ext.{Ext}
use Rattle.wasm_types.specs.declared.export.Ext.TheVariants as exts
use Rattle.wasm_types.specs.declared.global.Init.{Init}
use Rattle.wasm_types.specs.declared.global.Init.TheVariants as inits
use Rattle.wasm_types.specs.declared.global.GlobalVar.{GlobalVar}
use Rattle.wasm_types.specs.declared.opcode.Shape.{Shape}
use Rattle.wasm_types.specs.declared.opcode.Shape.TheVariants as shapes
use Rattle.wasm_types.specs.declared.instr.Instr.{Instr}
use Rattle.wasm_types.specs.declared.instr.Instr.TheVariants.{Op, Index, CallIndirect, BrTable, Mem, Const, Block, Loop, If, Else, End}
use Rattle.wasm_types.specs.Plain.{PlainFuncType, PlainImport, PlainExport, PlainElem, PlainSeg, PlainCode, PlainModule}
use Rattle.wasm_types.specs.Opcodes.{shape}
use Rattle.wasm_types.specs.Body.{max_locals}
use Rattle.wasm_types.specs.ModuleText.{AreBytes, HasSpelling}
use Rattle.wasm_types.specs.Laws.{AreFew}

-- ---- numbers, lists and texts

abbrev pub IsIndex : ℕ → Type 0
IsIndex n = n < 2 ^ 32

abbrev pub IsByte : ℕ → Type 0
IsByte b = b < 256

-- fewer than 2^32 items, each of the kind
pub record AreFewOf {A : Type 0} (IsItem : A → Type 0) (items : List A) : Type 0 where
  pub few : AreFew items
  pub each : All IsItem items

pub record IsText (text : List ℕ) : Type 0 where
  pub few : AreFew text
  pub bytes : AreBytes text
  pub utf8 : is_utf8 text ≡ true

abbrev pub IsValue : Value → Type 0
IsValue (values.I32 n) = n < 2 ^ 32
IsValue (values.I64 n) = n < 2 ^ 64

-- ---- the parts of sections

pub record IsFuncType (t : PlainFuncType) : Type 0 where
  pub params : AreFew t.params

pub record IsLimits (l : Limits) : Type 0 where
  pub min : IsIndex l.min
  pub max : IfSome l.max IsIndex

abbrev pub IsDesc : Desc → Type 0
IsDesc (descs.Func ty) = IsIndex ty
IsDesc (descs.Table size) = IsLimits size
IsDesc (descs.Memory size) = IsLimits size
IsDesc (descs.Global ty mutable) = Unit {0}

pub record IsImport (i : PlainImport) : Type 0 where
  pub from : IsText i.module
  pub name : IsText i.name
  pub desc : IsDesc i.desc

abbrev pub IsExt : Ext → Type 0
IsExt (exts.Func i) = IsIndex i
IsExt (exts.Table i) = IsIndex i
IsExt (exts.Memory i) = IsIndex i
IsExt (exts.Global i) = IsIndex i

pub record IsExport (e : PlainExport) : Type 0 where
  pub name : IsText e.name
  pub ext : IsExt e.ext

abbrev pub IsInit : Init → Type 0
IsInit (inits.Const v) = IsValue v
IsInit (inits.Global i) = IsIndex i

pub record IsGlobal (g : GlobalVar) : Type 0 where
  pub init : IsInit g.init

pub record IsElem (e : PlainElem) : Type 0 where
  pub table : IsIndex e.table
  pub offset : IsInit e.offset
  pub funcs : AreFewOf IsIndex e.funcs

pub record IsSeg (s : PlainSeg) : Type 0 where
  pub memory : IsIndex s.memory
  pub offset : IsInit s.offset
  pub bytes : AreFewOf IsByte s.bytes

-- ---- codes

-- a byte that is an opcode of this shape
pub record IsOpcode (s : Shape) (op : ℕ) : Type 0 where
  pub byte : IsByte op
  pub known : shape op ≡ Ok s

-- an instruction of a code with so many targets and so many instructions
abbrev pub IsInstr : ℕ → ℕ → Instr → Type 0
IsInstr targets places (Op op) = IsOpcode shapes.Plain op ⊎ IsOpcode shapes.Reserved op
IsInstr targets places (Index op i) = IsOpcode shapes.Index op × IsIndex i
IsInstr targets places (CallIndirect ty) = IsIndex ty
IsInstr targets places (BrTable first count default) = (first + count ≤ targets) × IsIndex default
IsInstr targets places (Mem op align offset) = IsOpcode shapes.Memory op × IsIndex align × IsIndex offset
IsInstr targets places (Const v) = IsValue v
IsInstr targets places (Block t end) = end < places
IsInstr targets places (Loop t end) = end < places
IsInstr targets places (If t els end) = IfSome els (λ at. at < places) × (end < places)
IsInstr targets places (Else end) = end < places
IsInstr targets places End = Unit {0}

pub record IsCode (c : PlainCode) : Type 0 where
  pub locals : length c.locals ≤ max_locals
  pub targets : AreFewOf IsIndex c.targets
  pub body : AreFewOf (IsInstr (length c.targets) (length c.body)) c.body

-- ---- modules

pub record IsBounded (m : PlainModule) : Type 0 where
  pub types : AreFewOf IsFuncType m.types
  pub imports : AreFewOf IsImport m.imports
  pub funcs : AreFewOf IsIndex m.funcs
  pub tables : AreFewOf IsLimits m.tables
  pub memories : AreFewOf IsLimits m.memories
  pub globals : AreFewOf IsGlobal m.globals
  pub exports : AreFewOf IsExport m.exports
  pub elems : AreFewOf IsElem m.elems
  pub codes : AreFewOf IsCode m.codes
  pub segs : AreFewOf IsSeg m.segs

abbrev pub SpelledAreBounded : Type 0
SpelledAreBounded = (m : PlainModule) → HasSpelling m → IsBounded m
