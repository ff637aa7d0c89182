-- Which modules are valid (core 1.0, section 3.4), and the first fault of one that isn't. The parts are looked at in this order: imports,
-- functions' types, tables, memories, globals, exports, elements, bodies, data. An offset, as an initialiser, may name only a
-- global that is imported, which is this host's own rule.
use Rattle.std.specs.Prelude.{ℕ, ◌+◌, ◌==◌, ◌&&◌, not, nat_lt, nat_le, Bool, true, List, [], ◌∷◌, ◌++◌, map, length, zip, filter_map, slice_get, Option, Some, None, option_map, Result, Ok, Err}
use Rattle.std.specs.List.{list_all, list_any}
use Rattle.std.specs.Str.{bytes_eq}
use Rattle.wasm_types.specs.declared.kind.ValidKind.{ValidKind}
use Rattle.wasm_types.specs.declared.kind.ValidKind.TheVariants as kinds
use Rattle.wasm_types.specs.declared.value.ValType.{ValType}
use Rattle.wasm_types.specs.declared.value.ValType.TheVariants.{I32}
use Rattle.wasm_types.specs.declared.limits.Limits.{Limits}
use Rattle.wasm_types.specs.declared.import.Desc.{Desc}
use Rattle.wasm_types.specs.declared.import.Desc.TheVariants as descs
use Rattle.wasm_types.specs.declared.export.Ext.{Ext}
use Rattle.wasm_types.specs.declared.export.Ext.TheVariants as exts
use Rattle.wasm_types.specs.declared.global.Init.{Init}
use Rattle.wasm_types.specs.declared.global.Init.TheVariants as inits
use Rattle.wasm_types.specs.declared.global.GlobalVar.{GlobalVar}
use Rattle.wasm_types.specs.Plain.{PlainFuncType, PlainImport, PlainExport, PlainElem, PlainSeg, PlainCode, PlainModule}
use Rattle.wasm_types.specs.Typing.{◌>>=◌, found, needs, same_type, type_of, GlobalType, Context, or_else, body_fault}

-- ---- what stands where

-- `func` is the place of a body among the codes, and then `instr` that of an instruction in it; elsewhere `instr` is the place
-- of an item in its list
pub record Fault : Type 0 where
  pub func : Option ℕ
  pub instr : ℕ
  pub kind : ValidKind

abbrev pub func_in : Desc → Option ℕ
func_in (descs.Func ty) = Some ty
func_in _ = None

abbrev pub table_in : Desc → Option Limits
table_in (descs.Table size) = Some size
table_in _ = None

abbrev pub memory_in : Desc → Option Limits
memory_in (descs.Memory size) = Some size
memory_in _ = None

abbrev pub global_in : Desc → Option GlobalType
global_in (descs.Global ty mutable) = Some (record { ty = ty; mutable = mutable })
global_in _ = None

abbrev pub imported : {A : Type 0} → (Desc → Option A) → List PlainImport → List A
imported what imports = filter_map (λ i. what i.desc) imports

abbrev pub declared : GlobalVar → GlobalType
declared g = record { ty = g.ty; mutable = g.mutable }

-- the index spaces (core 1.0, section 2.5.1), in which the imported ones come first
abbrev pub funcs_of : PlainModule → List ℕ
funcs_of m = imported func_in m.imports ++ m.funcs

abbrev pub tables_of : PlainModule → List Limits
tables_of m = imported table_in m.imports ++ m.tables

abbrev pub memories_of : PlainModule → List Limits
memories_of m = imported memory_in m.imports ++ m.memories

abbrev pub globals_of : PlainModule → List GlobalType
globals_of m = imported global_in m.imports ++ map declared m.globals

-- ---- the parts

abbrev pub within : {A : Type 0} → ValidKind → ℕ → List A → Result (Unit {0}) ValidKind
within kind i items = needs kind (nat_lt i (length items))

abbrev pub max_kept : ℕ → ℕ → Option ℕ → Bool
max_kept most min None = true
max_kept most min (Some max) = nat_le min max && nat_le max most

abbrev pub limits_kept : ℕ → Limits → Bool
limits_kept most size = nat_le size.min most && max_kept most size.min size.max

abbrev pub most_elements : ℕ
most_elements = 4294967295

abbrev pub most_pages : ℕ
most_pages = 65536

abbrev pub only_one : {A : Type 0} → ValidKind → ℕ → List A → Limits → Result (Unit {0}) ValidKind
only_one kind most earlier size = do
  _ ← needs kind (length earlier == 0)
  needs kinds.Limits (limits_kept most size)

abbrev pub table_kept : List Limits → Limits → Result (Unit {0}) ValidKind
table_kept earlier size = only_one kinds.ManyTables most_elements earlier size

abbrev pub memory_kept : List Limits → Limits → Result (Unit {0}) ValidKind
memory_kept earlier size = only_one kinds.ManyMemories most_pages earlier size

abbrev pub desc_kept : PlainModule → List PlainImport → Desc → Result (Unit {0}) ValidKind
desc_kept m earlier (descs.Func ty) = within kinds.TypeIndex ty m.types
desc_kept m earlier (descs.Table size) = table_kept (imported table_in earlier) size
desc_kept m earlier (descs.Memory size) = memory_kept (imported memory_in earlier) size
desc_kept m earlier (descs.Global ty mutable) = Ok tt

-- an initialiser of this type: a constant, or an imported global that isn't mutable
abbrev pub init_kept : PlainModule → ValType → Init → Result (Unit {0}) ValidKind
init_kept m ty (inits.Const value) = needs kinds.Init (same_type ty (type_of value))
init_kept m ty (inits.Global i) = do
  g ← found kinds.GlobalIndex (slice_get (globals_of m) i)
  needs kinds.Init (nat_lt i (length (imported global_in m.imports)) && not g.mutable && same_type ty g.ty)

abbrev pub ext_kept : PlainModule → Ext → Result (Unit {0}) ValidKind
ext_kept m (exts.Func i) = within kinds.FuncIndex i (funcs_of m)
ext_kept m (exts.Table i) = within kinds.TableIndex i (tables_of m)
ext_kept m (exts.Memory i) = within kinds.MemoryIndex i (memories_of m)
ext_kept m (exts.Global i) = within kinds.GlobalIndex i (globals_of m)

abbrev pub export_kept : PlainModule → List PlainExport → PlainExport → Result (Unit {0}) ValidKind
export_kept m earlier e = do
  _ ← ext_kept m e.ext
  needs kinds.ExportTwice (not (list_any (λ other. bytes_eq other.name e.name) earlier))

abbrev pub elem_kept : PlainModule → PlainElem → Result (Unit {0}) ValidKind
elem_kept m e = do
  _ ← within kinds.TableIndex e.table (tables_of m)
  _ ← init_kept m I32 e.offset
  needs kinds.FuncIndex (list_all (λ f. nat_lt f (length (funcs_of m))) e.funcs)

abbrev pub seg_kept : PlainModule → PlainSeg → Result (Unit {0}) ValidKind
seg_kept m s = do
  _ ← within kinds.MemoryIndex s.memory (memories_of m)
  init_kept m I32 s.offset

-- ---- the first fault

abbrev pub fault_at : ℕ → Result (Unit {0}) ValidKind → Option Fault
fault_at at (Ok done) = None
fault_at at (Err kind) = Some (record { func = None; instr = at; kind = kind })

-- the first item that isn't as it has to be behind the items before it
unfoldable pub first_fault : {A : Type 0} → (List A → A → Result (Unit {0}) ValidKind) → List A → List A → Option Fault
first_fault kept earlier [] = None
first_fault kept earlier (x ∷ items) = or_else (fault_at (length earlier) (kept earlier x)) (first_fault kept (earlier ++ x ∷ []) items)

abbrev pub first_in : {A : Type 0} → (List A → A → Result (Unit {0}) ValidKind) → List A → Option Fault
first_in kept items = first_fault kept [] items

-- a body's locals are the parameters and those that it declares
abbrev pub context_of : PlainModule → PlainFuncType → PlainCode → Context
context_of m ty code = record {
  types = m.types;
  funcs = funcs_of m;
  tables = length (tables_of m);
  memories = length (memories_of m);
  globals = globals_of m;
  locals = ty.params ++ code.locals;
  result = ty.result;
  targets = code.targets;
}

abbrev pub in_func : ℕ → ℕ × ValidKind → Fault
in_func func f = record { func = Some func; instr = f.0; kind = f.1 }

abbrev pub typed_body_fault : PlainModule → PlainCode → Option PlainFuncType → Option (ℕ × ValidKind)
typed_body_fault m code None = Some (0, kinds.TypeIndex)
typed_body_fault m code (Some ty) = body_fault (context_of m ty code) code.body

-- the first fault of the bodies from this place on, each with its function's type
unfoldable pub bodies_fault : PlainModule → ℕ → List (ℕ × PlainCode) → Option Fault
bodies_fault m func [] = None
bodies_fault m func (b ∷ bodies) = or_else (option_map (in_func func) (typed_body_fault m b.1 (slice_get m.types b.0))) (bodies_fault m (func + 1) bodies)

-- the first fault of a module, or none where it is valid
unfoldable pub valid_fault : PlainModule → Option Fault
valid_fault m =
    or_else (first_in (λ earlier i. desc_kept m earlier i.desc) m.imports)
    (or_else (first_in (λ earlier ty. within kinds.TypeIndex ty m.types) m.funcs)
    (or_else (first_in (λ earlier size. table_kept (imported table_in m.imports ++ earlier) size) m.tables)
    (or_else (first_in (λ earlier size. memory_kept (imported memory_in m.imports ++ earlier) size) m.memories)
    (or_else (first_in (λ earlier g. init_kept m g.ty g.init) m.globals)
    (or_else (first_in (export_kept m) m.exports)
    (or_else (first_in (λ earlier e. elem_kept m e) m.elems)
    (or_else (bodies_fault m 0 (zip m.funcs m.codes))
    (first_in (λ earlier s. seg_kept m s) m.segs))))))))
