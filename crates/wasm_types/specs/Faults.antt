-- Laws of faults. A fault is that of the first part that can't be read, from the front of the bytes, and stands at that part's first byte;
-- what each part breaks with, at other bytes than its own.
use Rattle.std.specs.Prelude.{◌≡◌, ◌≢◌, ℕ, ◌+◌, ◌<◌, ◌≤◌, ◌↔◌, ◌⊎◌, Bool, false, List, ◌∷◌, ◌++◌, length, take, Some, Ok, Err}
use Rattle.std.specs.Str.{is_utf8}
use Rattle.wasm_types.specs.declared.kind.ReadKind.{ReadKind}
use Rattle.wasm_types.specs.declared.kind.ReadKind.TheVariants.{Cut, Magic, Section, Start, Name, Form, ValueType, Float, Results, Kind, Flag, Reserved, Opcode, Nesting, Locals}
use Rattle.wasm_types.specs.Place.{Place, Broken, Reading, breaks}
use Rattle.wasm_types.specs.Opcodes.{shape, const_op}
use Rattle.wasm_types.specs.Part.{IsFrontOf, index}
use Rattle.wasm_types.specs.Types.{text, val_type, result_type, func_type, flag, table, desc, ext, const_value, const_end}
use Rattle.wasm_types.specs.Body.{max_locals, group, opcode, block_type, reserved}
use Rattle.wasm_types.specs.ModuleText.{header, input_end, broken, BreaksThere}

-- bytes break where, and as, the first part does that can't be read
abbrev pub BreakAtFirstPart : Type 0
BreakAtFirstPart = (bytes : List ℕ) (fault : Broken) → (broken bytes ≡ Some fault) ↔ BreaksThere bytes fault

-- a fault stands at a byte, or at the end of the input
abbrev pub BreakWithin : Type 0
BreakWithin = (bytes : List ℕ) (fault : Broken) → broken bytes ≡ Some fault → fault.at ≤ length bytes

-- ---- what a part breaks with

-- reading this from the place of the first of these bytes breaks there, with this kind
abbrev pub BreaksWith : {A : Type 0} → (Place → Reading A) → ReadKind → ℕ → List ℕ → Type 0
BreaksWith read kind at bytes = read (record { at = at; rest = bytes }) ≡ breaks at kind

pub record HeaderFaults : Type 0 where
  pub cut : (bytes more : List ℕ) → 0 < length more → header ≡ bytes ++ more → broken bytes ≡ Some (record { at = 0; kind = Cut })
  pub other : (bytes : List ℕ) → (IsFrontOf header bytes → ⊥) → (IsFrontOf bytes header → ⊥) → broken bytes ≡ Some (record { at = 0; kind = Magic })

abbrev pub IsFloatType : ℕ → Type 0
IsFloatType b = (b ≡ 0x7C) ⊎ (b ≡ 0x7D)

abbrev pub IsNoType : ℕ → Type 0
IsNoType b = (b ≢ 0x7F) × (b ≢ 0x7E) × (b ≢ 0x7C) × (b ≢ 0x7D)

pub record TypeFaults : Type 0 where
  pub form : (at b : ℕ) (bytes : List ℕ) → b ≢ 0x60 → BreaksWith func_type.read Form at (b ∷ bytes)
  pub no_type : (at b : ℕ) (bytes : List ℕ) → IsNoType b → BreaksWith val_type.read ValueType at (b ∷ bytes)
  pub float_type : (at b : ℕ) (bytes : List ℕ) → IsFloatType b → BreaksWith val_type.read Float at (b ∷ bytes)
  pub results : (start after : Place) (n : ℕ) → index.read start ≡ Ok (n, after) → 1 < n → result_type.read start ≡ breaks start.at Results
  pub table_type : (at b : ℕ) (bytes : List ℕ) → b ≢ 0x70 → BreaksWith table.read ValueType at (b ∷ bytes)
  pub no_flag : (at b : ℕ) (bytes : List ℕ) → 1 < b → BreaksWith flag.read Flag at (b ∷ bytes)
  pub import_sort : (at b : ℕ) (bytes : List ℕ) → 3 < b → BreaksWith desc.read Kind at (b ∷ bytes)
  pub export_sort : (at b : ℕ) (bytes : List ℕ) → 3 < b → BreaksWith ext.read Kind at (b ∷ bytes)
  -- at the first byte of the whole text, behind its length
  pub name : (start from : Place) (n : ℕ) → index.read start ≡ Ok (n, from) → n ≤ length from.rest → is_utf8 (take n from.rest) ≡ false → text.read start ≡ breaks from.at Name

pub record CodeFaults : Type 0 where
  -- at the number of the group that passes the limit, before its type is looked at
  pub locals : (before n : ℕ) (start after : Place) → index.read start ≡ Ok (n, after) → max_locals < before + n → (group before).read start ≡ breaks start.at Locals
  pub no_opcode : (may_else : Bool) (at b : ℕ) (bytes : List ℕ) (why : ReadKind) → shape b ≡ Err why → BreaksWith (opcode may_else).read why at (b ∷ bytes)
  -- an `else` without `if`
  pub nesting : (at : ℕ) (bytes : List ℕ) → BreaksWith (opcode false).read Nesting at (0x05 ∷ bytes)
  pub no_block_type : (at b : ℕ) (bytes : List ℕ) → b ≢ 0x40 → IsNoType b → BreaksWith block_type.read ValueType at (b ∷ bytes)
  pub float_block_type : (at b : ℕ) (bytes : List ℕ) → IsFloatType b → BreaksWith block_type.read Float at (b ∷ bytes)
  pub not_zero : (at b : ℕ) (bytes : List ℕ) → b ≢ 0 → BreaksWith reserved.read Reserved at (b ∷ bytes)

-- of initialisers and offsets
pub record ConstantFaults : Type 0 where
  pub first : (at b : ℕ) (bytes : List ℕ) (why : ReadKind) → const_op b ≡ Err why → BreaksWith const_value.read why at (b ∷ bytes)
  pub float_end : (at b : ℕ) (bytes : List ℕ) → shape b ≡ Err Float → BreaksWith const_end.read Float at (b ∷ bytes)
  pub other_end : (at b : ℕ) (bytes : List ℕ) → b ≢ 0x0B → shape b ≢ Err Float → BreaksWith const_end.read Opcode at (b ∷ bytes)

-- of what stands where the next section or the end of the input is wanted
pub record SectionFaults : Type 0 where
  pub start : (funcs codes at : ℕ) (bytes : List ℕ) → BreaksWith (input_end funcs codes).read Start at (8 ∷ bytes)
  pub other : (funcs codes at b : ℕ) (bytes : List ℕ) → b ≢ 8 → BreaksWith (input_end funcs codes).read Section at (b ∷ bytes)
