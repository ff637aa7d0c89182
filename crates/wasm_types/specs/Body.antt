-- The code of a function (core 1.0, sections 5.4 and 5.5.13): its locals, and instructions up to the `end` that closes it.
use Rattle.std.specs.Prelude.{◌≡◌, ℕ, zero, suc, ◌+◌, ◌<◌, ◌==◌, nat_le, if◌then◌else◌, Bool, true, false, List, [], ◌∷◌, ◌++◌, length, replicate, Option, Some, None, Result, Ok, Err}
use Rattle.wasm_types.specs.declared.kind.ReadKind.{ReadKind}
use Rattle.wasm_types.specs.declared.kind.ReadKind.TheVariants.{Reserved, Nesting, Locals}
use Rattle.wasm_types.specs.declared.value.ValType.{ValType}
use Rattle.wasm_types.specs.declared.value.Value.TheVariants as values
use Rattle.wasm_types.specs.declared.opcode.Shape.{Shape}
use Rattle.wasm_types.specs.declared.opcode.Shape.TheVariants as shapes
use Rattle.wasm_types.specs.declared.instr.Instr.{Instr}
use Rattle.wasm_types.specs.declared.instr.Instr.TheVariants.{Op, Index, CallIndirect, BrTable, Mem, Const, Block, Loop, If, Else, End}
use Rattle.wasm_types.specs.Plain.{PlainCode}
use Rattle.wasm_types.specs.Place.{Place, Broken, Reading, then_read, breaks}
use Rattle.wasm_types.specs.Opcodes.{shape}
use Rattle.wasm_types.specs.Part.{Part, Joins, BreaksBehind, done, ◌>>=◌, judged, byte, byte_or, marker, number, index, vector}
use Rattle.wasm_types.specs.Types.{val_type, val_type_of}

-- ---- locals, in groups of one type

abbrev pub max_locals : ℕ
max_locals = 4096

-- a number of locals and their type, behind so many locals
unfoldable pub group : ℕ → Part (List ValType)
group before = do
  n ← judged Locals (λ n. nat_le (before + n) max_locals) index
  t ← val_type
  done (replicate n t)

abbrev pub AreGroups : ℕ → ℕ → List ℕ → List ValType → Type 0
AreGroups zero before text types = (text ≡ []) × (types ≡ [])
AreGroups (suc groups) before text types =
    Joins (group before).Spells (λ own. Joins (AreGroups groups (before + length own)) (λ others rest all. (rest ≡ []) × (all ≡ own ++ others))) text types

unfoldable pub groups_read : ℕ → ℕ → Place → Reading (List ValType)
groups_read zero before start = Ok ([], start)
groups_read (suc groups) before start =
    then_read ((group before).read start) (λ own after. then_read (groups_read groups (before + length own) after) (λ others end. Ok (own ++ others, end)))

-- one of so many groups, behind those before it, which are read
abbrev pub BreaksInGroups : ℕ → Place → Broken → Type 0
BreaksInGroups groups start fault = (before : ℕ) × (before < groups) × BreaksBehind (groups_read before 0 start) (λ types here. (group (length types)).BreaksAt here fault)

abbrev pub groups_of : ℕ → Part (List ValType)
groups_of groups = record { Spells = AreGroups groups 0; read = groups_read groups 0; BreaksAt = BreaksInGroups groups }

unfoldable pub locals : Part (List ValType)
locals = do
  groups ← index
  groups_of groups

-- ---- one instruction, with `end` and `els` still open, and the labels that it adds to the code's targets

-- an `else` may stand only in an `if` that has none yet
abbrev pub nested : Bool → ℕ → Result Shape ReadKind → Result (ℕ × Shape) ReadKind
nested may_else op (Ok shapes.Else) = if may_else then Ok (op, shapes.Else) else Err Nesting
nested may_else op (Ok s) = Ok (op, s)
nested may_else op (Err why) = Err why

-- where a body ends and an instruction is wanted, it is the nesting that is wrong
unfoldable pub opcode : Bool → Part (ℕ × Shape)
opcode may_else = byte_or Nesting (λ b. nested may_else b (shape b))

abbrev pub block_type_of : ℕ → Result (Option ValType) ReadKind
block_type_of b = if b == 0x40 then Ok None else one_result (val_type_of b)
  where
    one_result : Result ValType ReadKind → Result (Option ValType) ReadKind
    one_result (Ok t) = Ok (Some t)
    one_result (Err why) = Err why

unfoldable pub block_type : Part (Option ValType)
block_type = byte block_type_of

unfoldable pub reserved : Part (Unit {0})
reserved = byte (marker 0 Reserved)

unfoldable pub br_table : ℕ → Part (Instr × List ℕ)
br_table first = do
  labels ← vector index
  default ← index
  done (BrTable first (length labels) default, labels)

unfoldable pub memory_access : ℕ → Part (Instr × List ℕ)
memory_access op = do
  align ← index
  offset ← index
  done (Mem op align offset, [])

unfoldable pub call_indirect : Part (Instr × List ℕ)
call_indirect = do
  ty ← index
  _ ← reserved
  done (CallIndirect ty, [])

-- what stands behind an opcode, where the body has so many targets already
abbrev pub operands : ℕ → ℕ → Shape → Part (Instr × List ℕ)
operands first op shapes.Plain = done (Op op, [])
operands first op shapes.Reserved = do
  _ ← reserved
  done (Op op, [])
operands first op shapes.Index = do
  i ← index
  done (Index op i, [])
operands first op shapes.CallIndirect = call_indirect
operands first op shapes.BrTable = br_table first
operands first op shapes.Memory = memory_access op
operands first op shapes.I32Const = do
  n ← number true 32
  done (Const (values.I32 n), [])
operands first op shapes.I64Const = do
  n ← number true 64
  done (Const (values.I64 n), [])
operands first op shapes.Block = do
  t ← block_type
  done (Block t 0, [])
operands first op shapes.Loop = do
  t ← block_type
  done (Loop t 0, [])
operands first op shapes.If = do
  t ← block_type
  done (If t None 0, [])
operands first op shapes.Else = done (Else 0, [])
operands first op shapes.End = done (End, [])

unfoldable pub instr : ℕ → Bool → Part (Instr × List ℕ)
instr first may_else = do
  o ← opcode may_else
  operands first o.0 o.1

-- ---- instructions up to the end of the block that is open last

-- For each block that is open, the innermost first, it is kept whether an `else` may come: those are the blocks after an instruction.
abbrev pub blocks_after : Instr → List Bool → List Bool
blocks_after (Block t end) blocks = false ∷ blocks
blocks_after (Loop t end) blocks = false ∷ blocks
blocks_after (If t els end) blocks = true ∷ blocks
blocks_after (Else end) [] = []
blocks_after (Else end) (o ∷ blocks) = false ∷ blocks
blocks_after End [] = []
blocks_after End (o ∷ blocks) = blocks
blocks_after i blocks = blocks

-- the instructions, up to the `end` of the last block that is open, and their labels
abbrev pub IsBody : List Bool → ℕ → List ℕ → List Instr → List ℕ → Type 0
IsBody [] first text instrs labels = (text ≡ []) × (instrs ≡ []) × (labels ≡ [])
IsBody (o ∷ blocks) first text [] labels = ⊥
IsBody (o ∷ blocks) first text (i ∷ instrs) labels =
    (own : List ℕ) × (later : List ℕ) × (labels ≡ own ++ later)
    × Joins (instr first o).Spells (λ x rest _. (x ≡ (i, own)) × IsBody (blocks_after i (o ∷ blocks)) (first + length own) rest instrs later) text (tt {0})

abbrev pub with_front : Instr → List ℕ → Reading (List Instr × List ℕ) → Reading (List Instr × List ℕ)
with_front i own read = then_read read (λ body end. Ok ((i ∷ body.0, own ++ body.1), end))

-- Each instruction has a byte, so as many steps are enough as there are bytes.
unfoldable pub body_read : ℕ → List Bool → ℕ → Place → Reading (List Instr × List ℕ)
body_read steps [] first start = Ok (([], []), start)
body_read zero (o ∷ blocks) first start = breaks start.at Nesting
body_read (suc steps) (o ∷ blocks) first start =
    then_read ((instr first o).read start) (λ x after. with_front x.0 x.1 (body_read steps (blocks_after x.0 (o ∷ blocks)) (first + length x.1) after))

-- so many instructions are read, and the next one can't be; some block is open there
abbrev pub BreaksAfter : ℕ → List Bool → ℕ → Place → Broken → Type 0
BreaksAfter n [] first start fault = ⊥
BreaksAfter zero (o ∷ blocks) first start fault = (instr first o).BreaksAt start fault
BreaksAfter (suc n) (o ∷ blocks) first start fault =
    BreaksBehind ((instr first o).read start) (λ x after. BreaksAfter n (blocks_after x.0 (o ∷ blocks)) (first + length x.1) after fault)

-- the instructions of a body and its targets; the body itself is the first block
abbrev pub body : Part (List Instr × List ℕ)
body = record {
  Spells = λ text b. IsBody (false ∷ []) 0 text b.0 b.1;
  read = λ start. body_read (length start.rest) (false ∷ []) 0 start;
  BreaksAt = λ start fault. (n : ℕ) × BreaksAfter n (false ∷ []) 0 start fault;
}

-- ---- the places of `else` and `end`

-- Of the blocks that are open before these instructions, the innermost first: the place of the `else` that comes, and of the `end`.
-- The first instruction has the place `at`.
abbrev pub else_at : ℕ → List (Option ℕ × ℕ) → List (Option ℕ × ℕ)
else_at at [] = []
else_at at (c ∷ closings) = (Some at, c.1) ∷ closings

abbrev pub outer : List (Option ℕ × ℕ) → List (Option ℕ × ℕ)
outer [] = []
outer (c ∷ closings) = closings

abbrev pub closings_with : ℕ → Instr → List (Option ℕ × ℕ) → List (Option ℕ × ℕ)
closings_with at (Block t end) later = outer later
closings_with at (Loop t end) later = outer later
closings_with at (If t els end) later = outer later
closings_with at (Else end) later = else_at at later
closings_with at End later = (None, at) ∷ later
closings_with at i later = later

unfoldable pub closings : ℕ → List Instr → List (Option ℕ × ℕ)
closings at [] = []
closings at (i ∷ instrs) = closings_with at i (closings (at + 1) instrs)

abbrev pub innermost : List (Option ℕ × ℕ) → Option ℕ × ℕ
innermost [] = (None, 0)
innermost (c ∷ closings) = c

abbrev pub closed : Instr → Option ℕ × ℕ → Instr
closed (Block t end) c = Block t c.1
closed (Loop t end) c = Loop t c.1
closed (If t els end) c = If t c.0 c.1
closed (Else end) c = Else c.1
closed i c = i

-- the instructions with their places, the first one at `at`
unfoldable pub placed : ℕ → List Instr → List Instr
placed at [] = []
placed at (i ∷ instrs) = closed i (innermost (closings (at + 1) instrs)) ∷ placed (at + 1) instrs

unfoldable pub code : Part PlainCode
code = do
  types ← locals
  b ← body
  done (record { locals = types; targets = b.1; body = placed 0 b.0 })
