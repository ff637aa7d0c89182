-- What each opcode of an instruction stands for (WebAssembly core 1.0, section 5.4, and the sign extensions C0 to C4).
use Rattle.std.specs.Prelude.{ℕ, ◌==◌, ◌||◌, Bool, true, false, if◌then◌else◌, Option, Some, None}
use Rattle.int_ops.specs.Numerics.{is_one_i32, is_one_i64, is_two_i32, is_two_i64}
use Rattle.wasm_types.specs.declared.value.Value.TheVariants as values
use Rattle.wasm_types.specs.declared.instr.Instr.{Instr}
use Rattle.wasm_types.specs.declared.instr.Instr.TheVariants.{Op, Index, CallIndirect, BrTable, Mem, Const, Block, Loop, If, Else, End}
use Rattle.wasm_machine.specs.declared.kind.PlainKind.{PlainKind}
use Rattle.wasm_machine.specs.declared.kind.PlainKind.TheVariants as plain
use Rattle.wasm_machine.specs.declared.kind.IndexKind.{IndexKind}
use Rattle.wasm_machine.specs.declared.kind.IndexKind.TheVariants as indexed

-- an instruction without an operand in the code
abbrev pub plain_kind : ℕ → PlainKind
plain_kind op =
    if op == 0x01 then plain.Nop
    else if op == 0x0F then plain.Return
    else if op == 0x1A then plain.Drop
    else if op == 0x1B then plain.Select
    else if op == 0x3F then plain.MemorySize
    else if op == 0x40 then plain.MemoryGrow
    else if is_one_i32 op || is_one_i64 op then plain.OnOne
    else if is_two_i32 op || is_two_i64 op then plain.OnTwo
    else plain.Unreachable

-- an instruction with an index in the code
abbrev pub index_kind : ℕ → IndexKind
index_kind op =
    if op == 0x0C then indexed.Branch
    else if op == 0x0D then indexed.BranchIf
    else if op == 0x10 then indexed.Call
    else if op == 0x20 then indexed.LocalGet
    else if op == 0x21 then indexed.LocalSet
    else if op == 0x22 then indexed.LocalTee
    else if op == 0x23 then indexed.GlobalGet
    else if op == 0x24 then indexed.GlobalSet
    else indexed.Unreachable

-- how many bytes a load or a store moves
abbrev pub width : ℕ → Option ℕ
width op =
    if op == 0x2C || op == 0x2D || op == 0x30 || op == 0x31 || op == 0x3A || op == 0x3C then Some 1
    else if op == 0x2E || op == 0x2F || op == 0x32 || op == 0x33 || op == 0x3B || op == 0x3D then Some 2
    else if op == 0x28 || op == 0x34 || op == 0x35 || op == 0x36 || op == 0x3E then Some 4
    else if op == 0x29 || op == 0x37 then Some 8
    else None

-- the opcode of an instruction
abbrev pub opcode : Instr → ℕ
opcode (Op op) = op
opcode (Index op i) = op
opcode (CallIndirect ty) = 0x11
opcode (BrTable first count default) = 0x0E
opcode (Mem op align offset) = op
opcode (Const (values.I32 n)) = 0x41
opcode (Const (values.I64 n)) = 0x42
opcode (Block result end) = 0x02
opcode (Loop result end) = 0x03
opcode (If result els end) = 0x04
opcode (Else end) = 0x05
opcode End = 0x0B

-- `else` and `end`
abbrev pub is_marker : Instr → Bool
is_marker (Else end) = true
is_marker End = true
is_marker (Op op) = false
is_marker (Index op i) = false
is_marker (CallIndirect ty) = false
is_marker (BrTable first count default) = false
is_marker (Mem op align offset) = false
is_marker (Const v) = false
is_marker (Block result end) = false
is_marker (Loop result end) = false
is_marker (If result els end) = false
