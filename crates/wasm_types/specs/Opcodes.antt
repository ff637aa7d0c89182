-- Which opcodes there are, and what stands behind each (core 1.0, section 5.4, and the sign extensions C0 to C4).
use Rattle.std.specs.Prelude.{ℕ, Bool, ◌&&◌, ◌||◌, ◌==◌, nat_le, if◌then◌else◌, Result, Ok, Err}
use Rattle.wasm_types.specs.declared.kind.ReadKind.{ReadKind}
use Rattle.wasm_types.specs.declared.kind.ReadKind.TheVariants.{Float, Opcode}
use Rattle.wasm_types.specs.declared.opcode.Shape.{Shape}
use Rattle.wasm_types.specs.declared.opcode.ConstOp.{ConstOp}
use Rattle.wasm_types.specs.declared.opcode.ConstOp.TheVariants as consts
use Rattle.wasm_types.specs.declared.opcode.Shape.TheVariants.{Plain, Reserved, Index, CallIndirect, BrTable, Memory, I32Const, I64Const, Block, Loop, If, Else, End}

abbrev pub is_within : ℕ → ℕ → ℕ → Bool
is_within low high op = nat_le low op && nat_le op high

-- unreachable, nop, return; drop and select; the comparisons, arithmetic and conversions of integers; the sign extensions
abbrev pub is_plain : ℕ → Bool
is_plain op =
    is_within 0x00 0x01 op || op == 0x0F || is_within 0x1A 0x1B op || is_within 0x45 0x5A op || is_within 0x67 0x8A op || op == 0xA7 || is_within 0xAC 0xAD op || is_within 0xC0 0xC4 op

-- br, br_if, call; those of locals and globals
abbrev pub has_index : ℕ → Bool
has_index op = is_within 0x0C 0x0D op || op == 0x10 || is_within 0x20 0x24 op

-- the loads and stores of integers
abbrev pub is_memory : ℕ → Bool
is_memory op = is_within 0x28 0x29 op || is_within 0x2C 0x37 op || is_within 0x3A 0x3E op

-- the loads, stores, constants, comparisons, arithmetic and conversions of floats
abbrev pub is_float : ℕ → Bool
is_float op =
    is_within 0x2A 0x2B op || is_within 0x38 0x39 op || is_within 0x43 0x44 op || is_within 0x5B 0x66 op || is_within 0x8B 0xA6 op || is_within 0xA8 0xAB op || is_within 0xAE 0xBF op

-- what stands behind an opcode, or why it isn't one
unfoldable pub shape : ℕ → Result Shape ReadKind
shape op =
    if is_plain op then Ok Plain
    else (if has_index op then Ok Index
    else (if is_memory op then Ok Memory
    else (if is_float op then Err Float
    else (if op == 0x02 then Ok Block
    else (if op == 0x03 then Ok Loop
    else (if op == 0x04 then Ok If
    else (if op == 0x05 then Ok Else
    else (if op == 0x0B then Ok End
    else (if op == 0x0E then Ok BrTable
    else (if op == 0x11 then Ok CallIndirect
    else (if is_within 0x3F 0x40 op then Ok Reserved
    else (if op == 0x41 then Ok I32Const
    else (if op == 0x42 then Ok I64Const
    else Err Opcode)))))))))))))

abbrev pub const_by : ℕ → Result Shape ReadKind → Result ConstOp ReadKind
const_by op (Ok I32Const) = Ok consts.I32Const
const_by op (Ok I64Const) = Ok consts.I64Const
const_by op (Ok Index) = if op == 0x23 then Ok consts.GlobalGet else Err Opcode
const_by op (Ok _) = Err Opcode
const_by op (Err why) = Err why

-- what a constant expression may begin with (core 1.0, section 3.3.7.2): a constant or global.get
unfoldable pub const_op : ℕ → Result ConstOp ReadKind
const_op op = const_by op (shape op)
