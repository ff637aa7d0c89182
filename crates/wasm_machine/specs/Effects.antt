-- The effect of each instruction that neither branches nor calls (WebAssembly core 1.0, section 4.4). Where a value isn't
-- there or is of another type, as in no valid module, the effect is the trap `unreachable`.
use Rattle.std.specs.Prelude.{ℕ, ◌+◌, ◌==◌, ◌||◌, nat_lt, nat_le, Bool, if◌then◌else◌, List, [], ◌∷◌, length, slice_get, slice_set, Option, Some, None, Result, Ok, Err}
use Rattle.int_ops.specs.Integers.{iextend_s}
use Rattle.int_ops.specs.Numerics.{num}
use Rattle.int_ops.specs.declared.num.Num.{Num}
use Rattle.int_ops.specs.declared.num.Num.TheVariants as nums
use Rattle.int_ops.specs.declared.num.NumTrap.{NumTrap}
use Rattle.int_ops.specs.declared.num.NumTrap.TheVariants as num_traps
use Rattle.linear_memory.specs.Numbers.{number_at, bytes_of, overwritten}
use Rattle.linear_memory.specs.Pages.{pages_of}
use Rattle.wasm_types.specs.declared.value.Value.{Value}
use Rattle.wasm_types.specs.declared.value.Value.TheVariants.{I32, I64}
use Rattle.wasm_machine.specs.declared.turn.TrapKind.{TrapKind}
use Rattle.wasm_machine.specs.declared.turn.TrapKind.TheVariants.{Unreachable, DivideByZero, IntegerOverflow, OutOfBounds, StackOverflow}
use Rattle.wasm_machine.specs.declared.kind.PlainKind.{PlainKind}
use Rattle.wasm_machine.specs.declared.kind.PlainKind.TheVariants as plain
use Rattle.wasm_machine.specs.declared.kind.IndexKind.{IndexKind}
use Rattle.wasm_machine.specs.declared.kind.IndexKind.TheVariants as indexed

-- what all calls share
pub record Shared : Type 0 where
  pub memory : List ℕ
  pub globals : List Value

-- what an instruction of a function sees: its locals, the operands of the innermost block, the topmost first, and what all share
pub record State : Type 0 where
  pub locals : List Value
  pub operands : List Value
  pub shared : Shared

abbrev pub Effect : Type 0
Effect = Result State TrapKind

abbrev pub with_operands : State → List Value → State
with_operands s values = record s { operands = values }

abbrev pub with_memory : State → List ℕ → State
with_memory s bytes = record s { shared = record { memory = bytes; globals = s.shared.globals } }

abbrev pub with_globals : State → List Value → State
with_globals s values = record s { shared = record { memory = s.shared.memory; globals = values } }

abbrev pub misplaced : Effect
misplaced = Err Unreachable

-- no more operands and locals than this stand over all calls that are under way
abbrev pub most_values : ℕ
most_values = 131072

-- one more operand, where so many values stand besides the operands of the innermost block
abbrev pub push : ℕ → Value → State → Effect
push below v s =
    if nat_lt (below + length s.operands) most_values then Ok (with_operands s (v ∷ s.operands)) else Err StackOverflow

-- what a call gives, if anything, becomes an operand
abbrev pub given : ℕ → Option Value → State → Effect
given below None s = Ok s
given below (Some v) s = push below v s

-- ---- numeric instructions

abbrev pub num_of : Value → Num
num_of (I32 n) = nums.I32 n
num_of (I64 n) = nums.I64 n

abbrev pub value_of : Num → Value
value_of (nums.I32 n) = I32 n
value_of (nums.I64 n) = I64 n

abbrev pub trap_of : NumTrap → TrapKind
trap_of num_traps.DivideByZero = DivideByZero
trap_of num_traps.IntegerOverflow = IntegerOverflow

abbrev pub settled : State → List Value → Option (Result Num NumTrap) → Effect
settled s rest None = misplaced
settled s rest (Some (Ok n)) = Ok (with_operands s (value_of n ∷ rest))
settled s rest (Some (Err why)) = Err (trap_of why)

abbrev pub on_one : ℕ → State → List Value → Effect
on_one op s [] = misplaced
on_one op s (a ∷ rest) = settled s rest (num op (num_of a ∷ []))

abbrev pub on_two : ℕ → State → List Value → Effect
on_two op s [] = misplaced
on_two op s (b ∷ []) = misplaced
on_two op s (b ∷ a ∷ rest) = settled s rest (num op (num_of a ∷ num_of b ∷ []))

-- ---- parametric instructions, and the size of the memory

abbrev pub dropped : State → List Value → Effect
dropped s [] = misplaced
dropped s (v ∷ rest) = Ok (with_operands s rest)

abbrev pub chosen : State → List Value → Effect
chosen s (I32 c ∷ b ∷ a ∷ rest) = Ok (with_operands s ((if c == 0 then b else a) ∷ rest))
chosen s _ = misplaced

abbrev pub plain_effect : PlainKind → ℕ → ℕ → State → Effect
plain_effect plain.Nop op below s = Ok s
plain_effect plain.Drop op below s = dropped s s.operands
plain_effect plain.Select op below s = chosen s s.operands
plain_effect plain.MemorySize op below s = push below (I32 (pages_of s.shared.memory)) s
plain_effect plain.OnOne op below s = on_one op s s.operands
plain_effect plain.OnTwo op below s = on_two op s s.operands
plain_effect plain.Unreachable op below s = misplaced
plain_effect plain.Return op below s = misplaced
plain_effect plain.MemoryGrow op below s = misplaced

-- ---- locals and globals

abbrev pub got : ℕ → State → Option Value → Effect
got below s None = misplaced
got below s (Some v) = push below v s

abbrev pub local_set : ℕ → State → List Value → Effect
local_set i s [] = misplaced
local_set i s (v ∷ rest) =
    if nat_lt i (length s.locals) then Ok (record s { locals = slice_set s.locals i v; operands = rest }) else misplaced

abbrev pub local_tee : ℕ → State → List Value → Effect
local_tee i s [] = misplaced
local_tee i s (v ∷ rest) =
    if nat_lt i (length s.locals) then Ok (record s { locals = slice_set s.locals i v }) else misplaced

abbrev pub global_set : ℕ → State → List Value → Effect
global_set i s [] = misplaced
global_set i s (v ∷ rest) =
    if nat_lt i (length s.shared.globals) then Ok (with_globals (with_operands s rest) (slice_set s.shared.globals i v))
    else misplaced

abbrev pub index_effect : IndexKind → ℕ → ℕ → State → Effect
index_effect indexed.LocalGet i below s = got below s (slice_get s.locals i)
index_effect indexed.LocalSet i below s = local_set i s s.operands
index_effect indexed.LocalTee i below s = local_tee i s s.operands
index_effect indexed.GlobalGet i below s = got below s (slice_get s.shared.globals i)
index_effect indexed.GlobalSet i below s = global_set i s s.operands
index_effect indexed.Unreachable i below s = misplaced
index_effect indexed.Branch i below s = misplaced
index_effect indexed.BranchIf i below s = misplaced
index_effect indexed.Call i below s = misplaced

-- ---- loads and stores

-- the value of a load, from the number that its bytes spell
abbrev pub loaded : ℕ → ℕ → Value
loaded op n =
    if op == 0x29 || op == 0x31 || op == 0x33 || op == 0x35 then I64 n
    else if op == 0x2C then I32 (iextend_s 8 32 n)
    else if op == 0x2E then I32 (iextend_s 16 32 n)
    else if op == 0x30 then I64 (iextend_s 8 64 n)
    else if op == 0x32 then I64 (iextend_s 16 64 n)
    else if op == 0x34 then I64 (iextend_s 32 64 n)
    else I32 n

abbrev pub load : ℕ → ℕ → ℕ → State → List Value → Effect
load op bytes offset s (I32 at ∷ rest) =
    if nat_lt (length s.shared.memory) (at + offset + bytes) then Err OutOfBounds
    else Ok (with_operands s (loaded op (number_at s.shared.memory (at + offset) bytes) ∷ rest))
load op bytes offset s _ = misplaced

abbrev pub stores_i32 : ℕ → Bool
stores_i32 op = op == 0x36 || op == 0x3A || op == 0x3B

-- the number that is stored, of which the lowest bytes count
abbrev pub stored : ℕ → Value → Option ℕ
stored op (I32 n) = if stores_i32 op then Some n else None
stored op (I64 n) = if stores_i32 op then None else Some n

abbrev pub store_at : ℕ → ℕ → State → List Value → Option ℕ → Effect
store_at bytes at s rest None = misplaced
store_at bytes at s rest (Some n) =
    if nat_lt (length s.shared.memory) (at + bytes) then Err OutOfBounds
    else Ok (with_memory (with_operands s rest) (overwritten s.shared.memory at (bytes_of bytes n)))

abbrev pub store : ℕ → ℕ → ℕ → State → List Value → Effect
store op bytes offset s (v ∷ I32 at ∷ rest) = store_at bytes (at + offset) s rest (stored op v)
store op bytes offset s _ = misplaced

abbrev pub memory_effect : Option ℕ → ℕ → ℕ → State → Effect
memory_effect None op offset s = misplaced
memory_effect (Some bytes) op offset s =
    if nat_le op 0x35 then load op bytes offset s s.operands else store op bytes offset s s.operands
