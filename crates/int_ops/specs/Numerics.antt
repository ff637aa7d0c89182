-- What the numeric instructions on i32 and i64 give (WebAssembly core 1.0, sections 4.4.1 and 5.4.5, and the
-- instructions on sign extension of core 2.0). An opcode is that of the binary format.
use Rattle.std.specs.Prelude.{ℕ, ◌-◌, ◌==◌, ◌&&◌, ◌||◌, Bool, false, nat_le, List, [], ◌∷◌, Option, Some, None, Result, Ok, Err, slice_get, if◌then◌else◌}
use Rattle.std.specs.Option.{option_map}
use Rattle.int_ops.specs.Integers.{iadd, isub, imul, idiv_s, idiv_u, irem_s, irem_u, iand, ior, ixor, ishl, ishr_s, ishr_u, irotl, irotr, iclz, ictz, ipopcnt, ieqz, ieq, ine, ilt_s, ilt_u, igt_s, igt_u, ile_s, ile_u, ige_s, ige_u, wrapped, extended_s, iextend_s}
use Rattle.int_ops.specs.declared.num.Num.{Num}
use Rattle.int_ops.specs.declared.num.Num.TheVariants.{I32, I64}
use Rattle.int_ops.specs.declared.num.NumTrap.{NumTrap}

-- ---- the tables, each in the order of the opcodes

-- the tests of two integers of n bits
abbrev pub relations : List (ℕ → ℕ → ℕ → Bool)
relations = ieq ∷ ine ∷ ilt_s ∷ ilt_u ∷ igt_s ∷ igt_u ∷ ile_s ∷ ile_u ∷ ige_s ∷ ige_u ∷ []

-- the counts of the bits of an integer of n bits
abbrev pub counts : List (ℕ → ℕ → ℕ)
counts = iclz ∷ ictz ∷ ipopcnt ∷ []

-- no trap
abbrev pub total : (ℕ → ℕ → ℕ → ℕ) → ℕ → ℕ → ℕ → Result ℕ NumTrap
total f n i j = Ok (f n i j)

-- the operations on two integers of n bits
abbrev pub operations : List (ℕ → ℕ → ℕ → Result ℕ NumTrap)
operations =
    total iadd
    ∷ total isub
    ∷ total imul
    ∷ idiv_s
    ∷ idiv_u
    ∷ irem_s
    ∷ irem_u
    ∷ total iand
    ∷ total ior
    ∷ total ixor
    ∷ total ishl
    ∷ total ishr_s
    ∷ total ishr_u
    ∷ total irotl
    ∷ total irotr
    ∷ []

-- ---- one instruction

-- true is 1
abbrev pub truth : Bool → Num
truth b = I32 (if b then 1 else 0)

-- what stands in a table for an opcode, where the table begins with this one
abbrev pub entry : {X : Type 0} → List X → ℕ → ℕ → Option X
entry table first op = if nat_le first op then slice_get table (op - first) else None

-- the first that there is
abbrev pub or_else : {X : Type 0} → Option X → Option X → Option X
or_else None other = other
or_else (Some x) other = Some x

-- what an instruction gives in place of an integer of n bits, as a number of that width
abbrev pub as_num : (ℕ → Num) → Result ℕ NumTrap → Result Num NumTrap
as_num of_width (Ok i) = Ok (of_width i)
as_num of_width (Err trap) = Err trap

-- the test of two integers of n bits with this opcode, where the tests begin with the first one
abbrev pub test_of : ℕ → ℕ → ℕ → ℕ → ℕ → Option Bool
test_of n first op i j = option_map (λ f. f n i j) (entry relations first op)

-- the operation on two integers of n bits with this opcode, where the operations begin with the first one
abbrev pub operation_of : ℕ → ℕ → ℕ → ℕ → ℕ → Option (Result ℕ NumTrap)
operation_of n first op i j = option_map (λ f. f n i j) (entry operations first op)

-- either of them
abbrev pub on_two : Option Bool → Option (Result ℕ NumTrap) → (ℕ → Num) → Option (Result Num NumTrap)
on_two test operation of_width = or_else (option_map (λ b. Ok (truth b)) test) (option_map (as_num of_width) operation)

-- the instruction on one integer of 32 bits with this opcode
abbrev pub on_i32 : ℕ → ℕ → Option Num
on_i32 op i =
    if op == 0x45 then Some (truth (ieqz 32 i))
    else if op == 0xAC then Some (I64 (extended_s 32 64 i))
    else if op == 0xAD then Some (I64 i)
    else if op == 0xC0 then Some (I32 (iextend_s 8 32 i))
    else if op == 0xC1 then Some (I32 (iextend_s 16 32 i))
    else option_map (λ f. I32 (f 32 i)) (entry counts 0x67 op)

-- the instruction on one integer of 64 bits with this opcode
abbrev pub on_i64 : ℕ → ℕ → Option Num
on_i64 op i =
    if op == 0x50 then Some (truth (ieqz 64 i))
    else if op == 0xA7 then Some (I32 (wrapped 32 i))
    else if op == 0xC2 then Some (I64 (iextend_s 8 64 i))
    else if op == 0xC3 then Some (I64 (iextend_s 16 64 i))
    else if op == 0xC4 then Some (I64 (iextend_s 32 64 i))
    else option_map (λ f. I64 (f 64 i)) (entry counts 0x79 op)

-- The value or the trap of the instruction with this opcode on these operands. There is none where the opcode isn't one
-- of a numeric instruction that takes as many operands, of these types.
unfoldable pub num : ℕ → List Num → Option (Result Num NumTrap)
num op [] = None
num op (I32 i ∷ []) = option_map Ok (on_i32 op i)
num op (I64 i ∷ []) = option_map Ok (on_i64 op i)
num op (I32 i ∷ I32 j ∷ []) = on_two (test_of 32 0x46 op i j) (operation_of 32 0x6A op i j) I32
num op (I64 i ∷ I64 j ∷ []) = on_two (test_of 64 0x51 op i j) (operation_of 64 0x7C op i j) I64
num op (I32 i ∷ I64 j ∷ []) = None
num op (I64 i ∷ I32 j ∷ []) = None
num op (a ∷ b ∷ c ∷ rest) = None

-- ---- which operands an opcode takes

abbrev pub is_between : ℕ → ℕ → ℕ → Bool
is_between low op high = nat_le low op && nat_le op high

-- the opcode is that of an instruction on one i32, on one i64, on two i32, on two i64
abbrev pub is_one_i32 : ℕ → Bool
is_one_i32 op =
    (op == 0x45) || is_between 0x67 op 0x69 || is_between 0xAC op 0xAD || is_between 0xC0 op 0xC1

abbrev pub is_one_i64 : ℕ → Bool
is_one_i64 op = (op == 0x50) || is_between 0x79 op 0x7B || (op == 0xA7) || is_between 0xC2 op 0xC4

abbrev pub is_two_i32 : ℕ → Bool
is_two_i32 op = is_between 0x46 op 0x4F || is_between 0x6A op 0x78

abbrev pub is_two_i64 : ℕ → Bool
is_two_i64 op = is_between 0x51 op 0x5A || is_between 0x7C op 0x8A

-- the opcode is that of an instruction on one operand of this type
abbrev pub takes_one : ℕ → Num → Bool
takes_one op (I32 i) = is_one_i32 op
takes_one op (I64 i) = is_one_i64 op

-- the opcode is that of an instruction on two operands of these types
abbrev pub takes_two : ℕ → Num → Num → Bool
takes_two op (I32 i) (I32 j) = is_two_i32 op
takes_two op (I64 i) (I64 j) = is_two_i64 op
takes_two op (I32 i) (I64 j) = false
takes_two op (I64 i) (I32 j) = false
