-- The types of instructions (core 1.0, section 3.3), and the first place at which those of a body have none.
use Rattle.std.specs.Prelude.{ℕ, ◌==◌, ◌||◌, nat_lt, nat_le, if◌then◌else◌, Bool, true, false, List, [], ◌∷◌, ◌++◌, reverse, length, take, drop, slice_get, Option, Some, None, option_to_list, Result, Ok, Err}
use Rattle.std.specs.List.{list_all}
use Rattle.wasm_types.specs.declared.kind.ValidKind.{ValidKind}
use Rattle.wasm_types.specs.declared.kind.ValidKind.TheVariants.{TypeIndex, FuncIndex, TableIndex, MemoryIndex, GlobalIndex, LocalIndex, Label, Underflow, Mismatch, Leftover, Align, Immutable}
use Rattle.wasm_types.specs.declared.value.ValType.{ValType}
use Rattle.wasm_types.specs.declared.value.ValType.TheVariants.{I32, I64}
use Rattle.wasm_types.specs.declared.value.Value.{Value}
use Rattle.wasm_types.specs.declared.value.Value.TheVariants as values
use Rattle.wasm_types.specs.declared.instr.Instr.{Instr}
use Rattle.wasm_types.specs.declared.instr.Instr.TheVariants as instrs
use Rattle.wasm_types.specs.Plain.{PlainFuncType}
use Rattle.wasm_types.specs.Opcodes.{is_within}
use Rattle.wasm_types.specs.Nesting.{Nested, stop, plain, block, loop, if_, nested_body}

infixl 10 ◌>>=◌
abbrev pub ◌>>=◌ : {A B : Type 0} → Result A ValidKind → (A → Result B ValidKind) → Result B ValidKind
(Ok a) >>= next = next a
(Err kind) >>= next = Err kind

-- what is there, or the kind of the fault where it isn't
abbrev pub found : {A : Type 0} → ValidKind → Option A → Result A ValidKind
found kind (Some a) = Ok a
found kind None = Err kind

abbrev pub needs : ValidKind → Bool → Result (Unit {0}) ValidKind
needs kind true = Ok tt
needs kind false = Err kind

-- ---- operands (appendix "Validation algorithm" of core 1.0)

-- The operands that a block has pushed, the last one first; none stands for one of any type. After a branch there are as many more
-- as are wanted, each of the type that is wanted.
pub record Operands : Type 0 where
  pub types : List (Option ValType)
  pub any : Bool

abbrev pub no_operands : Operands
no_operands = record { types = []; any = false }

abbrev pub any_operands : Operands
any_operands = record { types = []; any = true }

abbrev pub same_type : ValType → ValType → Bool
same_type I32 I32 = true
same_type I64 I64 = true
same_type I32 I64 = false
same_type I64 I32 = false

abbrev pub pop_from : List (Option ValType) → Bool → Result (Option ValType × Operands) ValidKind
pop_from [] true = Ok (None, any_operands)
pop_from [] false = Err Underflow
pop_from (t ∷ types) any = Ok (t, record { types = types; any = any })

-- the last operand, and the others
abbrev pub pop : Operands → Result (Option ValType × Operands) ValidKind
pop operands = pop_from operands.types operands.any

abbrev pub fits : ValType → Option ValType → Bool
fits wanted None = true
fits wanted (Some t) = same_type wanted t

-- the others, where the last one is of this type
abbrev pub taken : ValType → Operands → Result Operands ValidKind
taken t operands = do
  top ← pop operands
  _ ← needs Mismatch (fits t top.0)
  Ok top.1

-- so with several, the last one first
abbrev pub all_taken : List ValType → Operands → Result Operands ValidKind
all_taken [] operands = Ok operands
all_taken (t ∷ types) operands = taken t operands >>= all_taken types

abbrev pub pushed : Option ValType → Operands → Operands
pushed t operands = record { types = t ∷ operands.types; any = operands.any }

abbrev pub given : Option ValType → Operands → Operands
given None operands = operands
given (Some t) operands = pushed (Some t) operands

-- ---- the type of an instruction

pub data Rule : Type 0 where
  -- takes operands of these types, the last one first, and gives this one
  turns : List ValType → Option ValType → Rule
  -- takes these, and what comes after it is never reached
  jumps : List ValType → Rule
  -- takes one operand, of any type
  drops : Rule
  -- takes an i32 and then two of the same type, and gives one of it
  selects : Rule

abbrev pub fits_both : Option ValType → Option ValType → Bool
fits_both None t = true
fits_both (Some t) u = fits t u

abbrev pub known : Option ValType → Option ValType → Option ValType
known None t = t
known (Some t) u = Some t

abbrev pub selected : Operands → Result Operands ValidKind
selected operands = do
  left ← taken I32 operands
  second ← pop left
  first ← pop second.1
  _ ← needs Mismatch (fits_both second.0 first.0)
  Ok (pushed (known second.0 first.0) first.1)

abbrev pub after_rule : Rule → Operands → Result Operands ValidKind
after_rule (turns takes gives) operands = do
  left ← all_taken takes operands
  Ok (given gives left)
after_rule (jumps takes) operands = do
  _ ← all_taken takes operands
  Ok any_operands
after_rule drops operands = do
  top ← pop operands
  Ok top.1
after_rule selects operands = selected operands

pub record GlobalType : Type 0 where
  pub ty : ValType
  pub mutable : Bool

-- what instructions may name (core 1.0, section 3.1): the types of functions, the type of each function, the numbers of tables and memories,
-- the globals; and of the function that they are in the locals, the result and the labels of its `br_table`s
pub record Context : Type 0 where
  pub types : List PlainFuncType
  pub funcs : List ℕ
  pub tables : ℕ
  pub memories : ℕ
  pub globals : List GlobalType
  pub locals : List ValType
  pub result : Option ValType
  pub targets : List ℕ

abbrev pub one : ValType → ValType → Rule
one takes gives = turns (takes ∷ []) (Some gives)

abbrev pub two : ValType → ValType → Rule
two takes gives = turns (takes ∷ takes ∷ []) (Some gives)

-- the numeric instructions, nop among them
unfoldable pub numeric : ℕ → Rule
numeric op =
    if op == 0x45 then one I32 I32
    else (if is_within 0x46 0x4F op then two I32 I32
    else (if op == 0x50 then one I64 I32
    else (if is_within 0x51 0x5A op then two I64 I32
    else (if is_within 0x67 0x69 op || is_within 0xC0 0xC1 op then one I32 I32
    else (if is_within 0x6A 0x78 op then two I32 I32
    else (if is_within 0x79 0x7B op || is_within 0xC2 0xC4 op then one I64 I64
    else (if is_within 0x7C 0x8A op then two I64 I64
    else (if op == 0xA7 then one I64 I32
    else (if is_within 0xAC 0xAD op then one I32 I64
    else turns [] None)))))))))

abbrev pub memory_needed : Context → Rule → Result Rule ValidKind
memory_needed c r = do
  _ ← needs MemoryIndex (nat_lt 0 c.memories)
  Ok r

-- the instructions that are an opcode alone
unfoldable pub op_rule : Context → ℕ → Result Rule ValidKind
op_rule c op =
    if op == 0x00 then Ok (jumps [])
    else (if op == 0x0F then Ok (jumps (option_to_list c.result))
    else (if op == 0x1A then Ok drops
    else (if op == 0x1B then Ok selects
    else (if op == 0x3F then memory_needed c (turns [] (Some I32))
    else (if op == 0x40 then memory_needed c (one I32 I32)
    else Ok (numeric op))))))

abbrev pub called : List ValType → PlainFuncType → Rule
called first t = turns (first ++ reverse t.params) t.result

abbrev pub call_rule : Context → ℕ → Result Rule ValidKind
call_rule c i = do
  f ← found FuncIndex (slice_get c.funcs i)
  t ← found TypeIndex (slice_get c.types f)
  Ok (called [] t)

abbrev pub call_indirect_rule : Context → ℕ → Result Rule ValidKind
call_indirect_rule c i = do
  _ ← needs TableIndex (nat_lt 0 c.tables)
  t ← found TypeIndex (slice_get c.types i)
  Ok (called (I32 ∷ []) t)

-- branches take what the label takes; a conditional one gives it back
abbrev pub branch_rule : List (Option ValType) → ℕ → Result Rule ValidKind
branch_rule labels i = do
  t ← found Label (slice_get labels i)
  Ok (jumps (option_to_list t))

abbrev pub branch_if_rule : List (Option ValType) → ℕ → Result Rule ValidKind
branch_if_rule labels i = do
  t ← found Label (slice_get labels i)
  Ok (turns (I32 ∷ option_to_list t) t)

abbrev pub local_rule : ℕ → ValType → Rule
local_rule op t = if op == 0x20 then turns [] (Some t) else (if op == 0x21 then turns (t ∷ []) None else one t t)

abbrev pub local_needed : Context → ℕ → ℕ → Result Rule ValidKind
local_needed c op i = do
  t ← found LocalIndex (slice_get c.locals i)
  Ok (local_rule op t)

abbrev pub global_get_rule : Context → ℕ → Result Rule ValidKind
global_get_rule c i = do
  g ← found GlobalIndex (slice_get c.globals i)
  Ok (turns [] (Some g.ty))

abbrev pub global_set_rule : Context → ℕ → Result Rule ValidKind
global_set_rule c i = do
  g ← found GlobalIndex (slice_get c.globals i)
  _ ← needs Immutable g.mutable
  Ok (turns (g.ty ∷ []) None)

-- br, br_if and call; local.get, local.set and local.tee; global.get and global.set
unfoldable pub index_rule : Context → List (Option ValType) → ℕ → ℕ → Result Rule ValidKind
index_rule c labels op i =
    if op == 0x0C then branch_rule labels i
    else (if op == 0x0D then branch_if_rule labels i
    else (if op == 0x10 then call_rule c i
    else (if op == 0x23 then global_get_rule c i
    else (if op == 0x24 then global_set_rule c i
    else local_needed c op i))))

abbrev pub same_result : Option ValType → Option ValType → Bool
same_result None None = true
same_result (Some t) (Some u) = same_type t u
same_result None (Some u) = false
same_result (Some t) None = false

abbrev pub is_of : Option ValType → Result (Option ValType) ValidKind → Bool
is_of t (Ok u) = same_result t u
is_of t (Err kind) = false

-- all labels have to be there, and then to be of one type
unfoldable pub table_rule : List (Option ValType) → List ℕ → ℕ → Result Rule ValidKind
table_rule labels targets default = do
  t ← found Label (slice_get labels default)
  _ ← needs Label (list_all (λ l. nat_lt l (length labels)) targets)
  _ ← needs Mismatch (list_all (λ l. is_of t (found Label (slice_get labels l))) targets)
  Ok (jumps (I32 ∷ option_to_list t))

-- a load's or store's natural alignment, as an exponent of 2, and the type of its value
unfoldable pub natural_alignment : ℕ → ℕ
natural_alignment op =
    if is_within 0x2C 0x2D op || is_within 0x30 0x31 op || op == 0x3A || op == 0x3C then 0
    else (if is_within 0x2E 0x2F op || is_within 0x32 0x33 op || op == 0x3B || op == 0x3D then 1
    else (if op == 0x29 || op == 0x37 then 3 else 2))

unfoldable pub accessed : ℕ → ValType
accessed op = if op == 0x28 || is_within 0x2C 0x2F op || op == 0x36 || is_within 0x3A 0x3B op then I32 else I64

abbrev pub access_rule : ℕ → Rule
access_rule op = if nat_le op 0x35 then one I32 (accessed op) else turns (accessed op ∷ I32 ∷ []) None

abbrev pub memory_rule : Context → ℕ → ℕ → Result Rule ValidKind
memory_rule c op align = do
  _ ← needs MemoryIndex (nat_lt 0 c.memories)
  _ ← needs Align (nat_le align (natural_alignment op))
  Ok (access_rule op)

abbrev pub type_of : Value → ValType
type_of (values.I32 n) = I32
type_of (values.I64 n) = I64

-- the type of an instruction that holds no others, under these labels, the innermost first
unfoldable pub rule : Context → List (Option ValType) → Instr → Result Rule ValidKind
rule c labels (instrs.Op op) = op_rule c op
rule c labels (instrs.Index op i) = index_rule c labels op i
rule c labels (instrs.CallIndirect ty) = call_indirect_rule c ty
rule c labels (instrs.BrTable first count default) = table_rule labels (take count (drop first c.targets)) default
rule c labels (instrs.Mem op align offset) = memory_rule c op align
rule c labels (instrs.Const value) = Ok (turns [] (Some (type_of value)))
rule c labels i = Ok (turns [] None)

abbrev pub after_instr : Context → List (Option ValType) → Instr → Operands → Result Operands ValidKind
after_instr c labels i operands = do
  r ← rule c labels i
  after_rule r operands

-- ---- the first fault among nested instructions

abbrev pub or_else : {A : Type 0} → Option A → Option A → Option A
or_else (Some a) later = Some a
or_else None later = later

abbrev pub nothing_left : List (Option ValType) → Result (Unit {0}) ValidKind
nothing_left [] = Ok tt
nothing_left (t ∷ types) = Err Leftover

-- where a part of a block ends, its result is taken, and nothing is left over
abbrev pub ended : Option ValType → Operands → Result (Unit {0}) ValidKind
ended result operands = do
  left ← all_taken (option_to_list result) operands
  nothing_left left.types

abbrev pub or_fault : {A : Type 0} → ℕ → Result A ValidKind → (A → Option (ℕ × ValidKind)) → Option (ℕ × ValidKind)
or_fault at (Ok a) later = later a
or_fault at (Err kind) later = Some (at, kind)

-- The place and kind of the first fault of a part of a block with this result, under these labels.
unfoldable pub fault_in : Context → Option ValType → List (Option ValType) → Nested → Operands → Option (ℕ × ValidKind)
fault_in c result labels (stop at) operands = or_fault at (ended result operands) (λ _. None)
fault_in c result labels (plain at i rest) operands = or_fault at (after_instr c labels i operands) (λ left. fault_in c result labels rest left)
fault_in c result labels (block t held rest) operands = or_else (fault_in c t (t ∷ labels) held no_operands) (fault_in c result labels rest (given t operands))
fault_in c result labels (loop t held rest) operands = or_else (fault_in c t (None ∷ labels) held no_operands) (fault_in c result labels rest (given t operands))
fault_in c result labels (if_ at t first second rest) operands =
    or_fault at (taken I32 operands) (λ left.
    or_else (fault_in c t (t ∷ labels) first no_operands)
    (or_else (fault_in c t (t ∷ labels) second no_operands) (fault_in c result labels rest (given t left))))

-- the first fault of a body, which is a block with the function's result
abbrev pub body_fault : Context → List Instr → Option (ℕ × ValidKind)
body_fault c body = fault_in c c.result (c.result ∷ []) (nested_body body) no_operands
