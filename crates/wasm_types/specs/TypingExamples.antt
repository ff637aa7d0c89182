-- Small bodies and codes at which the definitions of typing and of the gate compute to what the standard and this host say.
use Rattle.std.specs.Prelude.{◌≡◌, [], ◌∷◌, Some, None, refl}
use Rattle.wasm_types.specs.declared.kind.ReadKind.TheVariants.{Cut}
use Rattle.wasm_types.specs.declared.kind.ValidKind.TheVariants.{Underflow, Mismatch, Leftover}
use Rattle.wasm_types.specs.declared.value.ValType.TheVariants.{I32}
use Rattle.wasm_types.specs.declared.value.Value.TheVariants as values
use Rattle.wasm_types.specs.declared.instr.Instr.TheVariants.{Op, Index, Const, Loop, If, Else, End}
use Rattle.wasm_types.specs.Plain.{gzip, read, memory_missing}
use Rattle.wasm_types.specs.Nesting.{parts}
use Rattle.wasm_types.specs.Typing.{Context, numeric, op_rule, index_rule, rule, fault_in, body_fault}
use Rattle.wasm_types.specs.Validity.{first_fault, bodies_fault, valid_fault}
use Rattle.wasm_types.specs.Part as part
use Rattle.wasm_types.specs.ModuleText as modules
use Rattle.wasm_types.specs.ModuleText.{header, module_part}
use Rattle.wasm_types.specs.Gate.{first_refused, gate}

-- a function without parameters and result, in a module that has nothing
abbrev alone : Context
alone = record { types = []; funcs = []; tables = 0; memories = 0; globals = []; locals = []; result = None; targets = [] }

-- i64.const, i32.add
takes_from_the_top : body_fault alone (Const (values.I64 0) ∷ Op 0x6A ∷ End ∷ []) ≡ Some (1, Mismatch)
unfolding parts fault_in rule op_rule index_rule numeric
takes_from_the_top = refl

-- an `if` with a result and without `else`
wants_the_other_part : body_fault alone (Const (values.I32 1) ∷ If (Some I32) None 3 ∷ Const (values.I32 1) ∷ End ∷ Op 0x1A ∷ End ∷ []) ≡ Some (3, Underflow)
unfolding parts fault_in rule op_rule index_rule numeric
wants_the_other_part = refl

both_parts : body_fault alone (Const (values.I32 1) ∷ If (Some I32) (Some 3) 5 ∷ Const (values.I32 1) ∷ Else 5 ∷ Const (values.I32 2) ∷ End ∷ Op 0x1A ∷ End ∷ []) ≡ None
unfolding parts fault_in rule op_rule index_rule numeric
both_parts = refl

-- unreachable, i32.add, select, drop: operands of any type
after_a_branch : body_fault alone (Op 0x00 ∷ Op 0x6A ∷ Op 0x1B ∷ Op 0x1A ∷ End ∷ []) ≡ None
unfolding parts fault_in rule op_rule index_rule numeric
after_a_branch = refl

-- a branch to a loop takes nothing; what it leaves is of any type
loops : body_fault alone (Loop (Some I32) 2 ∷ Index 0x0C 0 ∷ End ∷ Op 0x1A ∷ End ∷ []) ≡ None
unfolding parts fault_in rule op_rule index_rule numeric
loops = refl

left_over : body_fault alone (Const (values.I32 1) ∷ End ∷ []) ≡ Some (1, Leftover)
unfolding parts fault_in rule op_rule index_rule numeric
left_over = refl

module_without_memory : gate header [] ≡ Some memory_missing
unfolding gate valid_fault first_fault bodies_fault first_refused module_part part.word_read modules.customs_read modules.section_read modules.end_read
module_without_memory = refl

compressed : gate (0x1F ∷ 0x8B ∷ 0x08 ∷ []) [] ≡ Some gzip
unfolding gate valid_fault first_fault bodies_fault first_refused module_part part.word_read modules.customs_read modules.section_read modules.end_read
compressed = refl

no_bytes : gate [] [] ≡ Some (read Cut 0)
unfolding gate valid_fault first_fault bodies_fault first_refused module_part part.word_read modules.customs_read modules.section_read modules.end_read
no_bytes = refl
