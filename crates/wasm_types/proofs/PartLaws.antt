-- Each part of sections is lawful.
use Rattle.std.proofs.Common.{ℕ, zero, suc, Bool, true, false, Some, None}
use Rattle.std.specs.Prelude.{nat_le}
use Rattle.std.specs.Str.{is_utf8}
use Rattle.wasm_types.specs.declared.kind.ReadKind.TheVariants.{Cut, Name, Form, ValueType, Results}
use Rattle.wasm_types.specs.declared.sort.Sort.{Sort}
use Rattle.wasm_types.specs.declared.sort.Sort.TheVariants as sorts
use Rattle.wasm_types.specs.declared.opcode.ConstOp.{ConstOp}
use Rattle.wasm_types.specs.declared.opcode.ConstOp.TheVariants as consts
use Rattle.wasm_types.specs.Opcodes.{const_op}
use Rattle.wasm_types.specs.Part.{marker}
use Rattle.wasm_types.specs.Types.{text, val_type, val_type_of, so_many_results, result_type, func_type, flag, flag_of, limits_with, limits, table, sort_of, global_desc, desc_of, desc, import_, ext_of, ext, export_, const_operand, const_value, const_end, end_of, init, global, elem, seg}
use Rattle.wasm_types.proofs.Lawful.{Lawful, Anything, lawful_done, lawful_bind, lawful_byte_or, lawful_number, lawful_judged, lawful_anything, lawful_vector, lawful_sized}

pub lawful_text : Lawful Anything text
unfolding text
lawful_text = lawful_sized (lawful_judged Name is_utf8 lawful_anything)

pub lawful_val_type : Lawful Anything val_type
unfolding val_type
lawful_val_type = lawful_byte_or Cut val_type_of

lawful_results : (n : ℕ) → Lawful Anything (so_many_results n)
lawful_results zero = lawful_done None
lawful_results (suc n) = lawful_bind lawful_val_type (λ t. lawful_done (Some t))

lawful_result_type : Lawful Anything result_type
unfolding result_type
lawful_result_type = lawful_bind (lawful_judged Results (λ n. nat_le n 1) (lawful_number false 32)) lawful_results

pub lawful_func_type : Lawful Anything func_type
unfolding func_type
lawful_func_type = lawful_bind (lawful_byte_or Cut (marker 0x60 Form)) (λ _. lawful_bind (lawful_vector lawful_val_type) (λ params. lawful_bind lawful_result_type (λ result. lawful_done _)))

lawful_flag : Lawful Anything flag
unfolding flag
lawful_flag = lawful_byte_or Cut flag_of

lawful_limits_with : (has_max : Bool) (min : ℕ) → Lawful Anything (limits_with has_max min)
lawful_limits_with false min = lawful_done _
lawful_limits_with true min = lawful_bind (lawful_number false 32) (λ max. lawful_done _)

pub lawful_limits : Lawful Anything limits
unfolding limits
lawful_limits = lawful_bind lawful_flag (λ has_max. lawful_bind (lawful_number false 32) (λ min. lawful_limits_with has_max min))

pub lawful_table : Lawful Anything table
unfolding table
lawful_table = lawful_bind (lawful_byte_or Cut (marker 0x70 ValueType)) (λ _. lawful_limits)

lawful_global_desc : Lawful Anything global_desc
unfolding global_desc
lawful_global_desc = lawful_bind lawful_val_type (λ ty. lawful_bind lawful_flag (λ mutable. lawful_done _))

lawful_desc_of : (sort : Sort) → Lawful Anything (desc_of sort)
lawful_desc_of sorts.Func = lawful_bind (lawful_number false 32) (λ ty. lawful_done _)
lawful_desc_of sorts.Table = lawful_bind lawful_table (λ size. lawful_done _)
lawful_desc_of sorts.Memory = lawful_bind lawful_limits (λ size. lawful_done _)
lawful_desc_of sorts.Global = lawful_global_desc

lawful_desc : Lawful Anything desc
unfolding desc
lawful_desc = lawful_bind (lawful_byte_or Cut sort_of) lawful_desc_of

pub lawful_import : Lawful Anything import_
unfolding import_
lawful_import = lawful_bind lawful_text (λ from. lawful_bind lawful_text (λ name. lawful_bind lawful_desc (λ what. lawful_done _)))

lawful_ext : Lawful Anything ext
unfolding ext
lawful_ext = lawful_bind (lawful_byte_or Cut sort_of) (λ sort. lawful_bind (lawful_number false 32) (λ i. lawful_done (ext_of sort i)))

pub lawful_export : Lawful Anything export_
unfolding export_
lawful_export = lawful_bind lawful_text (λ name. lawful_bind lawful_ext (λ what. lawful_done _))

lawful_const_operand : (op : ConstOp) → Lawful Anything (const_operand op)
lawful_const_operand consts.I32Const = lawful_bind (lawful_number true 32) (λ n. lawful_done _)
lawful_const_operand consts.I64Const = lawful_bind (lawful_number true 64) (λ n. lawful_done _)
lawful_const_operand consts.GlobalGet = lawful_bind (lawful_number false 32) (λ i. lawful_done _)

lawful_const_value : Lawful Anything const_value
unfolding const_value
lawful_const_value = lawful_bind (lawful_byte_or Cut const_op) lawful_const_operand

lawful_const_end : Lawful Anything const_end
unfolding const_end
lawful_const_end = lawful_byte_or Cut end_of

lawful_init : Lawful Anything init
unfolding init
lawful_init = lawful_bind lawful_const_value (λ value. lawful_bind lawful_const_end (λ _. lawful_done value))

pub lawful_global : Lawful Anything global
unfolding global
lawful_global = lawful_bind lawful_val_type (λ ty. lawful_bind lawful_flag (λ mutable. lawful_bind lawful_init (λ value. lawful_done _)))

pub lawful_elem : Lawful Anything elem
unfolding elem
lawful_elem = lawful_bind (lawful_number false 32) (λ table. lawful_bind lawful_init (λ offset. lawful_bind (lawful_vector (lawful_number false 32)) (λ funcs. lawful_done _)))

pub lawful_seg : Lawful Anything seg
unfolding seg
lawful_seg = lawful_bind (lawful_number false 32) (λ memory. lawful_bind lawful_init (λ offset. lawful_bind (lawful_sized lawful_anything) (λ bytes. lawful_done _)))
