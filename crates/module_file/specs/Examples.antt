-- What the definitions say of small values.
use Rattle.std.specs.Prelude.{◌≡◌, [], ◌∷◌, ◌++◌, replicate, Some, None, refl}
use Rattle.wasm_types.specs.declared.value.ValType.TheVariants as val_types
use Rattle.wasm_types.specs.declared.value.Value.TheVariants as values
use Rattle.wasm_types.specs.declared.instr.Instr.TheVariants.{Mem, Const, If}
use Rattle.wasm_types.specs.Opcodes.{shape}
use Rattle.wasm_types.specs.Plain.{PlainModule}
use Rattle.module_file.specs.Form.{front_read, word_read, index, long, times_read, list_text, list_read, optional_text, optional_read}
use Rattle.module_file.specs.Parts.{val_type, func_type}
use Rattle.module_file.specs.Codes.{instr}
use Rattle.module_file.specs.ModuleFile.{later_lists, lists, magic, file, file_text, module_in}

abbrev pub empty : PlainModule
empty = record { types = []; imports = []; funcs = []; tables = []; memories = []; globals = []; exports = []; elems = []; codes = []; segs = [] }

-- ten counts of 0 behind the letters
empty_file : file_text empty ≡ magic ++ replicate 40 0
unfolding file lists later_lists list_text index
empty_file = refl

empty_is_read : module_in (magic ++ replicate 40 0) ≡ Some empty
unfolding module_in file lists later_lists word_read list_read index front_read times_read
empty_is_read = refl

one_byte_more : module_in (magic ++ replicate 41 0) ≡ None
unfolding module_in file lists later_lists word_read list_read index front_read times_read
one_byte_more = refl

one_byte_less : module_in (magic ++ replicate 39 0) ≡ None
unfolding module_in file lists later_lists word_read list_read index front_read times_read
one_byte_less = refl

-- two parameters and a result
type_text : func_type.text (record { params = val_types.I32 ∷ val_types.I64 ∷ []; result = Some val_types.I32 }) ≡ 2 ∷ 0 ∷ 0 ∷ 0 ∷ 0x7F ∷ 0x7E ∷ 1 ∷ 0x7F ∷ []
unfolding func_type list_text index optional_text val_type
type_text = refl

-- minus one has no byte for its type but its opcode
constant_text : instr.text (Const (values.I64 18446744073709551615)) ≡ 0x42 ∷ replicate 8 0xFF
unfolding instr long
constant_text = refl

if_text : instr.text (If (Some val_types.I64) (Some 2) 0x0304) ≡ 0x04 ∷ 1 ∷ 0x7E ∷ 1 ∷ 2 ∷ 0 ∷ 0 ∷ 0 ∷ 4 ∷ 3 ∷ 0 ∷ 0 ∷ []
unfolding instr index optional_text val_type
if_text = refl

access_is_read : instr.read (0x28 ∷ 2 ∷ 0 ∷ 0 ∷ 0 ∷ 4 ∷ 0 ∷ 0 ∷ 0 ∷ 0x0B ∷ []) ≡ Some (Mem 0x28 2 4, 0x0B ∷ [])
unfolding instr shape index front_read
access_is_read = refl

-- a load of a float
float_is_refused : instr.read (0x2A ∷ replicate 8 0) ≡ None
unfolding instr shape
float_is_refused = refl

-- whether there is an `else` is told by 0 or 1
other_flag_is_refused : instr.read (0x04 ∷ 0 ∷ 2 ∷ replicate 8 0) ≡ None
unfolding instr shape index front_read optional_read
other_flag_is_refused = refl
