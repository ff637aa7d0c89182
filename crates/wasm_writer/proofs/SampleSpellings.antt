-- The samples have spellings: what is read from the bytes that the definition gives is the sample again.
use Rattle.std.proofs.Common.{◌≡◌, ℕ, Bool, true, List, [], ◌∷◌, Some, refl}
use Rattle.std.specs.Prelude.{nat_lt, ◌&&◌}
use Rattle.std.specs.Str.{is_utf8, chars}
use Rattle.std.proofs.lemmas.Bool.{ltb-true, and_parts}
use lib.Utf8.{encode}
use Rattle.wasm_types.specs.Plain.{PlainModule}
use Rattle.wasm_types.specs.ModuleText.{module_of, module_part, HasSpelling}
use Rattle.wasm_types.specs.Part as part
use Rattle.wasm_types.specs.ModuleText as modules
use Rattle.wasm_types.specs.Types as types
use Rattle.wasm_types.specs.Body as bodies
use Rattle.wasm_types.specs.Number.{number_at, number_read}
use Rattle.wasm_types.specs.Opcodes.{shape, const_op}
use Rattle.wasm_types.proofs.TextLaws.{is_the_spelled}
use Rattle.wasm_writer.specs.ShortNumber.{unsigned_in, signed_in}
use Rattle.wasm_writer.specs.Spelling.{spelling_of, vector_text, sized_text}
use Rattle.wasm_writer.specs.Samples.{echo_module, spin_module, keeper_module, common_module, sign_module}
use Rattle.wasm_writer.proofs.Least.{Bytes, are_bytes}

abbrev all_bytes : List ℕ → Bool
all_bytes [] = true
all_bytes (b ∷ text) = nat_lt b 256 && all_bytes text

bytes_from : (text : List ℕ) → all_bytes text ≡ true → Bytes text
bytes_from [] e = tt
bytes_from (b ∷ text) e = let p = and_parts (nat_lt b 256) (all_bytes text) e in (ltb-true b 256 p.0, bytes_from text p.1)

spelled : (m : PlainModule) → all_bytes (spelling_of m) ≡ true → module_of (spelling_of m) ≡ Some m → HasSpelling m
spelled m fits again =
    let bytes = are_bytes (spelling_of m) (bytes_from (spelling_of m) fits) in
    (spelling_of m, (is_the_spelled (spelling_of m) m bytes).0 again)

echo_bytes : all_bytes (spelling_of echo_module) ≡ true
unfolding spelling_of vector_text sized_text unsigned_in signed_in shape echo_module
echo_bytes = refl

echo_again : module_of (spelling_of echo_module) ≡ Some echo_module
unfolding is_utf8 chars encode spelling_of vector_text sized_text unsigned_in signed_in shape const_op echo_module number_at number_read module_part part.word_read part.next_read part.times_read part.length_read part.part_read part.used_up_read part.sized_read modules.named_bytes modules.custom modules.customs_read modules.section_read modules.end_read types.text types.val_type types.result_type types.func_type types.flag types.limits types.table types.global_desc types.desc types.import_ types.ext types.export_ types.const_value types.const_end types.init types.global types.elem types.seg bodies.group bodies.groups_read bodies.locals bodies.opcode bodies.block_type bodies.reserved bodies.br_table bodies.memory_access bodies.call_indirect bodies.instr bodies.body_read bodies.closings bodies.placed bodies.code
echo_again = refl

pub echo_spelled : HasSpelling echo_module
echo_spelled = spelled echo_module echo_bytes echo_again

spin_bytes : all_bytes (spelling_of spin_module) ≡ true
unfolding spelling_of vector_text sized_text unsigned_in signed_in shape spin_module
spin_bytes = refl

spin_again : module_of (spelling_of spin_module) ≡ Some spin_module
unfolding is_utf8 chars encode spelling_of vector_text sized_text unsigned_in signed_in shape const_op spin_module number_at number_read module_part part.word_read part.next_read part.times_read part.length_read part.part_read part.used_up_read part.sized_read modules.named_bytes modules.custom modules.customs_read modules.section_read modules.end_read types.text types.val_type types.result_type types.func_type types.flag types.limits types.table types.global_desc types.desc types.import_ types.ext types.export_ types.const_value types.const_end types.init types.global types.elem types.seg bodies.group bodies.groups_read bodies.locals bodies.opcode bodies.block_type bodies.reserved bodies.br_table bodies.memory_access bodies.call_indirect bodies.instr bodies.body_read bodies.closings bodies.placed bodies.code
spin_again = refl

pub spin_spelled : HasSpelling spin_module
spin_spelled = spelled spin_module spin_bytes spin_again

keeper_bytes : all_bytes (spelling_of keeper_module) ≡ true
unfolding spelling_of vector_text sized_text unsigned_in signed_in shape keeper_module
keeper_bytes = refl

keeper_again : module_of (spelling_of keeper_module) ≡ Some keeper_module
unfolding is_utf8 chars encode spelling_of vector_text sized_text unsigned_in signed_in shape const_op keeper_module number_at number_read module_part part.word_read part.next_read part.times_read part.length_read part.part_read part.used_up_read part.sized_read modules.named_bytes modules.custom modules.customs_read modules.section_read modules.end_read types.text types.val_type types.result_type types.func_type types.flag types.limits types.table types.global_desc types.desc types.import_ types.ext types.export_ types.const_value types.const_end types.init types.global types.elem types.seg bodies.group bodies.groups_read bodies.locals bodies.opcode bodies.block_type bodies.reserved bodies.br_table bodies.memory_access bodies.call_indirect bodies.instr bodies.body_read bodies.closings bodies.placed bodies.code
keeper_again = refl

pub keeper_spelled : HasSpelling keeper_module
keeper_spelled = spelled keeper_module keeper_bytes keeper_again

common_bytes : all_bytes (spelling_of common_module) ≡ true
unfolding spelling_of vector_text sized_text unsigned_in signed_in shape common_module
common_bytes = refl

common_again : module_of (spelling_of common_module) ≡ Some common_module
unfolding is_utf8 chars encode spelling_of vector_text sized_text unsigned_in signed_in shape const_op common_module number_at number_read module_part part.word_read part.next_read part.times_read part.length_read part.part_read part.used_up_read part.sized_read modules.named_bytes modules.custom modules.customs_read modules.section_read modules.end_read types.text types.val_type types.result_type types.func_type types.flag types.limits types.table types.global_desc types.desc types.import_ types.ext types.export_ types.const_value types.const_end types.init types.global types.elem types.seg bodies.group bodies.groups_read bodies.locals bodies.opcode bodies.block_type bodies.reserved bodies.br_table bodies.memory_access bodies.call_indirect bodies.instr bodies.body_read bodies.closings bodies.placed bodies.code
common_again = refl

pub common_spelled : HasSpelling common_module
common_spelled = spelled common_module common_bytes common_again

sign_bytes : all_bytes (spelling_of sign_module) ≡ true
unfolding spelling_of vector_text sized_text unsigned_in signed_in shape sign_module
sign_bytes = refl

sign_again : module_of (spelling_of sign_module) ≡ Some sign_module
unfolding is_utf8 chars encode spelling_of vector_text sized_text unsigned_in signed_in shape const_op sign_module number_at number_read module_part part.word_read part.next_read part.times_read part.length_read part.part_read part.used_up_read part.sized_read modules.named_bytes modules.custom modules.customs_read modules.section_read modules.end_read types.text types.val_type types.result_type types.func_type types.flag types.limits types.table types.global_desc types.desc types.import_ types.ext types.export_ types.const_value types.const_end types.init types.global types.elem types.seg bodies.group bodies.groups_read bodies.locals bodies.opcode bodies.block_type bodies.reserved bodies.br_table bodies.memory_access bodies.call_indirect bodies.instr bodies.body_read bodies.closings bodies.placed bodies.code
sign_again = refl

pub sign_spelled : HasSpelling sign_module
sign_spelled = spelled sign_module sign_bytes sign_again
