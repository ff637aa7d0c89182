-- What the definitions say of small inputs: numbers, and where bytes behind the header break first, for each of the 18 kinds.
use lib.Utf8.{encode}
use Rattle.std.specs.Str.{is_utf8, chars}
use Rattle.std.specs.Prelude.{◌≡◌, ℕ, true, false, List, [], ◌∷◌, ◌++◌, Some, None, refl}
use Rattle.wasm_types.specs.declared.kind.ReadKind.{ReadKind}
use Rattle.wasm_types.specs.declared.kind.ReadKind.TheVariants.{Cut, Magic, Leb, Section, Start, Size, Name, Form, ValueType, Float, Results, Kind, Flag, Reserved, Opcode, Nesting, Locals, Count}
use Rattle.wasm_types.specs.Opcodes.{shape}
use Rattle.wasm_types.specs.Number.{number_at, is_cut_number, number_read}
use Rattle.wasm_types.specs.ModuleText.{header, broken, module_of, module_part}
use Rattle.wasm_types.specs.Types.{text, func_type, val_type, result_type, import_, desc, flag, limits}
use Rattle.wasm_types.specs.Body.{group, groups_read, locals, opcode, reserved, instr, body_read, code, closings, placed}
use Rattle.wasm_types.specs.declared.instr.Instr.TheVariants.{Block, If, Else, End}
use Rattle.wasm_types.specs.Part as part
use Rattle.wasm_types.specs.ModuleText as modules

three_bytes : number_at false 32 0 (0xE5 ∷ 0x8E ∷ 0x26 ∷ []) ≡ Some (624485, record { at = 3; rest = [] })
unfolding number_at
three_bytes = refl

greatest_unsigned : number_at false 32 0 (0xFF ∷ 0xFF ∷ 0xFF ∷ 0xFF ∷ 0x0F ∷ []) ≡ Some (4294967295, record { at = 5; rest = [] })
unfolding number_at
greatest_unsigned = refl

bits_that_do_not_count : number_at false 32 0 (0xFF ∷ 0xFF ∷ 0xFF ∷ 0xFF ∷ 0x1F ∷ []) ≡ None
unfolding number_at
bits_that_do_not_count = refl

minus_one_in_five_bytes : number_at true 32 0 (0xFF ∷ 0xFF ∷ 0xFF ∷ 0xFF ∷ 0x7F ∷ []) ≡ Some (4294967295, record { at = 5; rest = [] })
unfolding number_at
minus_one_in_five_bytes = refl

copies_of_the_sign_wanted : number_at true 32 0 (0xFF ∷ 0xFF ∷ 0xFF ∷ 0xFF ∷ 0x0F ∷ []) ≡ None
unfolding number_at
copies_of_the_sign_wanted = refl

minus_one : number_at true 32 0 (0x7F ∷ []) ≡ Some (4294967295, record { at = 1; rest = [] })
unfolding number_at
minus_one = refl

zero_in_five_bytes : number_at false 32 0 (0x80 ∷ 0x80 ∷ 0x80 ∷ 0x80 ∷ 0 ∷ []) ≡ Some (0, record { at = 5; rest = [] })
unfolding number_at
zero_in_five_bytes = refl

minus_one_of_64_bits : number_at true 64 0 (0x7F ∷ []) ≡ Some (18446744073709551615, record { at = 1; rest = [] })
unfolding number_at
minus_one_of_64_bits = refl

unknown_section : broken (header ++ 0x0C ∷ 0 ∷ []) ≡ Some (record { at = 8; kind = Section })
unfolding module_part part.word_read modules.customs_read modules.section_read modules.end_read
unknown_section = refl

start_section : broken (header ++ 0x08 ∷ 1 ∷ 0 ∷ []) ≡ Some (record { at = 8; kind = Start })
unfolding module_part part.word_read modules.customs_read modules.section_read modules.end_read
start_section = refl

length_passes_the_end : broken (header ++ 0x01 ∷ 5 ∷ 0 ∷ []) ≡ Some (record { at = 9; kind = Cut })
unfolding module_part part.word_read modules.customs_read modules.section_read modules.end_read part.next_read part.sized_read part.length_read part.part_read part.used_up_read number_read number_at
length_passes_the_end = refl

number_cut_by_its_section : broken (header ++ 0x01 ∷ 1 ∷ 0x80 ∷ []) ≡ Some (record { at = 10; kind = Cut })
unfolding module_part part.word_read modules.customs_read modules.section_read modules.end_read part.next_read part.sized_read part.length_read part.part_read part.used_up_read number_read number_at is_cut_number
number_cut_by_its_section = refl

byte_left_over : broken (header ++ 0x01 ∷ 2 ∷ 0 ∷ 0 ∷ []) ≡ Some (record { at = 11; kind = Size })
unfolding module_part part.word_read modules.customs_read modules.section_read modules.end_read part.next_read part.sized_read part.length_read part.part_read part.used_up_read number_read number_at is_cut_number part.times_read
byte_left_over = refl

float_type : broken (header ++ 0x01 ∷ 5 ∷ 1 ∷ 0x60 ∷ 1 ∷ 0x7D ∷ 0 ∷ []) ≡ Some (record { at = 13; kind = Float })
unfolding module_part part.word_read modules.customs_read modules.section_read modules.end_read part.next_read part.sized_read part.length_read part.part_read part.used_up_read number_read number_at is_cut_number part.times_read func_type val_type
float_type = refl

other_header : broken (1 ∷ []) ≡ Some (record { at = 0; kind = Magic })
unfolding module_part part.word_read
other_header = refl

header_alone : module_of header ≡ Some (record { types = []; imports = []; funcs = []; tables = []; memories = []; globals = []; exports = []; elems = []; codes = []; segs = [] })
unfolding module_part part.word_read modules.customs_read modules.section_read modules.end_read
header_alone = refl

no_bytes : broken [] ≡ Some (record { at = 0; kind = Cut })
unfolding module_part part.word_read
no_bytes = refl

-- these bytes behind the header break at this place, with this kind
abbrev pub BehindHeader : List ℕ → ℕ → ReadKind → Type 0
BehindHeader bytes at kind = broken (header ++ bytes) ≡ Some (record { at = at; kind = kind })

pub record EachKind : Type 0 where
  pub cut : BehindHeader (0x01 ∷ 1 ∷ 0x80 ∷ []) 10 Cut
  pub magic : broken (0 ∷ 0x61 ∷ 0x73 ∷ 0x6D ∷ 2 ∷ 0 ∷ 0 ∷ 0 ∷ []) ≡ Some (record { at = 0; kind = Magic })
  -- a length with bits that don't count
  pub leb : BehindHeader (0x01 ∷ 0xFF ∷ 0xFF ∷ 0xFF ∷ 0xFF ∷ 0x1F ∷ []) 9 Leb
  -- the section of types twice
  pub section : BehindHeader (0x01 ∷ 1 ∷ 0 ∷ 0x01 ∷ 1 ∷ 0 ∷ []) 11 Section
  pub start : BehindHeader (0x08 ∷ 1 ∷ 0 ∷ []) 8 Start
  pub size : BehindHeader (0x01 ∷ 2 ∷ 0 ∷ 0 ∷ []) 11 Size
  -- an import of a module whose name is FF
  pub name : BehindHeader (0x02 ∷ 3 ∷ 1 ∷ 1 ∷ 0xFF ∷ []) 12 Name
  pub form : BehindHeader (0x01 ∷ 2 ∷ 1 ∷ 0x61 ∷ []) 11 Form
  pub val_type : BehindHeader (0x01 ∷ 4 ∷ 1 ∷ 0x60 ∷ 1 ∷ 0x7B ∷ []) 13 ValueType
  pub float : BehindHeader (0x01 ∷ 4 ∷ 1 ∷ 0x60 ∷ 1 ∷ 0x7C ∷ []) 13 Float
  pub results : BehindHeader (0x01 ∷ 4 ∷ 1 ∷ 0x60 ∷ 0 ∷ 2 ∷ []) 13 Results
  pub sort : BehindHeader (0x02 ∷ 4 ∷ 1 ∷ 0 ∷ 0 ∷ 4 ∷ []) 13 Kind
  pub flag : BehindHeader (0x05 ∷ 2 ∷ 1 ∷ 2 ∷ []) 11 Flag
  -- memory.size with a byte 01
  pub reserved : BehindHeader (0x0A ∷ 6 ∷ 1 ∷ 4 ∷ 0 ∷ 0x3F ∷ 1 ∷ 0x0B ∷ []) 14 Reserved
  pub opcode : BehindHeader (0x0A ∷ 5 ∷ 1 ∷ 3 ∷ 0 ∷ 0xFF ∷ 0x0B ∷ []) 13 Opcode
  -- an `else` without `if`, and a body without its `end`
  pub other : BehindHeader (0x0A ∷ 5 ∷ 1 ∷ 3 ∷ 0 ∷ 0x05 ∷ 0x0B ∷ []) 13 Nesting
  pub no_end : BehindHeader (0x0A ∷ 4 ∷ 1 ∷ 2 ∷ 0 ∷ 0x01 ∷ []) 14 Nesting
  -- a group of 4,097 locals
  pub locals : BehindHeader (0x0A ∷ 7 ∷ 1 ∷ 5 ∷ 1 ∷ 0x81 ∷ 0x20 ∷ 0x7F ∷ 0x0B ∷ []) 13 Locals
  -- a function without a code
  pub count : BehindHeader (0x03 ∷ 2 ∷ 1 ∷ 0 ∷ []) 12 Count

each_kind : EachKind
unfolding is_utf8 chars encode module_part part.word_read modules.customs_read modules.section_read modules.end_read part.next_read part.sized_read part.length_read part.part_read part.used_up_read number_read number_at is_cut_number part.times_read text func_type val_type result_type import_ desc flag limits code locals group groups_read body_read instr opcode reserved shape
each_kind = record {
  cut = refl;
  magic = refl;
  leb = refl;
  section = refl;
  start = refl;
  size = refl;
  name = refl;
  form = refl;
  val_type = refl;
  float = refl;
  results = refl;
  sort = refl;
  flag = refl;
  reserved = refl;
  opcode = refl;
  other = refl;
  no_end = refl;
  locals = refl;
  count = refl;
}

-- a block around an `if` with an `else`, and the end of the body
nested_blocks : placed 0 (Block None 0 ∷ If None None 0 ∷ Else 0 ∷ End ∷ End ∷ End ∷ []) ≡ Block None 4 ∷ If None (Some 2) 3 ∷ Else 3 ∷ End ∷ End ∷ End ∷ []
unfolding placed closings
nested_blocks = refl
