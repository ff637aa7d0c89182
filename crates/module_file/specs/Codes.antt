-- The code of a function, as a module file has it. An instruction is its opcode, which tells what it is (core 1.0, section 5.4),
-- and its fields in their order.
use Rattle.std.specs.Prelude.{ℕ, List, [], ◌∷◌, Option, Some, None, Result, Ok, Err}
use Rattle.wasm_types.specs.declared.kind.ReadKind.{ReadKind}
use Rattle.wasm_types.specs.declared.value.ValType.{ValType}
use Rattle.wasm_types.specs.declared.value.Value.TheVariants as values
use Rattle.wasm_types.specs.declared.opcode.Shape.{Shape}
use Rattle.wasm_types.specs.declared.opcode.Shape.TheVariants as shapes
use Rattle.wasm_types.specs.declared.instr.Instr.{Instr}
use Rattle.wasm_types.specs.declared.instr.Instr.TheVariants.{Op, Index, CallIndirect, BrTable, Mem, Const, Block, Loop, If, Else, End}
use Rattle.wasm_types.specs.Opcodes.{shape}
use Rattle.wasm_types.specs.Plain.{PlainCode}
use Rattle.module_file.specs.Form.{Reading, Form, form_of, field, done, ◌>>=◌, pair, read_as, index, long, list, optional}
use Rattle.module_file.specs.Parts.{val_type, tagged}

-- the first label, how many there are, and the one besides
abbrev pub table_fields : Form (ℕ × (ℕ × ℕ))
table_fields = pair index (pair index index)

-- an alignment and an offset
abbrev pub access_fields : Form (ℕ × ℕ)
access_fields = pair index index

-- the type of a block, and its end
abbrev pub block_fields : Form (Option ValType × ℕ)
block_fields = pair (optional val_type) index

-- the type, the place of the `else`, and the end
abbrev pub if_fields : Form (Option ValType × (Option ℕ × ℕ))
if_fields = pair (optional val_type) (pair (optional index) index)

abbrev pub instr_text : Instr → List ℕ
instr_text (Op op) = op ∷ []
instr_text (Index op i) = op ∷ index.text i
instr_text (CallIndirect ty) = 0x11 ∷ index.text ty
instr_text (BrTable first count default) = 0x0E ∷ table_fields.text (first, (count, default))
instr_text (Mem op align offset) = op ∷ access_fields.text (align, offset)
instr_text (Const (values.I32 n)) = 0x41 ∷ index.text n
instr_text (Const (values.I64 n)) = 0x42 ∷ long.text n
instr_text (Block t end) = 0x02 ∷ block_fields.text (t, end)
instr_text (Loop t end) = 0x03 ∷ block_fields.text (t, end)
instr_text (If t els end) = 0x04 ∷ if_fields.text (t, (els, end))
instr_text (Else end) = 0x05 ∷ index.text end
instr_text End = 0x0B ∷ []

-- what is read behind an opcode of this shape
abbrev pub fields_read : ℕ → Result Shape ReadKind → List ℕ → Reading Instr
fields_read op (Ok shapes.Plain) bytes = Some (Op op, bytes)
fields_read op (Ok shapes.Reserved) bytes = Some (Op op, bytes)
fields_read op (Ok shapes.Index) bytes = read_as index (Index op) bytes
fields_read op (Ok shapes.CallIndirect) bytes = read_as index CallIndirect bytes
fields_read op (Ok shapes.BrTable) bytes = read_as table_fields (λ x. BrTable x.0 x.1.0 x.1.1) bytes
fields_read op (Ok shapes.Memory) bytes = read_as access_fields (λ x. Mem op x.0 x.1) bytes
fields_read op (Ok shapes.I32Const) bytes = read_as index (λ n. Const (values.I32 n)) bytes
fields_read op (Ok shapes.I64Const) bytes = read_as long (λ n. Const (values.I64 n)) bytes
fields_read op (Ok shapes.Block) bytes = read_as block_fields (λ x. Block x.0 x.1) bytes
fields_read op (Ok shapes.Loop) bytes = read_as block_fields (λ x. Loop x.0 x.1) bytes
fields_read op (Ok shapes.If) bytes = read_as if_fields (λ x. If x.0 x.1.0 x.1.1) bytes
fields_read op (Ok shapes.Else) bytes = read_as index Else bytes
fields_read op (Ok shapes.End) bytes = Some (End, bytes)
fields_read op (Err why) bytes = None

abbrev pub instr_read : ℕ → List ℕ → Reading Instr
instr_read op bytes = fields_read op (shape op) bytes

unfoldable pub instr : Form Instr
instr = form_of instr_text (tagged instr_read)

unfoldable pub code : Form PlainCode
code = do
  locals ← field (λ (c : PlainCode). c.locals) (list val_type)
  targets ← field (λ (c : PlainCode). c.targets) (list index)
  body ← field (λ (c : PlainCode). c.body) (list instr)
  done (record { locals = locals; targets = targets; body = body })
