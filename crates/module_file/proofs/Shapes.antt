-- Which shapes have one opcode, and which it is.
use Rattle.std.proofs.Common.{◌≡◌, ℕ, Result, Ok}
use Rattle.std.specs.Prelude.{◌==◌}
use Rattle.std.proofs.lemmas.Bool.{eqb-true}
use Rattle.wasm_types.specs.declared.kind.ReadKind.{ReadKind}
use Rattle.wasm_types.specs.declared.opcode.Shape.{Shape}
use Rattle.wasm_types.specs.declared.opcode.Shape.TheVariants as shapes
use Rattle.wasm_types.specs.Opcodes.{is_plain, has_index, is_memory, is_float, is_within, shape}
use Rattle.module_file.proofs.Steps.{either}

abbrev pub Known : ℕ → Result Shape ReadKind → Type 0
Known op (Ok shapes.CallIndirect) = op ≡ 0x11
Known op (Ok shapes.BrTable) = op ≡ 0x0E
Known op (Ok shapes.I32Const) = op ≡ 0x41
Known op (Ok shapes.I64Const) = op ≡ 0x42
Known op (Ok shapes.Block) = op ≡ 0x02
Known op (Ok shapes.Loop) = op ≡ 0x03
Known op (Ok shapes.If) = op ≡ 0x04
Known op (Ok shapes.Else) = op ≡ 0x05
Known op (Ok shapes.End) = op ≡ 0x0B
Known op _ = Unit {0}

pub known_op : (op : ℕ) → Known op (shape op)
unfolding shape
known_op op =
    either (Known op) (is_plain op) _ _ (λ _. tt) (λ _.
    either (Known op) (has_index op) _ _ (λ _. tt) (λ _.
    either (Known op) (is_memory op) _ _ (λ _. tt) (λ _.
    either (Known op) (is_float op) _ _ (λ _. tt) (λ _.
    either (Known op) (op == 0x02) _ _ (eqb-true op 0x02) (λ _.
    either (Known op) (op == 0x03) _ _ (eqb-true op 0x03) (λ _.
    either (Known op) (op == 0x04) _ _ (eqb-true op 0x04) (λ _.
    either (Known op) (op == 0x05) _ _ (eqb-true op 0x05) (λ _.
    either (Known op) (op == 0x0B) _ _ (eqb-true op 0x0B) (λ _.
    either (Known op) (op == 0x0E) _ _ (eqb-true op 0x0E) (λ _.
    either (Known op) (op == 0x11) _ _ (eqb-true op 0x11) (λ _.
    either (Known op) (is_within 0x3F 0x40 op) _ _ (λ _. tt) (λ _.
    either (Known op) (op == 0x41) _ _ (eqb-true op 0x41) (λ _.
    either (Known op) (op == 0x42) _ _ (eqb-true op 0x42) (λ _. tt))))))))))))))
