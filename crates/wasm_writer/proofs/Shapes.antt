-- Which opcode has which shape.
use Rattle.std.proofs.Common.{◌≡◌, ℕ, Bool, true, false, Result, Ok, Err, refl, sym, subst}
use Rattle.std.specs.Prelude.{◌==◌, if◌then◌else◌}
use Rattle.std.proofs.lemmas.Bool.{eqb-true}
use Rattle.wasm_types.specs.declared.kind.ReadKind.{ReadKind}
use Rattle.wasm_types.specs.declared.kind.ReadKind.TheVariants.{Opcode}
use Rattle.wasm_types.specs.declared.opcode.Shape.{Shape}
use Rattle.wasm_types.specs.declared.opcode.Shape.TheVariants as shapes
use Rattle.wasm_types.specs.declared.opcode.ConstOp.{ConstOp}
use Rattle.wasm_types.specs.declared.opcode.ConstOp.TheVariants as consts
use Rattle.wasm_types.specs.Opcodes.{is_plain, has_index, is_memory, is_float, is_within, shape, const_by, const_op}
use Rattle.wasm_types.specs.Types.{end_by, end_of}

pub either : {A : Type 0} (P : A → Type 0) (c : Bool) (x y : A) → (c ≡ true → P x) → (c ≡ false → P y) → P (if c then x else y)
either P true x y f g = f refl
either P false x y f g = g refl

-- where a shape has one opcode, it is this one
abbrev pub Known : ℕ → Result Shape ReadKind → Type 0
Known op (Ok shapes.CallIndirect) = 0x11 ≡ op
Known op (Ok shapes.BrTable) = 0x0E ≡ op
Known op (Ok shapes.I32Const) = 0x41 ≡ op
Known op (Ok shapes.I64Const) = 0x42 ≡ op
Known op (Ok shapes.Block) = 0x02 ≡ op
Known op (Ok shapes.Loop) = 0x03 ≡ op
Known op (Ok shapes.If) = 0x04 ≡ op
Known op (Ok shapes.Else) = 0x05 ≡ op
Known op (Ok shapes.End) = 0x0B ≡ op
Known op _ = Unit {0}

same : (op n : ℕ) → (op == n) ≡ true → n ≡ op
same op n t = sym (eqb-true op n t)

pub known : (op : ℕ) → Known op (shape op)
unfolding shape
known op =
    either (Known op) (is_plain op) _ _ (λ _. tt) (λ _.
    either (Known op) (has_index op) _ _ (λ _. tt) (λ _.
    either (Known op) (is_memory op) _ _ (λ _. tt) (λ _.
    either (Known op) (is_float op) _ _ (λ _. tt) (λ _.
    either (Known op) (op == 0x02) _ _ (same op 0x02) (λ _.
    either (Known op) (op == 0x03) _ _ (same op 0x03) (λ _.
    either (Known op) (op == 0x04) _ _ (same op 0x04) (λ _.
    either (Known op) (op == 0x05) _ _ (same op 0x05) (λ _.
    either (Known op) (op == 0x0B) _ _ (same op 0x0B) (λ _.
    either (Known op) (op == 0x0E) _ _ (same op 0x0E) (λ _.
    either (Known op) (op == 0x11) _ _ (same op 0x11) (λ _.
    either (Known op) (is_within 0x3F 0x40 op) _ _ (λ _. tt) (λ _.
    either (Known op) (op == 0x41) _ _ (same op 0x41) (λ _.
    either (Known op) (op == 0x42) _ _ (same op 0x42) (λ _. tt))))))))))))))

pub known_as : (op : ℕ) (s : Shape) → shape op ≡ Ok s → Known op (Ok s)
known_as op s e = subst (λ (r : Result Shape ReadKind). Known op r) e (known op)

-- ---- constant expressions

abbrev pub const_byte : ConstOp → ℕ
const_byte consts.I32Const = 0x41
const_byte consts.I64Const = 0x42
const_byte consts.GlobalGet = 0x23

abbrev Begins : ℕ → Result ConstOp ReadKind → Type 0
Begins op (Ok c) = const_byte c ≡ op
Begins op (Err why) = Unit {0}

begins : (op : ℕ) (r : Result Shape ReadKind) → Known op r → Begins op (const_by op r)
begins op (Ok shapes.I32Const) k = k
begins op (Ok shapes.I64Const) k = k
begins op (Ok shapes.Index) k = either (Begins op) (op == 0x23) (Ok consts.GlobalGet) (Err Opcode) (same op 0x23) (λ _. tt)
begins op (Ok shapes.Plain) k = tt
begins op (Ok shapes.Reserved) k = tt
begins op (Ok shapes.CallIndirect) k = tt
begins op (Ok shapes.BrTable) k = tt
begins op (Ok shapes.Memory) k = tt
begins op (Ok shapes.Block) k = tt
begins op (Ok shapes.Loop) k = tt
begins op (Ok shapes.If) k = tt
begins op (Ok shapes.Else) k = tt
begins op (Ok shapes.End) k = tt
begins op (Err why) k = tt

pub const_is : (op : ℕ) (c : ConstOp) → const_op op ≡ Ok c → const_byte c ≡ op
unfolding const_op
const_is op c e = subst (λ (r : Result ConstOp ReadKind). Begins op r) e (begins op (shape op) (known op))

abbrev Ends : ℕ → Result (Unit {0}) ReadKind → Type 0
Ends op (Ok u) = 0x0B ≡ op
Ends op (Err why) = Unit {0}

ends : (op : ℕ) (r : Result Shape ReadKind) → Known op r → Ends op (end_by r)
ends op (Ok shapes.End) k = k
ends op (Ok shapes.I32Const) k = tt
ends op (Ok shapes.I64Const) k = tt
ends op (Ok shapes.Index) k = tt
ends op (Ok shapes.Plain) k = tt
ends op (Ok shapes.Reserved) k = tt
ends op (Ok shapes.CallIndirect) k = tt
ends op (Ok shapes.BrTable) k = tt
ends op (Ok shapes.Memory) k = tt
ends op (Ok shapes.Block) k = tt
ends op (Ok shapes.Loop) k = tt
ends op (Ok shapes.If) k = tt
ends op (Ok shapes.Else) k = tt
ends op (Err why) k = tt

pub end_is : (op : ℕ) (u : Unit {0}) → end_of op ≡ Ok u → 0x0B ≡ op
end_is op u e = subst (λ (r : Result (Unit {0}) ReadKind). Ends op r) e (ends op (shape op) (known op))
