-- An example of what the bounds are for: the fields of an instruction in some file, an opcode byte and numbers of 32 or 64 bits. They
-- fit, and the instruction is found again from them. Nothing else is known of it but its bounds.
use Rattle.std.proofs.Common.{◌≡◌, ℕ, zero, suc, ◌^◌, ◌<◌, List, [], ◌∷◌, length, Option, Some, None, Result, Ok, refl, arith, inl, inr, map}
use Rattle.std.specs.List.{All, AllByRecursion}
use Rattle.std.proofs.lemmas.List.Elements.{All-from_recursion}
use Rattle.wasm_types.specs.declared.kind.ReadKind.{ReadKind}
use Rattle.wasm_types.specs.declared.value.ValType.{ValType}
use Rattle.wasm_types.specs.declared.value.ValType.TheVariants as val_types
use Rattle.wasm_types.specs.declared.value.Value.TheVariants as values
use Rattle.wasm_types.specs.declared.opcode.Shape.{Shape}
use Rattle.wasm_types.specs.declared.opcode.Shape.TheVariants as shapes
use Rattle.wasm_types.specs.declared.instr.Instr.{Instr}
use Rattle.wasm_types.specs.declared.instr.Instr.TheVariants.{Op, Index, CallIndirect, BrTable, Mem, Const, Block, Loop, If, Else, End}
use Rattle.wasm_types.specs.Plain.{PlainCode}
use Rattle.wasm_types.specs.Opcodes.{shape}
use Rattle.wasm_types.specs.Bounds.{IsIndex, IsInstr, IsCode}

-- a number, and so many bits for it
abbrev Field : Type 0
Field = ℕ × ℕ

abbrev FieldFits : Field → Type 0
FieldFits f = f.1 < 2 ^ f.0

abbrev type_number : Option ValType → ℕ
type_number None = 0
type_number (Some val_types.I32) = 1
type_number (Some val_types.I64) = 2

abbrev else_fields : Option ℕ → List Field
else_fields None = (8, 0) ∷ []
else_fields (Some at) = (8, 1) ∷ (32, at) ∷ []

abbrev fields : Instr → List Field
fields (Op op) = (8, op) ∷ []
fields (Index op i) = (8, op) ∷ (32, i) ∷ []
fields (CallIndirect ty) = (8, 0x11) ∷ (32, ty) ∷ []
fields (BrTable first count default) = (8, 0x0E) ∷ (32, first) ∷ (32, count) ∷ (32, default) ∷ []
fields (Mem op align offset) = (8, op) ∷ (32, align) ∷ (32, offset) ∷ []
fields (Const (values.I32 n)) = (8, 0x41) ∷ (32, n) ∷ []
fields (Const (values.I64 n)) = (8, 0x42) ∷ (64, n) ∷ []
fields (Block t end) = (8, 0x02) ∷ (8, type_number t) ∷ (32, end) ∷ []
fields (Loop t end) = (8, 0x03) ∷ (8, type_number t) ∷ (32, end) ∷ []
fields (If t els end) = (8, 0x04) ∷ (8, type_number t) ∷ (32, end) ∷ else_fields els
fields (Else end) = (8, 0x05) ∷ (32, end) ∷ []
fields End = (8, 0x0B) ∷ []

-- the type of a number, where it is one's
abbrev type_of : ℕ → Option ValType
type_of zero = None
type_of (suc zero) = Some val_types.I32
type_of (suc (suc n)) = Some val_types.I64

abbrev else_of : List ℕ → Option ℕ
else_of (flag ∷ at ∷ rest) = Some at
else_of rest = None

-- the instruction that numbers stand for, the first of which is an opcode of this shape
abbrev instr_from : ℕ → Result Shape ReadKind → List ℕ → Option Instr
instr_from op (Ok shapes.Plain) rest = Some (Op op)
instr_from op (Ok shapes.Reserved) rest = Some (Op op)
instr_from op (Ok shapes.Index) (i ∷ rest) = Some (Index op i)
instr_from op (Ok shapes.CallIndirect) (ty ∷ rest) = Some (CallIndirect ty)
instr_from op (Ok shapes.BrTable) (first ∷ count ∷ default ∷ rest) = Some (BrTable first count default)
instr_from op (Ok shapes.Memory) (align ∷ offset ∷ rest) = Some (Mem op align offset)
instr_from op (Ok shapes.I32Const) (n ∷ rest) = Some (Const (values.I32 n))
instr_from op (Ok shapes.I64Const) (n ∷ rest) = Some (Const (values.I64 n))
instr_from op (Ok shapes.Block) (t ∷ end ∷ rest) = Some (Block (type_of t) end)
instr_from op (Ok shapes.Loop) (t ∷ end ∷ rest) = Some (Loop (type_of t) end)
instr_from op (Ok shapes.If) (t ∷ end ∷ rest) = Some (If (type_of t) (else_of rest) end)
instr_from op (Ok shapes.Else) (end ∷ rest) = Some (Else end)
instr_from op (Ok shapes.End) rest = Some End
instr_from op shaped rest = None

abbrev instr_in : List ℕ → Option Instr
instr_in [] = None
instr_in (op ∷ rest) = instr_from op (shape op) rest

record IsFiled (i : Instr) : Type 0 where
  fits : All FieldFits (fields i)
  again : instr_in (map (λ (f : Field). f.1) (fields i)) ≡ Some i

fit : (fs : List Field) → AllByRecursion FieldFits fs → All FieldFits fs
fit fs q = All-from_recursion FieldFits fs q

type_fits : (t : Option ValType) → type_number t < 256
type_fits None = omega arith
type_fits (Some val_types.I32) = omega arith
type_fits (Some val_types.I64) = omega arith

type_again : (t : Option ValType) → type_of (type_number t) ≡ t
type_again None = refl
type_again (Some val_types.I32) = refl
type_again (Some val_types.I64) = refl

-- each instruction of a code that keeps to its bounds
filed : (targets places : ℕ) → IsIndex targets → IsIndex places → (i : Instr) → IsInstr targets places i → IsFiled i
unfolding shape
filed targets places t p (Op op) (inl o) = record { fits = fit (fields (Op op)) (o.byte, tt); again = rw o.known refl }
filed targets places t p (Op op) (inr o) = record { fits = fit (fields (Op op)) (o.byte, tt); again = rw o.known refl }
filed targets places t p (Index op i) q = record { fits = fit (fields (Index op i)) (q.0.byte, (q.1, tt)); again = rw q.0.known refl }
filed targets places t p (CallIndirect ty) q = record { fits = fit (fields (CallIndirect ty)) (omega arith, (q, tt)); again = refl }
filed targets places t p (BrTable first count default) q = record { fits = fit (fields (BrTable first count default)) (omega arith, (omega (arith, q.0, t), (omega (arith, q.0, t), (q.1, tt)))); again = refl }
filed targets places t p (Mem op align offset) q = record { fits = fit (fields (Mem op align offset)) (q.0.byte, (q.1, (q.2, tt))); again = rw q.0.known refl }
filed targets places t p (Const (values.I32 n)) q = record { fits = fit (fields (Const (values.I32 n))) (omega arith, (q, tt)); again = refl }
filed targets places t p (Const (values.I64 n)) q = record { fits = fit (fields (Const (values.I64 n))) (omega arith, (q, tt)); again = refl }
filed targets places t p (Block ty end) q = record { fits = fit (fields (Block ty end)) (omega arith, (type_fits ty, (omega (arith, q, p), tt))); again = rw (type_again ty) refl }
filed targets places t p (Loop ty end) q = record { fits = fit (fields (Loop ty end)) (omega arith, (type_fits ty, (omega (arith, q, p), tt))); again = rw (type_again ty) refl }
filed targets places t p (If ty None end) q = record { fits = fit (fields (If ty None end)) (omega arith, (type_fits ty, (omega (arith, q.1, p), (omega arith, tt)))); again = rw (type_again ty) refl }
filed targets places t p (If ty (Some at) end) q = record {
  fits = fit (fields (If ty (Some at) end)) (omega arith, (type_fits ty, (omega (arith, q.1, p), (omega arith, (omega (arith, q.0, p), tt)))));
  again = rw (type_again ty) refl;
}
filed targets places t p (Else end) q = record { fits = fit (fields (Else end)) (omega arith, (omega (arith, q, p), tt)); again = refl }
filed targets places t p End q = record { fits = fit (fields End) (omega arith, tt); again = refl }

-- all instructions of each code of a module that bytes spell
code_filed : (c : PlainCode) → IsCode c → All IsFiled c.body
code_filed c q = λ k d lt. filed (length c.targets) (length c.body) q.targets.few q.body.few _ (q.body.each k d lt)
