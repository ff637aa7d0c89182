-- The shortest spelling of a function's code.
use Rattle.std.proofs.Common.{◌≡◌, ℕ, ◌+◌, Bool, true, false, List, [], ◌∷◌, ◌++◌, length, take, drop, Option, Some, None, Result, Ok, Err, refl, sym, ap, subst, ◌∙◌, append_assoc, arith, inl, inr}
use Rattle.std.specs.Prelude.{◌==◌, ◌||◌}
use Rattle.std.proofs.lemmas.Bool.{cases_Bool}
use Rattle.std.proofs.lemmas.List.{length-append, take_at, drop_at}
use Rattle.wasm_types.specs.declared.kind.ReadKind.{ReadKind}
use Rattle.wasm_types.specs.declared.kind.ReadKind.TheVariants.{Nesting, Reserved}
use Rattle.wasm_types.specs.declared.value.ValType.{ValType}
use Rattle.wasm_types.specs.declared.value.Value.TheVariants as values
use Rattle.wasm_types.specs.declared.opcode.Shape.{Shape}
use Rattle.wasm_types.specs.declared.opcode.Shape.TheVariants as shapes
use Rattle.wasm_types.specs.declared.instr.Instr.{Instr}
use Rattle.wasm_types.specs.declared.instr.Instr.TheVariants.{Op, Index, CallIndirect, BrTable, Mem, Const, Block, Loop, If, Else, End}
use Rattle.wasm_types.specs.Plain.{PlainCode}
use Rattle.wasm_types.specs.Opcodes.{shape}
use Rattle.wasm_types.specs.Body.{nested, opcode, block_type_of, block_type, reserved, br_table, memory_access, call_indirect, operands, instr, blocks_after, IsBody, body, closed, innermost, closings, placed, code}
use Rattle.wasm_writer.specs.ShortNumber.{unsigned, signed_32, signed_64}
use Rattle.wasm_writer.specs.Spelling.{vector_text, val_type_byte, locals_text, block_type_text, reserved_text, instr_text, body_text}
use Rattle.wasm_writer.proofs.Least.{Bytes, front_bytes, back_bytes, both_bytes, Shorter, Least, renamed, least_done, least_made, least_join, least_named, least_byte}
use Rattle.wasm_writer.proofs.LeastNumbers.{least_unsigned, least_signed_32, least_signed_64}
use Rattle.wasm_writer.proofs.LeastParts.{Says, same_byte, said, least_marker, least_vector}
use Rattle.wasm_writer.proofs.LeastLocals.{least_locals}
use Rattle.wasm_writer.proofs.Shapes.{known_as}

-- ---- opcodes

record IsOpcode (b : ℕ) (r : Result Shape ReadKind) (a : ℕ × Shape) : Type 0 where
  op : a.0 ≡ b
  known : r ≡ Ok a.1

nested_is : (may_else : Bool) (b : ℕ) (r : Result Shape ReadKind) (a : ℕ × Shape) → nested may_else b r ≡ Ok a → IsOpcode b r a
nested_is true b (Ok shapes.Else) a e = record { op = cc; known = cc }
nested_is false b (Ok shapes.Else) a e = absurd cc
nested_is may_else b (Ok shapes.Plain) a e = record { op = cc; known = cc }
nested_is may_else b (Ok shapes.Reserved) a e = record { op = cc; known = cc }
nested_is may_else b (Ok shapes.Index) a e = record { op = cc; known = cc }
nested_is may_else b (Ok shapes.CallIndirect) a e = record { op = cc; known = cc }
nested_is may_else b (Ok shapes.BrTable) a e = record { op = cc; known = cc }
nested_is may_else b (Ok shapes.Memory) a e = record { op = cc; known = cc }
nested_is may_else b (Ok shapes.I32Const) a e = record { op = cc; known = cc }
nested_is may_else b (Ok shapes.I64Const) a e = record { op = cc; known = cc }
nested_is may_else b (Ok shapes.Block) a e = record { op = cc; known = cc }
nested_is may_else b (Ok shapes.Loop) a e = record { op = cc; known = cc }
nested_is may_else b (Ok shapes.If) a e = record { op = cc; known = cc }
nested_is may_else b (Ok shapes.End) a e = record { op = cc; known = cc }
nested_is may_else b (Err why) a e = absurd cc

least_opcode : (may_else : Bool) → Least (opcode may_else) (λ a. a.0 ∷ [])
unfolding opcode
least_opcode may_else =
    least_byte Nesting (λ b. nested may_else b (shape b)) (λ a. a.0) (λ b a lt e. (nested_is may_else b (shape b) a e).op)

opcode_known : (may_else : Bool) (text : List ℕ) (a : ℕ × Shape) → (opcode may_else).Spells text a → shape a.0 ≡ Ok a.1
unfolding opcode
opcode_known may_else text a s =
    let n = nested_is may_else s.0 (shape s.0) a s.2 in
    ap shape n.op ∙ n.known

-- ---- what stands behind an opcode

abbrev block_type_byte : Option ValType → ℕ
block_type_byte None = 0x40
block_type_byte (Some t) = val_type_byte t

some_type : (b : ℕ) → Says block_type_byte b (block_type_of b)
some_type b =
    elim (cases_Bool (b == 0x40)) [
      | inl t ↦ rw t (same_byte b 0x40 t)
      | inr f ↦
          elim (cases_Bool (b == 0x7F)) [
            | inl t ↦ rw (f, t) (same_byte b 0x7F t)
            | inr g ↦
                elim (cases_Bool (b == 0x7E)) [
                  | inl t ↦ rw (f, g, t) (same_byte b 0x7E t)
                  | inr h ↦ elim (cases_Bool (b == 0x7C || b == 0x7D)) [ inl t ↦ rw (f, g, h, t) tt | inr i ↦ rw (f, g, h, i) tt ]
                ]
          ]
    ]

byte_is : (t : Option ValType) → block_type_text t ≡ block_type_byte t ∷ []
byte_is None = refl
byte_is (Some t) = refl

least_block_type : Least block_type block_type_text
unfolding block_type
least_block_type = least_named (said block_type_byte block_type_of some_type) byte_is

least_reserved : Least reserved (λ _. 0 ∷ [])
unfolding reserved
least_reserved = least_marker 0 Reserved

-- the bytes behind the opcode, where these are the instruction's own labels
abbrev rest_text : Shape → Instr × List ℕ → List ℕ
rest_text s x = behind s x.0 x.1
  where
    behind : Shape → Instr → List ℕ → List ℕ
    behind s (Op op) own = reserved_text (Ok s)
    behind s (Index op i) own = unsigned i
    behind s (CallIndirect ty) own = unsigned ty ++ 0 ∷ []
    behind s (BrTable first count default) own = vector_text unsigned own ++ unsigned default
    behind s (Mem op align offset) own = unsigned align ++ unsigned offset
    behind s (Const (values.I32 n)) own = signed_32 n
    behind s (Const (values.I64 n)) own = signed_64 n
    behind s (Block t end) own = block_type_text t
    behind s (Loop t end) own = block_type_text t
    behind s (If t els end) own = block_type_text t
    behind s (Else end) own = []
    behind s End own = []

abbrev default_text : Instr × List ℕ → List ℕ
default_text x = behind x.0
  where
    behind : Instr → List ℕ
    behind (BrTable first count default) = unsigned default
    behind _ = []

abbrev offset_text : Instr × List ℕ → List ℕ
offset_text x = behind x.0
  where
    behind : Instr → List ℕ
    behind (Mem op align offset) = unsigned offset
    behind _ = []

least_call_indirect : Least call_indirect (rest_text shapes.CallIndirect)
unfolding call_indirect
least_call_indirect =
    least_join {t2 = λ _ _. 0 ∷ []} least_unsigned (λ ty. least_made least_reserved (λ _. (CallIndirect ty, [])) (λ _. refl))
    (λ ty x front rest f s. rw s.second.1 refl)

least_br_table : (first : ℕ) → Least (br_table first) (rest_text shapes.BrTable)
unfolding br_table
least_br_table first =
    least_join {t2 = λ _ x. default_text x} (least_vector least_unsigned) (λ labels. least_made least_unsigned (λ default. (BrTable first (length labels) default, labels)) (λ default. refl))
    (λ labels x front rest f s. rw s.second.1 refl)

least_memory : (op : ℕ) → Least (memory_access op) (rest_text shapes.Memory)
unfolding memory_access
least_memory op =
    least_join {t2 = λ _ x. offset_text x} least_unsigned (λ align. least_made least_unsigned (λ offset. (Mem op align offset, [])) (λ offset. refl))
    (λ align x front rest f s. rw s.second.1 refl)

least_operands : (first op : ℕ) (s : Shape) → Least (operands first op s) (rest_text s)
least_operands first op shapes.Plain = least_done (Op op, []) refl
least_operands first op shapes.Reserved = least_made least_reserved (λ _. (Op op, [])) (λ _. refl)
least_operands first op shapes.Index = least_made least_unsigned (λ i. (Index op i, [])) (λ i. refl)
least_operands first op shapes.CallIndirect = least_call_indirect
least_operands first op shapes.BrTable = least_br_table first
least_operands first op shapes.Memory = least_memory op
least_operands first op shapes.I32Const = least_made least_signed_32 (λ n. (Const (values.I32 n), [])) (λ n. refl)
least_operands first op shapes.I64Const = least_made least_signed_64 (λ n. (Const (values.I64 n), [])) (λ n. refl)
least_operands first op shapes.Block = least_made least_block_type (λ t. (Block t 0, [])) (λ t. refl)
least_operands first op shapes.Loop = least_made least_block_type (λ t. (Loop t 0, [])) (λ t. refl)
least_operands first op shapes.If = least_made least_block_type (λ t. (If t None 0, [])) (λ t. refl)
least_operands first op shapes.Else = least_done (Else 0, []) refl
least_operands first op shapes.End = least_done (End, []) refl

-- ---- an instruction

-- the labels of the body: some that were before, the instruction's own, and later ones
module _ (targets gone later : List ℕ) (first : ℕ) (behind : length gone ≡ first) where
  labels_are : (own : List ℕ) → targets ≡ gone ++ (own ++ later) → take (length own) (drop first targets) ≡ own
  labels_are own e = rw (e, drop_at gone (own ++ later) first behind, take_at own later (length own) refl) refl

  text_is : (op : ℕ) (s : Shape) (x : Instr × List ℕ) (rest : List ℕ) → shape op ≡ Ok s → (operands first op s).Spells rest x → targets ≡ gone ++ (x.1 ++ later) → instr_text targets x.0 ≡ op ∷ rest_text s x
  unfolding call_indirect br_table memory_access
  text_is op shapes.Plain x rest e s l = rw (s.1, e) refl
  text_is op shapes.Reserved x rest e s l = rw (s.second.1, e) refl
  text_is op shapes.Index x rest e s l = rw s.second.1 refl
  text_is op shapes.CallIndirect x rest e s l = rw (s.second.second.1, known_as op shapes.CallIndirect e) refl
  text_is op shapes.BrTable x rest e s l =
      let own = labels_are s.value (l ∙ ap (λ (y : Instr × List ℕ). gone ++ (y.1 ++ later)) s.second.second.1) in
      rw s.second.second.1 (rw (own, known_as op shapes.BrTable e) refl)
  text_is op shapes.Memory x rest e s l = rw s.second.second.1 refl
  text_is op shapes.I32Const x rest e s l = rw (s.second.1, known_as op shapes.I32Const e) refl
  text_is op shapes.I64Const x rest e s l = rw (s.second.1, known_as op shapes.I64Const e) refl
  text_is op shapes.Block x rest e s l = rw (s.second.1, known_as op shapes.Block e) refl
  text_is op shapes.Loop x rest e s l = rw (s.second.1, known_as op shapes.Loop e) refl
  text_is op shapes.If x rest e s l = rw (s.second.1, known_as op shapes.If e) refl
  text_is op shapes.Else x rest e s l = rw (s.1, known_as op shapes.Else e) refl
  text_is op shapes.End x rest e s l = rw (s.1, known_as op shapes.End e) refl

  instr_short : (may_else : Bool) (x : Instr × List ℕ) (other : List ℕ) → targets ≡ gone ++ (x.1 ++ later) → Bytes other → (instr first may_else).Spells other x → Shorter (λ t. (instr first may_else).Spells t x) other (instr_text targets x.0)
  unfolding instr
  instr_short may_else x other l bytes s =
      let all = subst (λ (y : List ℕ). Bytes y) s.cut bytes in
      let one = (least_opcode may_else).holds s.value s.front (front_bytes s.front s.back all) s.first in
      let two = (least_operands first s.value.0 s.value.1).holds x s.back (back_bytes s.front s.back all) s.second in
      let same = text_is s.value.0 s.value.1 x s.back (opcode_known may_else s.front s.value s.first) s.second l in
      renamed (λ t. (instr first may_else).Spells t x) other (s.value.0 ∷ rest_text s.value.1 x) (instr_text targets x.0) same (record {
        bytes = (one.bytes.0, two.bytes);
        spelled = record { front = s.value.0 ∷ []; back = rest_text s.value.1 x; value = s.value; cut = refl; first = one.spelled; second = two.spelled };
        short = omega (arith, one.short, two.short, ap length s.cut, length-append s.front s.back);
      })

-- ---- a body

body_short : (instrs : List Instr) (blocks : List Bool) (first : ℕ) (text labels targets gone : List ℕ) → targets ≡ gone ++ labels → length gone ≡ first → Bytes text → IsBody blocks first text instrs labels → Shorter (λ t. IsBody blocks first t instrs labels) text (body_text targets instrs)
body_short instrs [] first text labels targets gone l len bytes s =
    subst (λ (is : List Instr). Shorter (λ t. IsBody [] first t is labels) text (body_text targets is)) (sym s.1) (record { bytes = tt; spelled = (refl, refl, s.2); short = omega arith })
body_short [] (o ∷ blocks) first text labels targets gone l len bytes s = absurd s
body_short (i ∷ instrs) (o ∷ blocks) first text labels targets gone l len bytes s =
    let own = s.0 in
    let later = s.1 in
    let j = s.3 in
    let all = subst (λ (y : List ℕ). Bytes y) j.cut bytes in
    let here : targets ≡ gone ++ (own ++ later) = l ∙ ap (λ (y : List ℕ). gone ++ y) s.2 in
    let there : targets ≡ (gone ++ own) ++ later = here ∙ sym (append_assoc gone own later) in
    let first-is = subst (λ (y : Instr × List ℕ). (instr first o).Spells j.front y) j.second.0 j.first in
    let one = instr_short targets gone later first len o (i, own) j.front here (front_bytes j.front j.back all) first-is in
    let two = body_short instrs (blocks_after i (o ∷ blocks)) (first + length own) j.back later targets (gone ++ own) there (length-append gone own ∙ ap (λ (n : ℕ). n + length own) len) (back_bytes j.front j.back all) j.second.1 in
    record {
      bytes = both_bytes (instr_text targets i) (body_text targets instrs) one.bytes two.bytes;
      spelled = (own, later, s.2, record { front = instr_text targets i; back = body_text targets instrs; value = (i, own); cut = refl; first = one.spelled; second = (refl, two.spelled) });
      short = omega (arith, one.short, two.short, ap length j.cut, length-append j.front j.back, length-append (instr_text targets i) (body_text targets instrs));
    }

least_body : Least body (λ b. body_text b.1 b.0)
least_body = record { holds = λ b other bytes s. body_short b.0 (false ∷ []) 0 other b.1 b.1 [] refl refl bytes s }

-- ---- places of `else` and `end` aren't spelled

closed_text : (targets : List ℕ) (i : Instr) (c : Option ℕ × ℕ) → instr_text targets (closed i c) ≡ instr_text targets i
closed_text targets (Op op) c = refl
closed_text targets (Index op i) c = refl
closed_text targets (CallIndirect ty) c = refl
closed_text targets (BrTable first count default) c = refl
closed_text targets (Mem op align offset) c = refl
closed_text targets (Const v) c = refl
closed_text targets (Block t end) c = refl
closed_text targets (Loop t end) c = refl
closed_text targets (If t els end) c = refl
closed_text targets (Else end) c = refl
closed_text targets End c = refl

placed_text : (targets : List ℕ) (at : ℕ) (instrs : List Instr) → body_text targets (placed at instrs) ≡ body_text targets instrs
unfolding placed
placed_text targets at [] = refl
placed_text targets at (i ∷ instrs) = rw (closed_text targets i (innermost (closings (at + 1) instrs)), placed_text targets (at + 1) instrs) refl

pub least_code : Least code (λ c. locals_text c.locals ++ body_text c.targets c.body)
unfolding code
least_code =
    least_join {t2 = λ _ c. body_text c.targets c.body} least_locals (λ types.
    least_made least_body (λ b. record { locals = types; targets = b.1; body = placed 0 b.0 }) (λ b. placed_text b.1 0 b.0))
    (λ types c front rest f s. ap (λ (d : PlainCode). locals_text d.locals ++ body_text c.targets c.body) s.second.1)
