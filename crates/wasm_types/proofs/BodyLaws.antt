-- The code of a function is lawful.
use Rattle.std.proofs.Common.{◌≡◌, ℕ, zero, suc, ◌+◌, ◌≤◌, ◌<◌, Bool, true, false, List, [], ◌∷◌, ◌++◌, length, replicate, Ok, refl, sym, ap, ◌∙◌, append_assoc, add-zero, arith}
use Rattle.std.specs.Prelude.{nat_le}
use Rattle.std.proofs.lemmas.List.{append-nil, length-append}
use Rattle.wasm_types.specs.declared.kind.ReadKind.TheVariants.{Cut, Nesting, Reserved, Locals}
use Rattle.wasm_types.specs.declared.value.ValType.{ValType}
use Rattle.wasm_types.specs.declared.opcode.Shape.{Shape}
use Rattle.wasm_types.specs.declared.opcode.Shape.TheVariants as shapes
use Rattle.wasm_types.specs.declared.instr.Instr.{Instr}
use Rattle.wasm_types.specs.Place.{Place, then_read}
use Rattle.wasm_types.specs.Opcodes.{shape}
use Rattle.wasm_types.specs.Part.{marker}
use Rattle.wasm_types.specs.Body.{max_locals, group, AreGroups, groups_read, groups_of, locals, nested, opcode, block_type_of, block_type, reserved, br_table, memory_access, call_indirect, operands, instr, blocks_after, IsBody, with_front, body_read, body, code}
use Rattle.wasm_types.proofs.Lawful.{Lawful, Anything, Took, took_is, here, read_of, bind_ok, ok_is, lawful_done, lawful_bind, lawful_byte_or, lawful_number, lawful_judged, lawful_vector}
use Rattle.wasm_types.proofs.PartLaws.{lawful_val_type}

-- ---- locals

lawful_group : (before : ℕ) → Lawful Anything (group before)
unfolding group
lawful_group before = lawful_bind (lawful_judged Locals (λ n. nat_le (before + n) max_locals) (lawful_number false 32)) (λ n. lawful_bind lawful_val_type (λ t. lawful_done (replicate n t)))

lawful_groups : (n : ℕ) → Lawful Anything (groups_of n)
unfolding groups_read
lawful_groups n = record { sound = λ start types after e. sound n 0 start types after e; again = λ at text rest types s f. again n 0 at text rest types s }
  where
    sound : (n before : ℕ) (start : Place) (types : List ValType) (after : Place) → groups_read n before start ≡ Ok (types, after) → Took (AreGroups n before) start types after
    sound zero before start types after e = took_is (AreGroups zero before) start ([], start) (types, after) (ok_is ([], start) (types, after) e) (record { text = []; cut = refl; place = omega arith; spelled = (refl, refl) })
    sound (suc n) before start types after e =
        let x = bind_ok ((group before).read start) (λ own after. then_read (groups_read n (before + length own) after) (λ others end. Ok (own ++ others, end))) (types, after) e in
        let y = bind_ok (groups_read n (before + length x.0.0) x.0.1) (λ others end. Ok (x.0.0 ++ others, end)) (types, after) x.2 in
        let one = (lawful_group before).sound start x.0.0 x.0.1 x.1 in
        let two = sound n (before + length x.0.0) x.0.1 y.0.0 y.0.1 y.1 in
        took_is (AreGroups (suc n) before) start (x.0.0 ++ y.0.0, y.0.1) (types, after) (ok_is (x.0.0 ++ y.0.0, y.0.1) (types, after) y.2) (record {
          text = one.text ++ two.text;
          cut = one.cut ∙ ap (λ (t : List ℕ). one.text ++ t) two.cut ∙ sym (append_assoc one.text two.text y.0.1.rest);
          place = omega (arith, one.place, two.place, length-append one.text two.text);
          spelled = record {
            front = one.text;
            back = two.text;
            value = x.0.0;
            cut = refl;
            first = one.spelled;
            second = record { front = two.text; back = []; value = y.0.0; cut = sym (append-nil two.text); first = two.spelled; second = (refl, refl) };
          };
        })

    again : (n before at : ℕ) (text rest : List ℕ) (types : List ValType) → AreGroups n before text types → groups_read n before (here at (text ++ rest)) ≡ Ok (types, here (at + length text) rest)
    again zero before at text rest types s = rw (s.0, s.1, add-zero) refl
    again (suc n) before at text rest types s =
        let t = s.second in
        let back-is : s.back ≡ t.front = t.cut ∙ ap (λ (r : List ℕ). t.front ++ r) t.second.0 ∙ append-nil t.front in
        let one = (lawful_group before).again at s.front (t.front ++ rest) s.value s.first tt in
        let two = again n (before + length s.value) (at + length s.front) t.front rest t.value t.first in
        let whole : text ++ rest ≡ s.front ++ (t.front ++ rest) = ap (λ (r : List ℕ). r ++ rest) (s.cut ∙ ap (λ (r : List ℕ). s.front ++ r) back-is) ∙ append_assoc s.front t.front rest in
        let end : at + length s.front + length t.front ≡ at + length text = omega (arith, ap length s.cut, length-append s.front s.back, ap length back-is) in
        rw whole (rw (one, two, end, t.second.1) refl)

lawful_locals : Lawful Anything locals
unfolding locals
lawful_locals = lawful_bind (lawful_number false 32) lawful_groups

-- ---- one instruction

lawful_opcode : (may_else : Bool) → Lawful Anything (opcode may_else)
unfolding opcode
lawful_opcode may_else = lawful_byte_or Nesting (λ b. nested may_else b (shape b))

lawful_block_type : Lawful Anything block_type
unfolding block_type
lawful_block_type = lawful_byte_or Cut block_type_of

lawful_reserved : Lawful Anything reserved
unfolding reserved
lawful_reserved = lawful_byte_or Cut (marker 0 Reserved)

lawful_br_table : (first : ℕ) → Lawful Anything (br_table first)
unfolding br_table
lawful_br_table first = lawful_bind (lawful_vector (lawful_number false 32)) (λ labels. lawful_bind (lawful_number false 32) (λ default. lawful_done _))

lawful_memory_access : (op : ℕ) → Lawful Anything (memory_access op)
unfolding memory_access
lawful_memory_access op = lawful_bind (lawful_number false 32) (λ align. lawful_bind (lawful_number false 32) (λ offset. lawful_done _))

lawful_call_indirect : Lawful Anything call_indirect
unfolding call_indirect
lawful_call_indirect = lawful_bind (lawful_number false 32) (λ ty. lawful_bind lawful_reserved (λ _. lawful_done _))

lawful_operands : (first op : ℕ) (s : Shape) → Lawful Anything (operands first op s)
lawful_operands first op shapes.Plain = lawful_done _
lawful_operands first op shapes.Reserved = lawful_bind lawful_reserved (λ _. lawful_done _)
lawful_operands first op shapes.Index = lawful_bind (lawful_number false 32) (λ i. lawful_done _)
lawful_operands first op shapes.CallIndirect = lawful_call_indirect
lawful_operands first op shapes.BrTable = lawful_br_table first
lawful_operands first op shapes.Memory = lawful_memory_access op
lawful_operands first op shapes.I32Const = lawful_bind (lawful_number true 32) (λ n. lawful_done _)
lawful_operands first op shapes.I64Const = lawful_bind (lawful_number true 64) (λ n. lawful_done _)
lawful_operands first op shapes.Block = lawful_bind lawful_block_type (λ t. lawful_done _)
lawful_operands first op shapes.Loop = lawful_bind lawful_block_type (λ t. lawful_done _)
lawful_operands first op shapes.If = lawful_bind lawful_block_type (λ t. lawful_done _)
lawful_operands first op shapes.Else = lawful_done _
lawful_operands first op shapes.End = lawful_done _

pub lawful_instr : (first : ℕ) (may_else : Bool) → Lawful Anything (instr first may_else)
unfolding instr
lawful_instr first may_else = lawful_bind (lawful_opcode may_else) (λ o. lawful_operands first o.0 o.1)

-- an instruction has a byte
pub instr_some : (first : ℕ) (may_else : Bool) (text : List ℕ) (x : Instr × List ℕ) → (instr first may_else).Spells text x → 0 < length text
unfolding instr opcode
instr_some first may_else text x s =
    omega (arith, ap length s.cut, length-append s.front s.back, ap length s.first.1)

-- ---- instructions up to the end of the last block

abbrev pub Instrs : Type 0
Instrs = List Instr × List ℕ

abbrev Spelled : List Bool → ℕ → List ℕ → Instrs → Type 0
Spelled blocks first text b = IsBody blocks first text b.0 b.1

body_sound : (steps : ℕ) (blocks : List Bool) (first : ℕ) (start : Place) (b : Instrs) (after : Place) → body_read steps blocks first start ≡ Ok (b, after) → Took (Spelled blocks first) start b after
unfolding body_read
body_sound steps [] first start b after e =
    took_is (Spelled [] first) start (([], []), start) (b, after) (ok_is (([], []), start) (b, after) e) (record { text = []; cut = refl; place = omega arith; spelled = (refl, refl, refl) })
body_sound zero (o ∷ blocks) first start b after e = absurd cc
body_sound (suc steps) (o ∷ blocks) first start b after e =
    let x = bind_ok ((instr first o).read start) (λ x after. with_front x.0 x.1 (body_read steps (blocks_after x.0 (o ∷ blocks)) (first + length x.1) after)) (b, after) e in
    let i = x.0.0.0 in
    let own = x.0.0.1 in
    let y = bind_ok (body_read steps (blocks_after i (o ∷ blocks)) (first + length own) x.0.1) (λ body end. Ok ((i ∷ body.0, own ++ body.1), end)) (b, after) x.2 in
    let one = (lawful_instr first o).sound start x.0.0 x.0.1 x.1 in
    let two = body_sound steps (blocks_after i (o ∷ blocks)) (first + length own) x.0.1 y.0.0 y.0.1 y.1 in
    took_is (Spelled (o ∷ blocks) first) start ((i ∷ y.0.0.0, own ++ y.0.0.1), y.0.1) (b, after) (ok_is ((i ∷ y.0.0.0, own ++ y.0.0.1), y.0.1) (b, after) y.2) (record {
      text = one.text ++ two.text;
      cut = one.cut ∙ ap (λ (t : List ℕ). one.text ++ t) two.cut ∙ sym (append_assoc one.text two.text y.0.1.rest);
      place = omega (arith, one.place, two.place, length-append one.text two.text);
      spelled = (own, y.0.0.1, refl, record { front = one.text; back = two.text; value = x.0.0; cut = refl; first = one.spelled; second = (refl, two.spelled) });
    })

body_again : (steps : ℕ) (blocks : List Bool) (first at : ℕ) (text rest : List ℕ) (instrs : List Instr) (labels : List ℕ) → IsBody blocks first text instrs labels → length text ≤ steps
    → body_read steps blocks first (here at (text ++ rest)) ≡ Ok ((instrs, labels), here (at + length text) rest)
unfolding body_read
body_again steps [] first at text rest instrs labels s le = rw (s.0, s.1, s.2, add-zero) refl
body_again steps (o ∷ blocks) first at text rest [] labels s le = absurd s
body_again zero (o ∷ blocks) first at text rest (i ∷ instrs) labels s le =
    absurd (omega (arith, le, ap length s.3.cut, length-append s.3.front s.3.back, instr_some first o s.3.front s.3.value s.3.first))
body_again (suc steps) (o ∷ blocks) first at text rest (i ∷ instrs) labels s le =
    let own = s.0 in
    let later = s.1 in
    let j = s.3 in
    let one = (lawful_instr first o).again at j.front (j.back ++ rest) j.value j.first tt in
    let read : (instr first o).read (here at (j.front ++ (j.back ++ rest))) ≡ Ok ((i, own), here (at + length j.front) (j.back ++ rest)) = one ∙ ap (λ (v : Instr × List ℕ). read_of (v, here (at + length j.front) (j.back ++ rest))) j.second.0 in
    let two = body_again steps (blocks_after i (o ∷ blocks)) (first + length own) (at + length j.front) j.back rest instrs later j.second.1
    (omega (arith, le, ap length j.cut, length-append j.front j.back, instr_some first o j.front j.value j.first)) in
    let whole : text ++ rest ≡ j.front ++ (j.back ++ rest) = ap (λ (r : List ℕ). r ++ rest) j.cut ∙ append_assoc j.front j.back rest in
    let end : at + length j.front + length j.back ≡ at + length text = omega (arith, ap length j.cut, length-append j.front j.back) in
    rw whole (rw (read, two, end, s.2) refl)

lawful_body : Lawful Anything body
lawful_body = record {
  sound = λ start b after e. body_sound (length start.rest) (false ∷ []) 0 start b after e;
  again = λ at text rest b s f. body_again (length (text ++ rest)) (false ∷ []) 0 at text rest b.0 b.1 s (omega (arith, length-append text rest));
}

pub lawful_code : Lawful Anything code
unfolding code
lawful_code = lawful_bind lawful_locals (λ types. lawful_bind lawful_body (λ b. lawful_done _))
