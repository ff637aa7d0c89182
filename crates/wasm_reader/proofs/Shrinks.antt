-- Reading leaves fewer bytes: an instruction takes at least one, and one for each of its labels.
use Rattle.std.proofs.Common.{◌≡◌, ℕ, zero, suc, ◌-◌, ◌+◌, ◌*◌, ◌≤◌, ◌<◌, Bool, true, false, leb, ltb, List, [], ◌∷◌, ◌++◌, length, replicate, Option, Some, None, Result, Ok, Err, refl, ap, subst, arith, inl, inr}
use Rattle.std.specs.Prelude.{option_map}
use Rattle.std.proofs.lemmas.List.{length-drop}
use Rattle.std.proofs.lemmas.Bool.{lt-ltb, le-ltb, cases_lt}
use Rattle.wasm_types.specs.declared.kind.ReadKind.{ReadKind}
use Rattle.wasm_types.specs.declared.kind.ReadKind.TheVariants.{Cut, Nesting, Reserved, Locals, Section}
use Rattle.wasm_types.specs.declared.opcode.Shape.{Shape}
use Rattle.wasm_types.specs.declared.opcode.Shape.TheVariants as shapes
use Rattle.wasm_types.specs.declared.instr.Instr.{Instr}
use Rattle.wasm_types.specs.declared.instr.Instr.TheVariants.{Op, Index, CallIndirect, BrTable, Mem, Const, Block, Loop, If}
use Rattle.wasm_types.specs.declared.value.Value.TheVariants as values
use Rattle.wasm_types.specs.Place.{Place, Reading, then_read, breaks}
use Rattle.wasm_types.specs.Number.{last_of, number_at, number_read, number_or}
use Rattle.wasm_types.specs.Opcodes.{shape}
use Rattle.wasm_types.specs.Part.{next_read, next_of, known, times_read, index, vector, marker, passing, long_enough, length_read, part_read, inside, behind, used_up_read, sized_read}
use Rattle.wasm_types.specs.ModuleText.{named_bytes, custom}
use Rattle.wasm_types.specs.Body.{opcode, nested, block_type, block_type_of, reserved, br_table, memory_access, call_indirect, operands, instr, group, groups_read, locals, max_locals}
use Rattle.wasm_types.specs.Types.{val_type, val_type_of}
use Rattle.wasm_reader.proofs.Tables.{bind_ok, ok_is, place_of}

-- what is read and the bytes that are left are together at most the bytes that were there, and k more
abbrev pub Within : {A : Type 0} → ℕ → (A → ℕ) → (Place → Reading A) → Type 0
Within {A} k size read = (start : Place) (a : A) (after : Place) → read start ≡ Ok (a, after) → size a + length after.rest ≤ k + length start.rest

within_done : {A : Type 0} (k : ℕ) (size : A → ℕ) (a : A) → size a ≤ k → Within k size (λ start. Ok (a, start))
within_done k size a le start b after e =
    let same = ok_is (a, start) (b, after) e in
    subst (λ (x : _ × Place). size x.0 + length x.1.rest ≤ k + length start.rest) same (omega arith)

within_bind : {A B : Type 0} (k : ℕ) (middle : A → ℕ) (size : B → ℕ) (p : Place → Reading A) (q : A → Place → Reading B)
    → Within k middle p → ((a : A) → Within (middle a) size (q a)) → Within k size (λ start. then_read (p start) q)
within_bind k middle size p q first second start b after e =
    let x = bind_ok (p start) q (b, after) e in
    let one = first start x.0.0 x.0.1 x.1 in
    let two = second x.0.0 x.0.1 b after x.2 in
    omega (arith, one, two)

within_next : (why : ReadKind) → Within 0 (λ _. 1) (next_read why)
unfolding next_read
within_next why start b after e = go start.at start.rest e
  where
    go : (at : ℕ) (rest : List ℕ) → next_of why at rest ≡ Ok (b, after) → 1 + length after.rest ≤ 0 + length rest
    go at [] e = absurd cc
    go at (c ∷ rest) e =
        let same = ok_is (c, record { at = at + 1; rest = rest }) (b, after) e in
        subst (λ (x : ℕ × Place). 1 + length x.1.rest ≤ 0 + length (c ∷ rest)) same (omega arith)

abbrev one_byte : {A : Type 0} → A → ℕ
one_byte a = 1

after_known : {A : Type 0} (r : Result A ReadKind) (start here : Place) (a : A) (after : Place) → known r start here ≡ Ok (a, after) → here ≡ after
after_known (Ok x) start here a after e = place_of (ok_is (x, here) (a, after) e)
after_known (Err why) start here a after e = absurd cc

within_byte : {A : Type 0} (why : ReadKind) (value_of : ℕ → Result A ReadKind) → Within 0 one_byte (λ start. then_read (next_read why start) (λ b here. known (value_of b) start here))
within_byte why value_of start a after e =
    let x = bind_ok (next_read why start) (λ b here. known (value_of b) start here) (a, after) e in
    let one = within_next why start x.0.0 x.0.1 x.1 in
    let same = after_known (value_of x.0.0) start x.0.1 a after x.2 in
    subst (λ (p : Place). 1 + length p.rest ≤ 0 + length start.rest) same one

mapped : {A B : Type 0} (f : A → B) (o : Option A) (y : B) → option_map f o ≡ Some y → (x : A) × (o ≡ Some x) × (f x ≡ y)
mapped f (Some x) y e = (x, refl, cc)
mapped f None y e = absurd cc

number_shrinks : (signed : Bool) (bits at : ℕ) (rest : List ℕ) (n : ℕ) (after : Place) → number_at signed bits at rest ≡ Some (n, after) → length after.rest < length rest
unfolding number_at
number_shrinks signed bits at [] n after e = absurd cc
number_shrinks signed bits at (b ∷ bytes) n after e =
    elim (cases_lt b 128) [
      | inl small ↦
          let e1 = rw (lt-ltb _ _ small) at e in
          let m = mapped (λ (k : ℕ). (k, next)) (last_of signed bits b) (n, after) e1 in
          subst (λ (p : ℕ × Place). length p.1.rest < length (b ∷ bytes)) m.2 (omega arith)
      | inr large ↦
          elim (cases_lt 7 bits) [
            | inl more ↦
                let e1 = rw (le-ltb _ _ large, lt-ltb _ _ more) at e in
                let m = mapped (λ (x : ℕ × Place). (b - 128 + 128 * x.0, x.1)) (number_at signed (bits - 7) (at + 1) bytes) (n, after) e1 in
                let ih = number_shrinks signed (bits - 7) (at + 1) bytes m.0.0 m.0.1 m.1 in
                subst (λ (p : ℕ × Place). length p.1.rest < length (b ∷ bytes)) m.2 (omega (arith, ih))
            | inr few ↦ let e1 = rw (le-ltb _ _ large, le-ltb _ _ few) at e in absurd cc
          ]
    ]
  where
    next : Place
    next = record { at = at + 1; rest = bytes }

within_number : (signed : Bool) (bits : ℕ) → Within 0 one_byte (number_read signed bits)
unfolding number_read
within_number signed bits start n after e =
    let some = go (number_at signed bits start.at start.rest) e in
    let less = number_shrinks signed bits start.at start.rest n after some in
    omega (arith, less)
  where
    go : (o : Option (ℕ × Place)) → number_or bits start o ≡ Ok (n, after) → o ≡ Some (n, after)
    go (Some x) e = ap Some (ok_is x (n, after) e)
    go None e = absurd cc

within_times : (n : ℕ) → Within 0 length (times_read (number_read false 32) n)
unfolding times_read
within_times zero start items after e = within_done 0 length [] (omega arith) start items after e
within_times (suc n) start items after e =
    let x = bind_ok (number_read false 32 start) (λ a here. then_read (times_read (number_read false 32) n here) (λ others end. Ok (a ∷ others, end))) (items, after) e in
    let y = bind_ok (times_read (number_read false 32) n x.0.1) (λ others end. Ok (x.0.0 ∷ others, end)) (items, after) x.2 in
    let one = within_number false 32 start x.0.0 x.0.1 x.1 in
    let rest = within_times n x.0.1 y.0.0 y.0.1 y.1 in
    let same = ok_is (x.0.0 ∷ y.0.0, y.0.1) (items, after) y.2 in
    subst (λ (p : List ℕ × Place). length p.0 + length p.1.rest ≤ 0 + length start.rest) same (omega (arith, one, rest))

-- one byte was taken already
within_one : {A : Type 0} (read : Place → Reading A) → Within 0 one_byte read → Within 1 one_byte read
within_one read h start a after e = omega (arith, h start a after e)

abbrev pub own : Instr × List ℕ → ℕ
own x = 1 + length x.1

within_labels : (n : ℕ) → Within 1 (λ (ls : List ℕ). 1 + length ls) (times_read (number_read false 32) n)
within_labels n start ls after e = omega (arith, within_times n start ls after e)

within_vector : Within 1 (λ (ls : List ℕ). 1 + length ls) (λ start. then_read (number_read false 32 start) (times_read (number_read false 32)))
within_vector = within_bind 1 one_byte (λ (ls : List ℕ). 1 + length ls) (number_read false 32) (times_read (number_read false 32)) (within_one (number_read false 32) (within_number false 32)) within_labels

within_then : {A : Type 0} (read : Place → Reading A) (f : A → Instr) → Within 0 one_byte read → Within 1 own (λ start. then_read (read start) (λ a here. Ok ((f a, []), here)))
within_then read f h = within_bind 1 one_byte own read (λ a here. Ok ((f a, []), here)) (within_one read h) (λ a. within_done 1 own (f a, []) (omega arith))

within_default : (labels : List ℕ) → Within (1 + length labels) (λ _. 1 + length labels) (number_read false 32)
within_default labels start n after e = omega (arith, within_number false 32 start n after e)

within_table : (first : ℕ) → Within 1 own ((br_table first).read)
unfolding br_table
within_table first =
    within_bind 1 (λ (ls : List ℕ). 1 + length ls) own (vector index).read (λ labels here. then_read (number_read false 32 here) (λ d end. Ok ((BrTable first (length labels) d, labels), end))) within_vector
    (λ labels. within_bind (1 + length labels) (λ _. 1 + length labels) own (number_read false 32) (λ d end. Ok ((BrTable first (length labels) d, labels), end)) (within_default labels)
    (λ d. within_done (1 + length labels) own (BrTable first (length labels) d, labels) (omega arith)))

within_reserved : Within 0 one_byte reserved.read
unfolding reserved
within_reserved = within_byte Cut (marker 0 Reserved)

within_block_type : Within 0 one_byte block_type.read
unfolding block_type
within_block_type = within_byte Cut block_type_of

within_call : Within 1 own call_indirect.read
unfolding call_indirect
within_call =
    within_bind 1 one_byte own (number_read false 32) (λ ty here. then_read (reserved.read here) (λ _ end. Ok ((CallIndirect ty, []), end))) (within_one (number_read false 32) (within_number false 32))
    (λ ty. within_then reserved.read (λ _. CallIndirect ty) within_reserved)

within_access : (op : ℕ) → Within 1 own (memory_access op).read
unfolding memory_access
within_access op =
    within_bind 1 one_byte own (number_read false 32) (λ align here. then_read (number_read false 32 here) (λ offset end. Ok ((Mem op align offset, []), end))) (within_one (number_read false 32) (within_number false 32))
    (λ align. within_then (number_read false 32) (λ offset. Mem op align offset) (within_number false 32))

within_operands : (first op : ℕ) (s : Shape) → Within 1 own ((operands first op s).read)
within_operands first op shapes.Plain = within_done 1 own _ (omega arith)
within_operands first op shapes.Reserved = within_then reserved.read (λ _. Op op) within_reserved
within_operands first op shapes.Index = within_then (number_read false 32) (λ i. Index op i) (within_number false 32)
within_operands first op shapes.CallIndirect = within_call
within_operands first op shapes.BrTable = within_table first
within_operands first op shapes.Memory = within_access op
within_operands first op shapes.I32Const = within_then (number_read true 32) (λ n. Const (values.I32 n)) (within_number true 32)
within_operands first op shapes.I64Const = within_then (number_read true 64) (λ n. Const (values.I64 n)) (within_number true 64)
within_operands first op shapes.Block = within_then block_type.read (λ t. Block t 0) within_block_type
within_operands first op shapes.Loop = within_then block_type.read (λ t. Loop t 0) within_block_type
within_operands first op shapes.If = within_then block_type.read (λ t. If t None 0) within_block_type
within_operands first op shapes.Else = within_done 1 own _ (omega arith)
within_operands first op shapes.End = within_done 1 own _ (omega arith)

within_opcode : (may_else : Bool) → Within 0 one_byte ((opcode may_else).read)
unfolding opcode
within_opcode may_else = within_byte Nesting (λ b. nested may_else b (shape b))

pub within_instr : (first : ℕ) (may_else : Bool) → Within 0 own ((instr first may_else).read)
unfolding instr
within_instr first may_else = within_bind 0 one_byte own ((opcode may_else).read) (λ o. (operands first o.0 o.1).read) (within_opcode may_else) (λ o. within_operands first o.0 o.1)

-- where no byte is left, the nesting is wrong
pub instr_at_end : (first : ℕ) (may_else : Bool) (start : Place) → start.rest ≡ [] → (instr first may_else).read start ≡ breaks start.at Nesting
unfolding instr opcode next_read
instr_at_end first may_else start e = rw e refl

-- ---- locals and custom sections

abbrev none : {A : Type 0} → A → ℕ
none a = 0

within_val_type : Within 0 one_byte val_type.read
unfolding val_type
within_val_type = within_byte Cut val_type_of

passing_is : {A : Type 0} (b : Bool) (why : ReadKind) (x : A) (start here : Place) (a : A) (after : Place) → passing b why x start here ≡ Ok (a, after) → here ≡ after
passing_is true why x start here a after e = place_of (ok_is (x, here) (a, after) e)
passing_is false why x start here a after e = absurd cc

within_judged : {A : Type 0} (why : ReadKind) (test : A → Bool) (p : Place → Reading A) → Within 0 one_byte p → Within 0 one_byte (λ start. then_read (p start) (λ a here. passing (test a) why a start here))
within_judged why test p h start a after e =
    let x = bind_ok (p start) (λ a here. passing (test a) why a start here) (a, after) e in
    let one = h start x.0.0 x.0.1 x.1 in
    let same = passing_is (test x.0.0) why x.0.0 start x.0.1 a after x.2 in
    subst (λ (q : Place). 1 + length q.rest ≤ 0 + length start.rest) same one

within_fewer : {A : Type 0} (read : Place → Reading A) → Within 0 one_byte read → Within 0 none read
within_fewer read h start a after e = omega (arith, h start a after e)

within_group : (before : ℕ) → Within 0 none (group before).read
unfolding group
within_group before =
    within_bind 0 none none (λ start. then_read (number_read false 32 start) (λ n here. passing (leb (before + n) max_locals) Locals n start here)) (λ n start. then_read (val_type.read start) (λ t here. Ok (replicate n t, here)))
    (within_fewer _ (within_judged Locals (λ n. leb (before + n) max_locals) (number_read false 32) (within_number false 32)))
    (λ n. within_bind 0 none none val_type.read (λ t here. Ok (replicate n t, here)) (within_fewer val_type.read within_val_type) (λ t. within_done 0 none (replicate n t) (omega arith)))

within_groups : (groups before : ℕ) → Within 0 none (groups_read groups before)
unfolding groups_read
within_groups zero before = within_done 0 none [] (omega arith)
within_groups (suc groups) before =
    within_bind 0 none none (group before).read (λ own after. then_read (groups_read groups (before + length own) after) (λ others end. Ok (own ++ others, end))) (within_group before)
    (λ own. within_bind 0 none none (groups_read groups (before + length own)) (λ others end. Ok (own ++ others, end)) (within_groups groups (before + length own)) (λ others. within_done 0 none (own ++ others) (omega arith)))

pub within_locals : Within 0 none locals.read
unfolding locals
within_locals = within_bind 0 none none (number_read false 32) (λ groups. groups_read groups 0) (within_fewer (number_read false 32) (within_number false 32)) (λ groups. within_groups groups 0)

known_length : (b : Bool) (n : ℕ) (start here : Place) (m : ℕ) (after : Place) → long_enough b n start here ≡ Ok (m, after) → here ≡ after
known_length true n start here m after e = absurd cc
known_length false n start here m after e = place_of (ok_is (n, here) (m, after) e)

within_length : Within 0 none length_read
unfolding length_read
within_length start n after e =
    let x = bind_ok (number_read false 32 start) (λ n here. long_enough (ltb (length here.rest) n) n start here) (n, after) e in
    let one = within_number false 32 start x.0.0 x.0.1 x.1 in
    let same = known_length (ltb (length x.0.1.rest) x.0.0) x.0.0 start x.0.1 n after x.2 in
    subst (λ (q : Place). 0 + length q.rest ≤ 0 + length start.rest) same (omega (arith, one))

within_part : Within 0 none part_read
unfolding part_read
within_part start w after e =
    let x = bind_ok (length_read start) (λ n here. Ok (inside n here, behind n here)) (w, after) e in
    let one = within_length start x.0.0 x.0.1 x.1 in
    let same = ok_is (inside x.0.0 x.0.1, behind x.0.0 x.0.1) (w, after) x.2 in
    subst (λ (q : Place × Place). 0 + length q.1.rest ≤ 0 + length start.rest) same (omega (arith, one, length-drop x.0.0 x.0.1.rest))

pub within_sized : {A : Type 0} (read : Place → Reading A) → Within 0 none (sized_read read)
unfolding sized_read
within_sized read start a after e =
    let x = bind_ok (part_read start) (λ within here. then_read (read within) (λ a left. then_read (used_up_read left) (λ _ _. Ok (a, here)))) (a, after) e in
    let y = bind_ok (read x.0.0) (λ a left. then_read (used_up_read left) (λ _ _. Ok (a, x.0.1))) (a, after) x.2 in
    let z = bind_ok (used_up_read y.0.1) (λ _ _. Ok (y.0.0, x.0.1)) (a, after) y.2 in
    let one = within_part start x.0.0 x.0.1 x.1 in
    let same = place_of (ok_is (y.0.0, x.0.1) (a, after) z.2) in
    subst (λ (q : Place). 0 + length q.rest ≤ 0 + length start.rest) same one

within_inside : Within 1 one_byte (sized_read named_bytes.read)
within_inside start u after e = omega (arith, within_sized named_bytes.read start u after e)

pub within_custom : Within 0 one_byte custom.read
unfolding custom
within_custom =
    within_bind 0 one_byte one_byte (λ start. then_read (next_read Cut start) (λ b here. known (marker 0 Section b) start here)) (λ _. sized_read named_bytes.read)
    (within_byte Cut (marker 0 Section)) (λ _. within_inside)
