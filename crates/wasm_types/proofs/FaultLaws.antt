-- The parts of a module break exactly where their own parts do; laws of faults.
use Rattle.std.proofs.Common.{◌≡◌, ℕ, zero, suc, ◌+◌, ◌≤◌, ◌<◌, Bool, true, false, cond, eqb, List, [], ◌∷◌, ◌++◌, length, Some, None, Ok, Err, refl, sym, ap, subst, ◌∙◌, arith, inl, inr, eq-eqb}
use Rattle.std.specs.Prelude.{nat_le, replicate}
use Rattle.std.specs.Str.{is_utf8}
use Rattle.std.proofs.lemmas.Bool.{eqb-true, ne_eqb}
use Rattle.std.proofs.lemmas.List.{length-append}
use Rattle.wasm_types.specs.declared.kind.ReadKind.TheVariants.{Cut, Magic, Section, Start, Name, Form, ValueType, Results, Nesting, Locals, Reserved, Count}
use Rattle.wasm_types.specs.declared.value.ValType.{ValType}
use Rattle.wasm_types.specs.declared.sort.Sort.{Sort}
use Rattle.wasm_types.specs.declared.sort.Sort.TheVariants as sorts
use Rattle.wasm_types.specs.declared.opcode.ConstOp.{ConstOp}
use Rattle.wasm_types.specs.declared.opcode.ConstOp.TheVariants as consts
use Rattle.wasm_types.specs.declared.opcode.Shape.{Shape}
use Rattle.wasm_types.specs.declared.opcode.Shape.TheVariants as shapes
use Rattle.wasm_types.specs.declared.instr.Instr.{Instr}
use Rattle.wasm_types.specs.Plain.{PlainModule}
use Rattle.wasm_types.specs.Place.{Place, Broken, Reading, then_read, breaks}
use Rattle.wasm_types.specs.Opcodes.{shape, const_op}
use Rattle.wasm_types.specs.Part.{Part, BreaksBehind, marker, next_read, exactly}
use Rattle.wasm_types.specs.Types.{text, val_type, val_type_of, so_many_results, result_type, func_type, flag, flag_of, limits_with, limits, table, sort_of, global_desc, desc_of, desc, import_, ext_of, ext, export_, const_operand, const_value, const_end, end_of, init, global, elem, seg}
use Rattle.wasm_types.specs.Body.{max_locals, group, groups_read, groups_of, locals, nested, opcode, block_type_of, block_type, reserved, br_table, memory_access, call_indirect, operands, instr, blocks_after, with_front, body_read, BreaksAfter, body, code}
use Rattle.wasm_types.specs.ModuleText.{header, begins, named_bytes, custom, customs_read, BreaksAfterCustoms, customs, numbered, where_present, section_read, section, end_from, end_read, IsNoEnd, input_end, module_part, broken_in, reading_of}
use Rattle.wasm_types.specs.Faults.{BreakAtFirstPart, BreakWithin}
use Rattle.wasm_types.proofs.Lawful.{here, ok_is, read_of, bind_ok}
use Rattle.wasm_types.proofs.BodyLaws.{lawful_instr, instr_some}
use Rattle.wasm_types.proofs.ModuleLaws.{lawful_custom, custom_begins, custom_some}
use Rattle.wasm_types.proofs.Breaking.{failed, err_is, err_as, bind_err, then_err, IsNear, Moves, Exact, exact_done, near_behind, exact_bind, exact_judged, exact_byte_or, exact_number, exact_word, exact_anything, exact_vector, exact_sized}

-- ---- types, imports, exports, globals and segments

exact_text : Exact text
unfolding text
exact_text = exact_sized (exact_judged Name is_utf8 exact_anything)

exact_val_type : Exact val_type
unfolding val_type
exact_val_type = exact_byte_or Cut val_type_of

exact_results : (n : ℕ) → Exact (so_many_results n)
exact_results zero = exact_done None
exact_results (suc n) = exact_bind exact_val_type (λ t. exact_done (Some t))

exact_result_type : Exact result_type
unfolding result_type
exact_result_type = exact_bind (exact_judged Results (λ n. nat_le n 1) (exact_number false 32)) exact_results

exact_func_type : Exact func_type
unfolding func_type
exact_func_type = exact_bind (exact_byte_or Cut (marker 0x60 Form)) (λ _. exact_bind (exact_vector exact_val_type) (λ params. exact_bind exact_result_type (λ result. exact_done _)))

exact_flag : Exact flag
unfolding flag
exact_flag = exact_byte_or Cut flag_of

exact_limits_with : (has_max : Bool) (min : ℕ) → Exact (limits_with has_max min)
exact_limits_with false min = exact_done _
exact_limits_with true min = exact_bind (exact_number false 32) (λ max. exact_done _)

exact_limits : Exact limits
unfolding limits
exact_limits = exact_bind exact_flag (λ has_max. exact_bind (exact_number false 32) (λ min. exact_limits_with has_max min))

exact_table : Exact table
unfolding table
exact_table = exact_bind (exact_byte_or Cut (marker 0x70 ValueType)) (λ _. exact_limits)

exact_global_desc : Exact global_desc
unfolding global_desc
exact_global_desc = exact_bind exact_val_type (λ ty. exact_bind exact_flag (λ mutable. exact_done _))

exact_desc_of : (sort : Sort) → Exact (desc_of sort)
exact_desc_of sorts.Func = exact_bind (exact_number false 32) (λ ty. exact_done _)
exact_desc_of sorts.Table = exact_bind exact_table (λ size. exact_done _)
exact_desc_of sorts.Memory = exact_bind exact_limits (λ size. exact_done _)
exact_desc_of sorts.Global = exact_global_desc

exact_desc : Exact desc
unfolding desc
exact_desc = exact_bind (exact_byte_or Cut sort_of) exact_desc_of

exact_import : Exact import_
unfolding import_
exact_import = exact_bind exact_text (λ from. exact_bind exact_text (λ name. exact_bind exact_desc (λ what. exact_done _)))

exact_ext : Exact ext
unfolding ext
exact_ext = exact_bind (exact_byte_or Cut sort_of) (λ sort. exact_bind (exact_number false 32) (λ i. exact_done (ext_of sort i)))

exact_export : Exact export_
unfolding export_
exact_export = exact_bind exact_text (λ name. exact_bind exact_ext (λ what. exact_done _))

exact_const_operand : (op : ConstOp) → Exact (const_operand op)
exact_const_operand consts.I32Const = exact_bind (exact_number true 32) (λ n. exact_done _)
exact_const_operand consts.I64Const = exact_bind (exact_number true 64) (λ n. exact_done _)
exact_const_operand consts.GlobalGet = exact_bind (exact_number false 32) (λ i. exact_done _)

exact_const_value : Exact const_value
unfolding const_value
exact_const_value = exact_bind (exact_byte_or Cut const_op) exact_const_operand

exact_const_end : Exact const_end
unfolding const_end
exact_const_end = exact_byte_or Cut end_of

exact_init : Exact init
unfolding init
exact_init = exact_bind exact_const_value (λ value. exact_bind exact_const_end (λ _. exact_done value))

exact_global : Exact global
unfolding global
exact_global = exact_bind exact_val_type (λ ty. exact_bind exact_flag (λ mutable. exact_bind exact_init (λ value. exact_done _)))

exact_elem : Exact elem
unfolding elem
exact_elem = exact_bind (exact_number false 32) (λ table. exact_bind exact_init (λ offset. exact_bind (exact_vector (exact_number false 32)) (λ funcs. exact_done _)))

exact_seg : Exact seg
unfolding seg
exact_seg = exact_bind (exact_number false 32) (λ memory. exact_bind exact_init (λ offset. exact_bind (exact_sized exact_anything) (λ bytes. exact_done _)))

-- ---- locals

exact_group : (before : ℕ) → Exact (group before)
unfolding group
exact_group before = exact_bind (exact_judged Locals (λ n. nat_le (before + n) max_locals) (exact_number false 32)) (λ n. exact_bind exact_val_type (λ t. exact_done (replicate n t)))

zero_add : (n : ℕ) → 0 + n ≡ n
zero_add n = omega arith

-- one of so many groups, behind so many locals
abbrev InGroups : ℕ → ℕ → Place → Broken → Type 0
InGroups n base start fault = (before : ℕ) × (before < n) × BreaksBehind (groups_read before base start) (λ types here. (group (base + length types)).BreaksAt here fault)

abbrev groups_then : ℕ → ℕ → List ValType → Place → Reading (List ValType)
groups_then n base own after = then_read (groups_read n (base + length own) after) (λ others end. Ok (own ++ others, end))

ok_no : {A : Type 0} (x : A × Place) (fault : Broken) → read_of x ≡ failed fault → ⊥
ok_no x fault e = absurd cc

groups_move : (n base : ℕ) (start : Place) (types : List ValType) (after : Place) → groups_read n base start ≡ Ok (types, after) → Moves start after
unfolding groups_read
groups_move zero base start types after e = subst (Moves start) (ap (λ p. p.1) (ok_is ([], start) (types, after) e)) (omega arith, omega arith)
groups_move (suc n) base start types after e =
    let x = bind_ok ((group base).read start) (groups_then n base) (types, after) e in
    let y = bind_ok (groups_read n (base + length x.0.0) x.0.1) (λ others end. Ok (x.0.0 ++ others, end)) (types, after) x.2 in
    let one = (exact_group base).moves start x.0.0 x.0.1 x.1 in
    let two = groups_move n (base + length x.0.0) x.0.1 y.0.0 y.0.1 y.1 in
    subst (Moves start) (ap (λ p. p.1) (ok_is (x.0.0 ++ y.0.0, y.0.1) (types, after) y.2)) (omega (arith, one.0, two.0), omega (arith, one.1, two.1))

groups_later : (n base : ℕ) (start : Place) (fault : Broken) (own : List ValType) (after : Place) → (group base).read start ≡ Ok (own, after) → InGroups n (base + length own) after fault → InGroups (suc n) base start fault
unfolding groups_read
groups_later n base start fault own after e b =
    let same : base + length own + length b.2.0 ≡ base + length (own ++ b.2.0) = omega (arith, length-append own b.2.0) in
    (suc b.0, omega (arith, b.1), (own ++ b.2.0, b.2.1, rw (e, b.2.2) refl, subst (λ (k : ℕ). (group k).BreaksAt b.2.1 fault) same b.2.3))

base_add : (base : ℕ) → base ≡ base + 0
base_add base = omega arith

groups_found : (n base : ℕ) (start : Place) (fault : Broken) → groups_read n base start ≡ failed fault → InGroups n base start fault
unfolding groups_read
groups_found zero base start fault e = absurd (ok_no ([], start) fault e)
groups_found (suc n) base start fault e =
    elim (bind_err ((group base).read start) (groups_then n base) fault e) [
      | inl e1 ↦ (0, omega arith, ([], start, refl, subst (λ (k : ℕ). (group k).BreaksAt start fault) (base_add base) ((exact_group base).found start fault e1)))
      | inr b ↦
          elim (bind_err (groups_read n (base + length b.0) b.1) (λ others end. read_of (b.0 ++ others, end)) fault b.3) [
            | inl e2 ↦ groups_later n base start fault b.0 b.1 b.2 (groups_found n (base + length b.0) b.1 fault e2)
            | inr c ↦ absurd (ok_no (b.0 ++ c.0, c.1) fault c.3)
          ]
    ]

groups_again : (n before base : ℕ) (start : Place) (fault : Broken) → before < n → (types : List ValType) (here : Place) → groups_read before base start ≡ Ok (types, here) → (group (base + length types)).BreaksAt here fault → groups_read n base start ≡ failed fault
unfolding groups_read
groups_again zero before base start fault lt types here e b = absurd (omega (arith, lt))
groups_again (suc n) zero base start fault lt types here e b =
    let same = ok_is ([], start) (types, here) e in
    let first : base + length types ≡ base = sym (base_add base ∙ ap (λ (t : List ValType × Place). base + length t.0) same) in
    let at_start : (group base).BreaksAt start fault = subst (λ (k : ℕ). (group k).BreaksAt start fault) first (subst (λ (q : Place). (group (base + length types)).BreaksAt q fault) (sym (ap (λ p. p.1) same)) b) in
    then_err ((group base).read start) (groups_then n base) fault ((exact_group base).again start fault at_start)
groups_again (suc n) (suc before) base start fault lt types here e b =
    let x = bind_ok ((group base).read start) (groups_then before base) (types, here) e in
    let y = bind_ok (groups_read before (base + length x.0.0) x.0.1) (λ others end. Ok (x.0.0 ++ others, end)) (types, here) x.2 in
    let same = ok_is (x.0.0 ++ y.0.0, y.0.1) (types, here) y.2 in
    let count : base + length types ≡ base + length x.0.0 + length y.0.0 = omega (arith, ap (λ (t : List ValType × Place). length t.0) same, length-append x.0.0 y.0.0) in
    let there = subst (λ (k : ℕ). (group k).BreaksAt y.0.1 fault) count (subst (λ (q : Place). (group (base + length types)).BreaksAt q fault) (sym (ap (λ p. p.1) same)) b) in
    rw (x.1, groups_again n before (base + length x.0.0) x.0.1 fault (omega (arith, lt)) y.0.0 y.0.1 y.1 there) refl

exact_groups : (n : ℕ) → Exact (groups_of n)
exact_groups n = record {
  found = λ start fault e. let b = groups_found n 0 start fault e in (b.0, b.1, (b.2.0, b.2.1, b.2.2, subst (λ (k : ℕ). (group k).BreaksAt b.2.1 fault) (zero_add (length b.2.0)) b.2.3));
  again = λ start fault b. groups_again n b.0 0 start fault b.1 b.2.0 b.2.1 b.2.2 (subst (λ (k : ℕ). (group k).BreaksAt b.2.1 fault) (sym (zero_add (length b.2.0))) b.2.3);
  near = λ start fault b. near_behind start b.2.1 fault (groups_move b.0 0 start b.2.0 b.2.1 b.2.2) ((exact_group (length b.2.0)).near b.2.1 fault b.2.3);
  moves = λ start types after e. groups_move n 0 start types after e;
}

exact_locals : Exact locals
unfolding locals
exact_locals = exact_bind (exact_number false 32) exact_groups

-- ---- one instruction

exact_opcode : (may_else : Bool) → Exact (opcode may_else)
unfolding opcode
exact_opcode may_else = exact_byte_or Nesting (λ b. nested may_else b (shape b))

exact_block_type : Exact block_type
unfolding block_type
exact_block_type = exact_byte_or Cut block_type_of

exact_reserved : Exact reserved
unfolding reserved
exact_reserved = exact_byte_or Cut (marker 0 Reserved)

exact_operands : (first op : ℕ) (s : Shape) → Exact (operands first op s)
unfolding call_indirect br_table memory_access
exact_operands first op shapes.Plain = exact_done _
exact_operands first op shapes.Reserved = exact_bind exact_reserved (λ _. exact_done _)
exact_operands first op shapes.Index = exact_bind (exact_number false 32) (λ i. exact_done _)
exact_operands first op shapes.CallIndirect = exact_bind (exact_number false 32) (λ ty. exact_bind exact_reserved (λ _. exact_done _))
exact_operands first op shapes.BrTable = exact_bind (exact_vector (exact_number false 32)) (λ labels. exact_bind (exact_number false 32) (λ default. exact_done _))
exact_operands first op shapes.Memory = exact_bind (exact_number false 32) (λ align. exact_bind (exact_number false 32) (λ offset. exact_done _))
exact_operands first op shapes.I32Const = exact_bind (exact_number true 32) (λ n. exact_done _)
exact_operands first op shapes.I64Const = exact_bind (exact_number true 64) (λ n. exact_done _)
exact_operands first op shapes.Block = exact_bind exact_block_type (λ t. exact_done _)
exact_operands first op shapes.Loop = exact_bind exact_block_type (λ t. exact_done _)
exact_operands first op shapes.If = exact_bind exact_block_type (λ t. exact_done _)
exact_operands first op shapes.Else = exact_done _
exact_operands first op shapes.End = exact_done _

exact_instr : (first : ℕ) (may_else : Bool) → Exact (instr first may_else)
unfolding instr
exact_instr first may_else = exact_bind (exact_opcode may_else) (λ o. exact_operands first o.0 o.1)

-- an instruction that is read has a byte
instr_steps : (first : ℕ) (may_else : Bool) (start : Place) (x : Instr × List ℕ) (after : Place) → (instr first may_else).read start ≡ Ok (x, after) → length after.rest < length start.rest
instr_steps first may_else start x after e =
    let t = (lawful_instr first may_else).sound start x after e in
    omega (arith, ap length t.cut, length-append t.text after.rest, instr_some first may_else t.text x t.spelled)

-- where nothing is left, it is the nesting that is wrong
instr_wanted : (first : ℕ) (may_else : Bool) (at : ℕ) → (instr first may_else).read (here at []) ≡ breaks at Nesting
unfolding instr opcode next_read
instr_wanted first may_else at = refl

-- ---- bodies

abbrev Instrs : Type 0
Instrs = List Instr × List ℕ

abbrev body_then : ℕ → Bool → List Bool → ℕ → Instr × List ℕ → Place → Reading Instrs
body_then steps o blocks first x after = with_front x.0 x.1 (body_read steps (blocks_after x.0 (o ∷ blocks)) (first + length x.1) after)

nothing_left : (start : Place) → length start.rest ≤ 0 → start ≡ here start.at []
nothing_left start le = go start.rest le
  where
    go : (rest : List ℕ) → length rest ≤ 0 → here start.at rest ≡ here start.at []
    go [] le = refl
    go (b ∷ rest) le = absurd (omega (arith, le))

wanted_here : (first : ℕ) (o : Bool) (start : Place) → length start.rest ≤ 0 → (instr first o).read start ≡ breaks start.at Nesting
wanted_here first o start le = ap (instr first o).read (nothing_left start le) ∙ instr_wanted first o start.at

body_moves : (steps : ℕ) (blocks : List Bool) (first : ℕ) (start : Place) (b : Instrs) (after : Place) → body_read steps blocks first start ≡ Ok (b, after) → Moves start after
unfolding body_read
body_moves steps [] first start b after e = subst (Moves start) (ap (λ p. p.1) (ok_is (([], []), start) (b, after) e)) (omega arith, omega arith)
body_moves zero (o ∷ blocks) first start b after e = absurd cc
body_moves (suc steps) (o ∷ blocks) first start b after e =
    let x = bind_ok ((instr first o).read start) (body_then steps o blocks first) (b, after) e in
    let i = x.0.0.0 in
    let own = x.0.0.1 in
    let y = bind_ok (body_read steps (blocks_after i (o ∷ blocks)) (first + length own) x.0.1) (λ body end. Ok ((i ∷ body.0, own ++ body.1), end)) (b, after) x.2 in
    let one = (exact_instr first o).moves start x.0.0 x.0.1 x.1 in
    let two = body_moves steps (blocks_after i (o ∷ blocks)) (first + length own) x.0.1 y.0.0 y.0.1 y.1 in
    subst (Moves start) (ap (λ p. p.1) (ok_is ((i ∷ y.0.0.0, own ++ y.0.0.1), y.0.1) (b, after) y.2)) (omega (arith, one.0, two.0), omega (arith, one.1, two.1))

abbrev SomewhereAfter : List Bool → ℕ → Place → Broken → Type 0
SomewhereAfter blocks first start fault = (n : ℕ) × BreaksAfter n blocks first start fault

-- where what stands behind an instruction breaks
behind_instr : (steps first : ℕ) (o : Bool) (blocks : List Bool) (start : Place) (fault : Broken) (x : Instr × List ℕ) (after : Place) → (instr first o).read start ≡ Ok (x, after)
    → (body_read steps (blocks_after x.0 (o ∷ blocks)) (first + length x.1) after ≡ failed fault → SomewhereAfter (blocks_after x.0 (o ∷ blocks)) (first + length x.1) after fault)
    → with_front x.0 x.1 (body_read steps (blocks_after x.0 (o ∷ blocks)) (first + length x.1) after) ≡ failed fault → SomewhereAfter (o ∷ blocks) first start fault
behind_instr steps first o blocks start fault x after h ih e =
    elim (bind_err (body_read steps (blocks_after x.0 (o ∷ blocks)) (first + length x.1) after) (λ body end. read_of ((x.0 ∷ body.0, x.1 ++ body.1), end)) fault e) [
      | inl e2 ↦ let s = ih e2 in (suc s.0, (x, after, h, s.1))
      | inr c ↦ absurd (ok_no ((x.0 ∷ c.0.0, x.1 ++ c.0.1), c.1) fault c.3)
    ]

body_found : (steps : ℕ) (blocks : List Bool) (first : ℕ) (start : Place) (fault : Broken) → length start.rest ≤ steps → body_read steps blocks first start ≡ failed fault → SomewhereAfter blocks first start fault
unfolding body_read
body_found steps [] first start fault le e = absurd cc
body_found zero (o ∷ blocks) first start fault le e = (0, (exact_instr first o).found start fault (wanted_here first o start le ∙ err_as Instrs (Instr × List ℕ) (record { at = start.at; kind = Nesting }) fault e))
body_found (suc steps) (o ∷ blocks) first start fault le e =
    elim (bind_err ((instr first o).read start) (body_then steps o blocks first) fault e) [
      | inl e1 ↦ (0, (exact_instr first o).found start fault e1)
      | inr b ↦
          behind_instr steps first o blocks start fault b.0 b.1 b.2
          (λ e2. body_found steps (blocks_after b.0.0 (o ∷ blocks)) (first + length b.0.1) b.1 fault (omega (arith, le, instr_steps first o start b.0 b.1 b.2)) e2) b.3
    ]

body_again : (n steps : ℕ) (blocks : List Bool) (first : ℕ) (start : Place) (fault : Broken) → length start.rest ≤ steps → BreaksAfter n blocks first start fault → body_read steps blocks first start ≡ failed fault
unfolding body_read
body_again n steps [] first start fault le b = absurd b
body_again zero zero (o ∷ blocks) first start fault le b =
    err_as (Instr × List ℕ) Instrs (record { at = start.at; kind = Nesting }) fault (sym (wanted_here first o start le) ∙ (exact_instr first o).again start fault b)
body_again zero (suc steps) (o ∷ blocks) first start fault le b = then_err ((instr first o).read start) (body_then steps o blocks first) fault ((exact_instr first o).again start fault b)
body_again (suc n) zero (o ∷ blocks) first start fault le b = absurd (omega (arith, le, instr_steps first o start b.0 b.1 b.2))
body_again (suc n) (suc steps) (o ∷ blocks) first start fault le b =
    rw (b.2, body_again n steps (blocks_after b.0.0 (o ∷ blocks)) (first + length b.0.1) b.1 fault (omega (arith, le, instr_steps first o start b.0 b.1 b.2)) b.3) refl

body_near : (n : ℕ) (blocks : List Bool) (first : ℕ) (start : Place) (fault : Broken) → BreaksAfter n blocks first start fault → IsNear start fault
body_near n [] first start fault b = absurd b
body_near zero (o ∷ blocks) first start fault b = (exact_instr first o).near start fault b
body_near (suc n) (o ∷ blocks) first start fault b =
    near_behind start b.1 fault ((exact_instr first o).moves start b.0 b.1 b.2) (body_near n (blocks_after b.0.0 (o ∷ blocks)) (first + length b.0.1) b.1 fault b.3)

self_le : (n : ℕ) → n ≤ n
self_le n = omega arith

exact_body : Exact body
exact_body = record {
  found = λ start fault e. body_found (length start.rest) (false ∷ []) 0 start fault (self_le (length start.rest)) e;
  again = λ start fault b. body_again b.0 (length start.rest) (false ∷ []) 0 start fault (self_le (length start.rest)) b.1;
  near = λ start fault b. body_near b.0 (false ∷ []) 0 start fault b.1;
  moves = λ start b after e. body_moves (length start.rest) (false ∷ []) 0 start b after e;
}

exact_code : Exact code
unfolding code
exact_code = exact_bind exact_locals (λ types. exact_bind exact_body (λ b. exact_done _))

-- ---- custom sections

exact_named_bytes : Exact named_bytes
unfolding named_bytes
exact_named_bytes = exact_bind exact_text (λ _. exact_bind exact_anything (λ _. exact_done tt))

exact_custom : Exact custom
unfolding custom
exact_custom = exact_bind (exact_byte_or Cut (marker 0 Section)) (λ _. exact_sized exact_named_bytes)

abbrev customs_then : ℕ → Unit {0} → Place → Reading (Unit {0})
customs_then steps u after = customs_read steps after

abbrev customs_or : ℕ → Place → Bool → Reading (Unit {0})
customs_or steps start b = cond b (then_read (custom.read start) (customs_then steps)) (Ok (tt, start))

customs_or_move : (steps : ℕ) (start : Place) (u : Unit {0}) (after : Place) (b : Bool) → ((here : Place) → customs_read steps here ≡ Ok (u, after) → Moves here after) → customs_or steps start b ≡ Ok (u, after) → Moves start after
customs_or_move steps start u after false ih e = subst (Moves start) (ap (λ p. p.1) (ok_is (tt, start) (u, after) e)) (omega arith, omega arith)
customs_or_move steps start u after true ih e =
    let x = bind_ok (custom.read start) (customs_then steps) (u, after) e in
    let one = exact_custom.moves start x.0.0 x.0.1 x.1 in
    let two = ih x.0.1 x.2 in
    (omega (arith, one.0, two.0), omega (arith, one.1, two.1))

customs_move : (steps : ℕ) (start : Place) (u : Unit {0}) (after : Place) → customs_read steps start ≡ Ok (u, after) → Moves start after
unfolding customs_read
customs_move zero start u after e = subst (Moves start) (ap (λ p. p.1) (ok_is (tt, start) (u, after) e)) (omega arith, omega arith)
customs_move (suc steps) start u after e = customs_or_move steps start u after (begins 0 start.rest) (λ here h. customs_move steps here u after h) e

abbrev SomeCustom : Place → Broken → Type 0
SomeCustom start fault = (n : ℕ) × BreaksAfterCustoms n start fault

customs_or_found : (steps : ℕ) (start : Place) (fault : Broken) (b : Bool) → begins 0 start.rest ≡ b → ((here : Place) → customs_read steps here ≡ failed fault → SomeCustom here fault) → customs_or steps start b ≡ failed fault → SomeCustom start fault
customs_or_found steps start fault false h ih e = absurd (ok_no (tt, start) fault e)
customs_or_found steps start fault true h ih e =
    elim (bind_err (custom.read start) (customs_then steps) fault e) [
      | inl e1 ↦ (0, (h, exact_custom.found start fault e1))
      | inr b ↦ let s = ih b.1 b.3 in (suc s.0, (b.0, b.1, b.2, s.1))
    ]

customs_found : (steps : ℕ) (start : Place) (fault : Broken) → customs_read steps start ≡ failed fault → SomeCustom start fault
unfolding customs_read
customs_found zero start fault e = absurd (ok_no (tt, start) fault e)
customs_found (suc steps) start fault e = customs_or_found steps start fault (begins 0 start.rest) refl (λ here h. customs_found steps here fault h) e

-- what is read as one begins as one, and has a byte
custom_first : (start : Place) (u : Unit {0}) (after : Place) → custom.read start ≡ Ok (u, after) → begins 0 start.rest ≡ true
custom_first start u after e = let t = lawful_custom.sound start u after e in rw t.cut (custom_begins t.text u after.rest t.spelled)

custom_steps : (start : Place) (u : Unit {0}) (after : Place) → custom.read start ≡ Ok (u, after) → length after.rest < length start.rest
custom_steps start u after e = let t = lawful_custom.sound start u after e in omega (arith, ap length t.cut, length-append t.text after.rest, custom_some t.text u t.spelled)

some_left : (rest : List ℕ) → begins 0 rest ≡ true → 0 < length rest
some_left [] e = absurd cc
some_left (b ∷ rest) e = omega arith

customs_again : (n steps : ℕ) (start : Place) (fault : Broken) → length start.rest ≤ steps → BreaksAfterCustoms n start fault → customs_read steps start ≡ failed fault
unfolding customs_read
customs_again zero zero start fault le b = absurd (omega (arith, le, some_left start.rest b.0))
customs_again zero (suc steps) start fault le b = rw b.0 (then_err (custom.read start) (customs_then steps) fault (exact_custom.again start fault b.1))
customs_again (suc n) zero start fault le b = absurd (omega (arith, le, custom_steps start b.0 b.1 b.2))
customs_again (suc n) (suc steps) start fault le b =
    rw (custom_first start b.0 b.1 b.2, b.2, customs_again n steps b.1 fault (omega (arith, le, custom_steps start b.0 b.1 b.2)) b.3) refl

customs_near : (n : ℕ) (start : Place) (fault : Broken) → BreaksAfterCustoms n start fault → IsNear start fault
customs_near zero start fault b = exact_custom.near start fault b.1
customs_near (suc n) start fault b = near_behind start b.1 fault (exact_custom.moves start b.0 b.1 b.2) (customs_near n b.1 fault b.3)

exact_customs : Exact customs
exact_customs = record {
  found = λ start fault e. customs_found (length start.rest) start fault e;
  again = λ start fault b. customs_again b.0 (length start.rest) start fault (self_le (length start.rest)) b.1;
  near = λ start fault b. customs_near b.0 start fault b.1;
  moves = λ start u after e. customs_move (length start.rest) start u after e;
}

-- ---- sections

exact_numbered : {A : Type 0} (k : ℕ) {p : Part (List A)} → Exact p → Exact (numbered k p)
exact_numbered k one = exact_bind (exact_byte_or Cut (marker k Section)) (λ _. exact_bind (exact_sized one) (λ items. exact_bind exact_customs (λ _. exact_done items)))

exact_section : {A : Type 0} (k : ℕ) {p : Part (List A)} → Exact p → Exact (section k p)
unfolding section_read
exact_section {A} k {p} one = record {
  found = λ start fault e. found start fault (begins k start.rest) refl e;
  again = λ start fault b. rw b.0 ((exact_numbered k one).again start fault b.1);
  near = λ start fault b. (exact_numbered k one).near start fault b.1;
  moves = λ start items after e. moves start items after (begins k start.rest) e;
}
  where
    found : (start : Place) (fault : Broken) (b : Bool) → begins k start.rest ≡ b → where_present b ((numbered k p).read start) start ≡ failed fault → (section k p).BreaksAt start fault
    found start fault true h e = (h, (exact_numbered k one).found start fault e)
    found start fault false h e = absurd (ok_no ([], start) fault e)

    moves : (start : Place) (items : List A) (after : Place) (b : Bool) → where_present b ((numbered k p).read start) start ≡ Ok (items, after) → Moves start after
    moves start items after true e = (exact_numbered k one).moves start items after e
    moves start items after false e = subst (Moves start) (ap (λ p. p.1) (ok_is ([], start) (items, after) e)) (omega arith, omega arith)

abbrev end_or : ℕ → Bool → Reading (Unit {0})
end_or at same = cond same (Ok (tt, here at [])) (breaks at Count)

abbrev section_or : ℕ → Bool → Reading (Unit {0})
section_or at is_start = breaks at (cond is_start Start Section)

exact_end : (funcs codes : ℕ) → Exact (input_end funcs codes)
unfolding end_read
exact_end funcs codes = record {
  found = λ start fault e. found start.at start.rest fault e;
  again = λ start fault b. again start.at start.rest fault b;
  near = λ start fault b. near start.at start.rest fault b;
  moves = λ start u after e. moves start.at start.rest u after e;
}
  where
    none_found : (at : ℕ) (fault : Broken) (b : Bool) → eqb funcs codes ≡ b → end_or at b ≡ failed fault → IsNoEnd funcs codes at [] fault
    none_found at fault true h e = absurd (ok_no (tt, here at []) fault e)
    none_found at fault false h e = ((λ s. let t = eq-eqb funcs codes s in absurd cc), sym (err_is (Unit {0}) (record { at = at; kind = Count }) fault e))

    one_found : (at b : ℕ) (rest : List ℕ) (fault : Broken) (t : Bool) → eqb b 8 ≡ t → section_or at t ≡ failed fault → IsNoEnd funcs codes at (b ∷ rest) fault
    one_found at b rest fault true h e = inl (eqb-true b 8 h, sym (err_is (Unit {0}) (record { at = at; kind = Start }) fault e))
    one_found at b rest fault false h e = inr ((λ s. let t = eq-eqb b 8 s in absurd cc), sym (err_is (Unit {0}) (record { at = at; kind = Section }) fault e))

    found : (at : ℕ) (rest : List ℕ) (fault : Broken) → end_from funcs codes at rest ≡ failed fault → IsNoEnd funcs codes at rest fault
    found at [] fault e = none_found at fault (eqb funcs codes) refl e
    found at (b ∷ rest) fault e = one_found at b rest fault (eqb b 8) refl e

    again : (at : ℕ) (rest : List ℕ) (fault : Broken) → IsNoEnd funcs codes at rest fault → end_from funcs codes at rest ≡ failed fault
    again at [] fault b = rw (ne_eqb funcs codes b.0, b.1) refl
    again at (b ∷ rest) fault (inl s) = rw (s.0, s.1) refl
    again at (b ∷ rest) fault (inr s) = rw (ne_eqb b 8 s.0, s.1) refl

    near : (at : ℕ) (rest : List ℕ) (fault : Broken) → IsNoEnd funcs codes at rest fault → IsNear (here at rest) fault
    near at [] fault b = (omega (arith, ap (λ (f : Broken). f.at) b.1), omega (arith, ap (λ (f : Broken). f.at) b.1))
    near at (b ∷ rest) fault (inl s) = (omega (arith, ap (λ (f : Broken). f.at) s.1), omega (arith, ap (λ (f : Broken). f.at) s.1))
    near at (b ∷ rest) fault (inr s) = (omega (arith, ap (λ (f : Broken). f.at) s.1), omega (arith, ap (λ (f : Broken). f.at) s.1))

    ends : (at : ℕ) (u : Unit {0}) (after : Place) (b : Bool) → end_or at b ≡ Ok (u, after) → Moves (here at []) after
    ends at u after true e = subst (Moves (here at [])) (ap (λ p. p.1) (ok_is (tt, here at []) (u, after) e)) (omega arith, omega arith)
    ends at u after false e = absurd cc

    moves : (at : ℕ) (rest : List ℕ) (u : Unit {0}) (after : Place) → end_from funcs codes at rest ≡ Ok (u, after) → Moves (here at rest) after
    moves at [] u after e = ends at u after (eqb funcs codes) e
    moves at (b ∷ rest) u after e = absurd cc

exact_module : Exact module_part
unfolding module_part
exact_module =
    exact_bind (exact_word header Magic) (λ _. exact_bind exact_customs (λ _.
    exact_bind (exact_section 1 (exact_vector exact_func_type)) (λ types.
    exact_bind (exact_section 2 (exact_vector exact_import)) (λ imports.
    exact_bind (exact_section 3 (exact_vector (exact_number false 32))) (λ funcs.
    exact_bind (exact_section 4 (exact_vector exact_table)) (λ tables.
    exact_bind (exact_section 5 (exact_vector exact_limits)) (λ memories.
    exact_bind (exact_section 6 (exact_vector exact_global)) (λ globals.
    exact_bind (exact_section 7 (exact_vector exact_export)) (λ exports.
    exact_bind (exact_section 9 (exact_vector exact_elem)) (λ elems.
    exact_bind (exact_section 10 (exact_vector (exact_sized exact_code))) (λ codes.
    exact_bind (exact_section 11 (exact_vector exact_seg)) (λ segs.
    exact_bind (exact_end (length funcs) (length codes)) (λ _. exact_done _)))))))))))))

-- ---- where bytes break

some_is : (f g : Broken) → Some f ≡ Some g → f ≡ g
some_is f g e = cc

is_failed : (r : Reading PlainModule) (fault : Broken) → broken_in r ≡ Some fault → r ≡ failed fault
is_failed (Ok x) fault e = absurd cc
is_failed (Err f) fault e = ap failed (some_is f fault e)

pub break_at_first_part : BreakAtFirstPart
break_at_first_part bytes fault = (
  (λ e. exact_module.found (here 0 bytes) fault (is_failed (reading_of bytes) fault e)),
  (λ b. rw (exact_module.again (here 0 bytes) fault b) refl),
)

pub break_within : BreakWithin
break_within bytes fault e =
    let near = exact_module.near (here 0 bytes) fault ((break_at_first_part bytes fault).0 e) in
    omega (arith, near.1)
