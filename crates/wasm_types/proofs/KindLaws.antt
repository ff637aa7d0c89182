-- What each part breaks with, at other bytes than its own.
use Rattle.std.proofs.Common.{◌≡◌, ℕ, ◌+◌, ◌<◌, Bool, true, false, cond, eqb, List, ◌++◌, length, Result, Ok, Err, refl, sym, ap, ◌∙◌, arith, inl, inr}
use Rattle.std.proofs.lemmas.Bool.{eqb-true, ne_eqb, le-ltb, lt-leb}
use Rattle.std.proofs.lemmas.List.{length-append}
use Rattle.wasm_types.specs.declared.kind.ReadKind.{ReadKind}
use Rattle.wasm_types.specs.declared.kind.ReadKind.TheVariants.{Cut, Magic, Float, Opcode, ValueType}
use Rattle.wasm_types.specs.declared.opcode.Shape.{Shape}
use Rattle.wasm_types.specs.declared.opcode.Shape.TheVariants as shapes
use Rattle.wasm_types.specs.Opcodes.{shape, is_within, is_plain, has_index, is_memory, is_float}
use Rattle.wasm_types.specs.Part.{IsFrontOf, next_read, length_read, part_read, sized_read}
use Rattle.wasm_types.specs.Types.{text, val_type, val_type_of, result_type, func_type, flag, table, sort_of, desc, ext, const_value, const_end, end_by}
use Rattle.wasm_types.specs.Body.{max_locals, group, nested, opcode, block_type, reserved}
use Rattle.wasm_types.specs.ModuleText.{header, end_read, module_part, BreaksThere}
use Rattle.wasm_types.specs.Faults.{IsFloatType, IsNoType, HeaderFaults, TypeFaults, CodeFaults, ConstantFaults, SectionFaults}
use Rattle.wasm_types.proofs.FaultLaws.{break_at_first_part}

-- ---- the header

there : (bytes : List ℕ) (kind : ReadKind) → (IsFrontOf header bytes → ⊥) → (IsFrontOf bytes header × (kind ≡ Cut)) → BreaksThere bytes (record { at = 0; kind = kind })
unfolding module_part
there bytes kind none front = inl (record { none = none; place = refl; kind = inl front })

magic_there : (bytes : List ℕ) → (IsFrontOf header bytes → ⊥) → (IsFrontOf bytes header → ⊥) → BreaksThere bytes (record { at = 0; kind = Magic })
unfolding module_part
magic_there bytes none other = inl (record { none = none; place = refl; kind = inr (other, refl) })

-- a proper front of the header doesn't begin with it
no_whole : (bytes more : List ℕ) → 0 < length more → header ≡ bytes ++ more → IsFrontOf header bytes → ⊥
no_whole bytes more some front f = omega (arith, some, ap length front, length-append bytes more, ap length f.1, length-append header f.0)

pub header_faults : HeaderFaults
header_faults = record {
  cut = λ bytes more some front. (break_at_first_part bytes (record { at = 0; kind = Cut })).1 (there bytes Cut (no_whole bytes more some front) ((more, front), refl));
  other = λ bytes none other. (break_at_first_part bytes (record { at = 0; kind = Magic })).1 (magic_there bytes none other);
}

-- ---- types

no_type_of : (b : ℕ) → IsNoType b → val_type_of b ≡ Err ValueType
no_type_of b n = rw (ne_eqb b 0x7F n.0, ne_eqb b 0x7E n.1, ne_eqb b 0x7C n.2, ne_eqb b 0x7D n.3) refl

float_type_of : (b : ℕ) → IsFloatType b → val_type_of b ≡ Err Float
float_type_of b (inl e) = rw e refl
float_type_of b (inr e) = rw e refl

pub type_faults : TypeFaults
unfolding func_type val_type result_type table flag desc ext text next_read sized_read part_read length_read
type_faults = record {
  form = λ at b bytes n. rw (ne_eqb b 0x60 n) refl;
  no_type = λ at b bytes n. rw (no_type_of b n) refl;
  float_type = λ at b bytes n. rw (float_type_of b n) refl;
  results = λ start after n e lt. rw (e, lt-leb n 1 lt) refl;
  table_type = λ at b bytes n. rw (ne_eqb b 0x70 n) refl;
  no_flag = λ at b bytes lt. rw (ne_eqb b 0 (λ e. omega (arith, e, lt)), ne_eqb b 1 (λ e. omega (arith, e, lt))) refl;
  import_sort = λ at b bytes lt. rw (no_sort b lt) refl;
  export_sort = λ at b bytes lt. rw (no_sort b lt) refl;
  name = λ start from n e le bad. rw (e, le-ltb (length from.rest) n le, bad) refl;
}
  where
    no_sort : (b : ℕ) → 3 < b → sort_of b ≡ sort_of 4
    no_sort b lt = rw (ne_eqb b 0 (λ e. omega (arith, e, lt)), ne_eqb b 1 (λ e. omega (arith, e, lt)), ne_eqb b 2 (λ e. omega (arith, e, lt)), ne_eqb b 3 (λ e. omega (arith, e, lt))) refl

-- ---- codes

nested_err : (may_else : Bool) (b : ℕ) (r : Result Shape ReadKind) (why : ReadKind) → r ≡ Err why → nested may_else b r ≡ Err why
nested_err may_else b r why e = rw e refl

else_shape : shape 0x05 ≡ Ok shapes.Else
unfolding shape
else_shape = refl

pub code_faults : CodeFaults
unfolding group opcode block_type reserved next_read
code_faults = record {
  locals = λ before n start after e lt. rw (e, lt-leb (before + n) max_locals lt) refl;
  no_opcode = λ may_else at b bytes why e. rw (nested_err may_else b (shape b) why e) refl;
  nesting = λ at bytes. rw else_shape refl;
  no_block_type = λ at b bytes n t. rw (ne_eqb b 0x40 n, no_type_of b t) refl;
  float_block_type = λ at b bytes f. rw (ne_eqb b 0x40 (not_empty b f), float_type_of b f) refl;
  not_zero = λ at b bytes n. rw (ne_eqb b 0 n) refl;
}
  where
    not_empty : (b : ℕ) → IsFloatType b → b ≡ 0x40 → ⊥
    not_empty b (inl e) f = omega (arith, e, f)
    not_empty b (inr e) f = omega (arith, e, f)

-- ---- initialisers and offsets

abbrev Shaped : Type 0
Shaped = Result Shape ReadKind

abbrev is_shape : Shape → Shaped
is_shape s = Ok s

abbrev no_shape : ReadKind → Shaped
no_shape why = Err why

-- past an opcode of another shape
past : (c : Bool) (s : Shape) (r wanted : Shaped) → (is_shape s ≡ wanted → ⊥) → cond c (is_shape s) r ≡ wanted → r ≡ wanted
past true s r wanted other e = absurd (other e)
past false s r wanted other e = e

past_float : (c : Bool) (r wanted : Shaped) → (no_shape Float ≡ wanted → ⊥) → cond c (no_shape Float) r ≡ wanted → r ≡ wanted
past_float true r wanted other e = absurd (other e)
past_float false r wanted other e = e

-- the only byte that is an end
end_is : (b : ℕ) → shape b ≡ is_shape shapes.End → b ≡ 0x0B
unfolding shape
end_is b e =
    let e1 = past (is_plain b) shapes.Plain _ _ (λ f. cc) e in
    let e2 = past (has_index b) shapes.Index _ _ (λ f. cc) e1 in
    let e3 = past (is_memory b) shapes.Memory _ _ (λ f. cc) e2 in
    let e4 = past_float (is_float b) _ _ (λ f. cc) e3 in
    let e5 = past (eqb b 0x02) shapes.Block _ _ (λ f. cc) e4 in
    let e6 = past (eqb b 0x03) shapes.Loop _ _ (λ f. cc) e5 in
    let e7 = past (eqb b 0x04) shapes.If _ _ (λ f. cc) e6 in
    let e8 = past (eqb b 0x05) shapes.Else _ _ (λ f. cc) e7 in
    go (eqb b 0x0B) refl e8
  where
    go : (c : Bool) → eqb b 0x0B ≡ c → cond c (is_shape shapes.End) (cond (eqb b 0x0E) (Ok shapes.BrTable) (cond (eqb b 0x11) (Ok shapes.CallIndirect) (cond (is_within 0x3F 0x40 b) (Ok shapes.Reserved) (cond (eqb b 0x41) (Ok shapes.I32Const) (cond (eqb b 0x42) (Ok shapes.I64Const) (Err Opcode)))))) ≡ is_shape shapes.End → b ≡ 0x0B
    go true h e = eqb-true b 0x0B h
    go false h e =
        let e1 = past (eqb b 0x0E) shapes.BrTable _ _ (λ f. cc) e in
        let e2 = past (eqb b 0x11) shapes.CallIndirect _ _ (λ f. cc) e1 in
        let e3 = past (is_within 0x3F 0x40 b) shapes.Reserved _ _ (λ f. cc) e2 in
        let e4 = past (eqb b 0x41) shapes.I32Const _ _ (λ f. cc) e3 in
        let e5 = past (eqb b 0x42) shapes.I64Const _ _ (λ f. cc) e4 in
        absurd cc

-- a byte that is no opcode, and none of floats
unknown_is : (b : ℕ) (why : ReadKind) → (why ≡ Float → ⊥) → shape b ≡ no_shape why → why ≡ Opcode
unfolding shape
unknown_is b why other e =
    let e1 = past (is_plain b) shapes.Plain _ _ (λ f. cc) e in
    let e2 = past (has_index b) shapes.Index _ _ (λ f. cc) e1 in
    let e3 = past (is_memory b) shapes.Memory _ _ (λ f. cc) e2 in
    let e4 = past_float (is_float b) _ _ (λ f. other (sym (why_is Float why f))) e3 in
    let e5 = past (eqb b 0x02) shapes.Block _ _ (λ f. cc) e4 in
    let e6 = past (eqb b 0x03) shapes.Loop _ _ (λ f. cc) e5 in
    let e7 = past (eqb b 0x04) shapes.If _ _ (λ f. cc) e6 in
    let e8 = past (eqb b 0x05) shapes.Else _ _ (λ f. cc) e7 in
    let e9 = past (eqb b 0x0B) shapes.End _ _ (λ f. cc) e8 in
    let f1 = past (eqb b 0x0E) shapes.BrTable _ _ (λ f. cc) e9 in
    let f2 = past (eqb b 0x11) shapes.CallIndirect _ _ (λ f. cc) f1 in
    let f3 = past (is_within 0x3F 0x40 b) shapes.Reserved _ _ (λ f. cc) f2 in
    let f4 = past (eqb b 0x41) shapes.I32Const _ _ (λ f. cc) f3 in
    let f5 = past (eqb b 0x42) shapes.I64Const _ _ (λ f. cc) f4 in
    sym (why_is Opcode why f5)
  where
    why_is : (k l : ReadKind) → no_shape k ≡ no_shape l → k ≡ l
    why_is k l e = cc

-- what is said of another byte than an end
other_end : (b : ℕ) (r : Shaped) → shape b ≡ r → (b ≡ 0x0B → ⊥) → (shape b ≡ no_shape Float → ⊥) → end_by r ≡ Err Opcode
other_end b (Err why) h n f = ap Err (unknown_is b why (λ e. f (h ∙ ap no_shape e)) h)
other_end b (Ok shapes.Plain) h n f = refl
other_end b (Ok shapes.Reserved) h n f = refl
other_end b (Ok shapes.Index) h n f = refl
other_end b (Ok shapes.CallIndirect) h n f = refl
other_end b (Ok shapes.BrTable) h n f = refl
other_end b (Ok shapes.Memory) h n f = refl
other_end b (Ok shapes.I32Const) h n f = refl
other_end b (Ok shapes.I64Const) h n f = refl
other_end b (Ok shapes.Block) h n f = refl
other_end b (Ok shapes.Loop) h n f = refl
other_end b (Ok shapes.If) h n f = refl
other_end b (Ok shapes.Else) h n f = refl
other_end b (Ok shapes.End) h n f = absurd (n (end_is b h))

pub constant_faults : ConstantFaults
unfolding const_value const_end next_read
constant_faults = record {
  first = λ at b bytes why e. rw e refl;
  float_end = λ at b bytes e. rw e refl;
  other_end = λ at b bytes n f. rw (other_end b (shape b) refl n f) refl;
}

pub section_faults : SectionFaults
unfolding end_read
section_faults = record {
  start = λ funcs codes at bytes. refl;
  other = λ funcs codes at b bytes n. rw (ne_eqb b 8 n) refl;
}
