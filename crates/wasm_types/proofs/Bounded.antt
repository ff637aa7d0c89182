-- A module that bytes spell keeps to its bounds.
use Rattle.std.proofs.Common.{◌≡◌, ℕ, zero, suc, ◌+◌, ◌-◌, ◌^◌, ◌<◌, ◌≤◌, Bool, true, false, cond, ltb, leb, List, [], ◌∷◌, length, replicate, Option, Some, None, Result, Ok, Err, refl, sym, ap, subst, ◌∙◌, arith, inl, inr}
use Rattle.std.specs.Prelude.{All, IfSome}
use Rattle.std.specs.Str.{is_utf8}
use Rattle.std.proofs.lemmas.Bool.{ltb-true, leb-true}
use Rattle.std.proofs.lemmas.List.{length-append, length-replicate}
use Rattle.std.proofs.lemmas.List.Elements.{All-nil, All-cons, All-head, All-tail, All-append}
use Rattle.std.proofs.Math.Pow.{pow_pos, pow_mono}
use Rattle.wasm_types.specs.declared.kind.ReadKind.{ReadKind}
use Rattle.wasm_types.specs.declared.kind.ReadKind.TheVariants.{Magic, Name, Form, ValueType}
use Rattle.wasm_types.specs.declared.value.ValType.{ValType}
use Rattle.wasm_types.specs.declared.value.Value.TheVariants as values
use Rattle.wasm_types.specs.declared.sort.Sort.{Sort}
use Rattle.wasm_types.specs.declared.sort.Sort.TheVariants as sorts
use Rattle.wasm_types.specs.declared.opcode.ConstOp.{ConstOp}
use Rattle.wasm_types.specs.declared.opcode.ConstOp.TheVariants as consts
use Rattle.wasm_types.specs.declared.opcode.Shape.{Shape}
use Rattle.wasm_types.specs.declared.opcode.Shape.TheVariants as shapes
use Rattle.wasm_types.specs.declared.instr.Instr.{Instr}
use Rattle.wasm_types.specs.declared.instr.Instr.TheVariants.{Op, Index, CallIndirect, BrTable, Mem, Const, Block, Loop, If, Else, End}
use Rattle.wasm_types.specs.Plain.{PlainCode}
use Rattle.wasm_types.specs.Number.{last_of, IsNumber}
use Rattle.wasm_types.specs.Part.{byte, marker, number, exactly, IsRepeated, judged, anything, byte_list}
use Rattle.wasm_types.specs.Opcodes.{shape, const_op}
use Rattle.wasm_types.specs.Types.{text, val_type, result_type, func_type, flag, limits_with, limits, table, sort_of, global_desc, desc_of, desc, import_, ext_of, ext, export_, const_operand, const_value, const_end, init, global, elem, seg}
use Rattle.wasm_types.specs.Body.{max_locals, group, AreGroups, locals, nested, opcode, br_table, memory_access, call_indirect, operands, instr, blocks_after, IsBody, closings, closings_with, else_at, outer, innermost, closed, placed, code}
use Rattle.wasm_types.specs.ModuleText.{header, customs, input_end, AreBytes, module_part}
use Rattle.wasm_types.specs.Laws.{AreFew}
use Rattle.wasm_types.specs.Bounds.{IsIndex, IsByte, AreFewOf, IsText, IsFuncType, IsLimits, IsDesc, IsImport, IsExt, IsExport, IsInit, IsGlobal, IsElem, IsSeg, IsOpcode, IsInstr, IsCode, IsBounded, SpelledAreBounded}
use Rattle.wasm_types.proofs.Numbers.{more_bits}
use Rattle.wasm_types.proofs.BodyLaws.{instr_some}
use Rattle.wasm_types.proofs.Shaped.{Gives, gives_bind, gives_done, any, few_number, gives_vector, gives_sized, gives_section, Few, read_shape, front_bytes, back_bytes}

abbrev IsBelow : ℕ → ℕ → Type 0
IsBelow bits n = n < 2 ^ bits

-- ---- numbers with sign

last_below : (bits b n : ℕ) → b < 128 → last_of true bits b ≡ Some n → n < 2 ^ bits
last_below bits b n small e = go (ltb b 64) (ltb b (2 ^ (bits - 1))) (leb 128 (b + 2 ^ (bits - 1))) refl e
  where
    half : 2 ^ (bits - 1) ≤ 2 ^ bits
    half = pow_mono (omega arith)

    go : (s t u : Bool) → ltb b (2 ^ (bits - 1)) ≡ t → cond s (cond t (Some b) None) (cond u (Some (2 ^ bits - (128 - b))) None) ≡ Some n → n < 2 ^ bits
    go true true u h e = let same : b ≡ n = cc in omega (arith, ltb-true b (2 ^ (bits - 1)) h, half, same)
    go true false u h e = absurd cc
    go false t true h e = let same : 2 ^ bits - (128 - b) ≡ n = cc in omega (arith, same, pow_pos bits)
    go false t false h e = absurd cc

signed_below : (bits : ℕ) (text : List ℕ) (n : ℕ) → AreBytes text → IsNumber true bits text n → n < 2 ^ bits
signed_below bits [] n fits s = absurd s
signed_below bits (b ∷ []) n fits s = last_below bits b n s.0 s.1
signed_below bits (b ∷ c ∷ text) n fits s =
    let high = signed_below (bits - 7) (c ∷ text) s.2 (All-tail IsByte b (c ∷ text) fits) s.4 in
    let below = more_bits bits s.2 b s.1 high (All-head IsByte b (c ∷ text) fits) s.0 in
    omega (arith, below, s.3, s.0)

gives_signed : (bits : ℕ) → Gives (IsBelow bits) (number true bits)
gives_signed bits = record { each = λ text n fits s. signed_below bits text n fits s }

-- ---- lists and texts

few_of : {A : Type 0} {Q : A → Type 0} (items : List A) → Few Q items → AreFewOf Q items
few_of items q = record { few = q.0; each = q.1 }

gives_text : Gives IsText text
unfolding text
gives_text = gives_sized (judged Name is_utf8 anything) (λ text a fits short s. subst IsText (sym s.0) (record { few = short; bytes = fits; utf8 = ap is_utf8 (sym s.0) ∙ s.1 }))

gives_bytes : Gives (AreFewOf IsByte) byte_list
gives_bytes = gives_sized anything (λ text a fits short s. subst (AreFewOf IsByte) (sym s) (record { few = short; each = fits }))

-- ---- the parts of sections

gives_func_type : Gives IsFuncType func_type
unfolding func_type
gives_func_type = gives_bind (any {p = byte (marker 0x60 Form)}) (λ _ _. gives_bind (gives_vector (any {p = val_type})) (λ params q. gives_bind (any {p = result_type}) (λ result _. gives_done _ (record { params = q.0 }))))

gives_limits_with : (has_max : Bool) (min : ℕ) → IsIndex min → Gives IsLimits (limits_with has_max min)
gives_limits_with false min q = gives_done _ (record { min = q; max = tt })
gives_limits_with true min q = gives_bind few_number (λ max r. gives_done _ (record { min = q; max = r }))

gives_limits : Gives IsLimits limits
unfolding limits
gives_limits = gives_bind (any {p = flag}) (λ has_max _. gives_bind few_number (λ min q. gives_limits_with has_max min q))

gives_table : Gives IsLimits table
unfolding table
gives_table = gives_bind (any {p = byte (marker 0x70 ValueType)}) (λ _ _. gives_limits)

gives_global_desc : Gives IsDesc global_desc
unfolding global_desc
gives_global_desc = gives_bind (any {p = val_type}) (λ ty _. gives_bind (any {p = flag}) (λ mutable _. gives_done _ tt))

gives_desc_of : (sort : Sort) → Gives IsDesc (desc_of sort)
gives_desc_of sorts.Func = gives_bind few_number (λ ty q. gives_done _ q)
gives_desc_of sorts.Table = gives_bind gives_table (λ size q. gives_done _ q)
gives_desc_of sorts.Memory = gives_bind gives_limits (λ size q. gives_done _ q)
gives_desc_of sorts.Global = gives_global_desc

gives_desc : Gives IsDesc desc
unfolding desc
gives_desc = gives_bind (any {p = byte sort_of}) (λ sort _. gives_desc_of sort)

gives_import : Gives IsImport import_
unfolding import_
gives_import = gives_bind gives_text (λ from q. gives_bind gives_text (λ name r. gives_bind gives_desc (λ what t. gives_done _ (record { from = q; name = r; desc = t }))))

is_ext : (sort : Sort) (i : ℕ) → IsIndex i → IsExt (ext_of sort i)
is_ext sorts.Func i q = q
is_ext sorts.Table i q = q
is_ext sorts.Memory i q = q
is_ext sorts.Global i q = q

gives_ext : Gives IsExt ext
unfolding ext
gives_ext = gives_bind (any {p = byte sort_of}) (λ sort _. gives_bind few_number (λ i q. gives_done _ (is_ext sort i q)))

gives_export : Gives IsExport export_
unfolding export_
gives_export = gives_bind gives_text (λ name q. gives_bind gives_ext (λ what r. gives_done _ (record { name = q; ext = r })))

gives_const_operand : (op : ConstOp) → Gives IsInit (const_operand op)
gives_const_operand consts.I32Const = gives_bind (gives_signed 32) (λ n q. gives_done _ q)
gives_const_operand consts.I64Const = gives_bind (gives_signed 64) (λ n q. gives_done _ q)
gives_const_operand consts.GlobalGet = gives_bind few_number (λ i q. gives_done _ q)

gives_init : Gives IsInit init
unfolding init const_value
gives_init = gives_bind (gives_bind (any {p = byte const_op}) (λ op _. gives_const_operand op)) (λ value q. gives_bind (any {p = const_end}) (λ _ _. gives_done value q))

gives_global : Gives IsGlobal global
unfolding global
gives_global = gives_bind (any {p = val_type}) (λ ty _. gives_bind (any {p = flag}) (λ mutable _. gives_bind gives_init (λ value q. gives_done _ (record { init = q }))))

gives_elem : Gives IsElem elem
unfolding elem
gives_elem = gives_bind few_number (λ table q. gives_bind gives_init (λ offset r. gives_bind (gives_vector few_number) (λ funcs t. gives_done _ (record { table = q; offset = r; funcs = few_of funcs t }))))

gives_seg : Gives IsSeg seg
unfolding seg
gives_seg = gives_bind few_number (λ memory q. gives_bind gives_init (λ offset r. gives_bind gives_bytes (λ bytes t. gives_done _ (record { memory = q; offset = r; bytes = t }))))

-- ---- locals

abbrev AreMostly : ℕ → List ValType → Type 0
AreMostly before types = before + length types ≤ max_locals

group_few : (before : ℕ) (text : List ℕ) (own : List ValType) → (group before).Spells text own → AreMostly before own
unfolding group
group_few before text own s =
    let n = s.value in
    let le : before + n ≤ max_locals = leb-true _ _ s.first.1 in
    let len : length own ≡ n = ap length s.second.second.1 ∙ length-replicate n s.second.value in
    omega (arith, le, len)

groups_few : (n before : ℕ) (text : List ℕ) (types : List ValType) → before ≤ max_locals → AreGroups n before text types → AreMostly before types
groups_few zero before text types le s = rw s.1 (omega (arith, le))
groups_few (suc n) before text types le s =
    let one = group_few before s.front s.value s.first in
    let t = s.second in
    let two = groups_few n (before + length s.value) t.front t.value one t.first in
    omega (arith, two, ap length t.second.1, length-append s.value t.value)

locals_few : (text : List ℕ) (types : List ValType) → locals.Spells text types → length types ≤ max_locals
unfolding locals
locals_few text types s = omega (arith, groups_few s.value 0 s.back types (omega arith) s.second)

-- ---- instructions, before they have their places

-- an instruction of a code with so many targets, whatever its places are
abbrev Fits : ℕ → Instr → Type 0
Fits targets (Op op) = IsInstr targets 0 (Op op)
Fits targets (Index op i) = IsInstr targets 0 (Index op i)
Fits targets (CallIndirect ty) = IsInstr targets 0 (CallIndirect ty)
Fits targets (BrTable first count default) = IsInstr targets 0 (BrTable first count default)
Fits targets (Mem op align offset) = IsInstr targets 0 (Mem op align offset)
Fits targets (Const v) = IsInstr targets 0 (Const v)
Fits targets (Block t end) = Unit {0}
Fits targets (Loop t end) = Unit {0}
Fits targets (If t els end) = Unit {0}
Fits targets (Else end) = Unit {0}
Fits targets End = Unit {0}

more_targets : (few many : ℕ) (i : Instr) → few ≤ many → Fits few i → Fits many i
more_targets few many (Op op) le q = q
more_targets few many (Index op i) le q = q
more_targets few many (CallIndirect ty) le q = q
more_targets few many (BrTable first count default) le q = (omega (arith, q.0, le), q.1)
more_targets few many (Mem op align offset) le q = q
more_targets few many (Const v) le q = q
more_targets few many (Block t end) le q = tt
more_targets few many (Loop t end) le q = tt
more_targets few many (If t els end) le q = tt
more_targets few many (Else end) le q = tt
more_targets few many End le q = tt

record IsRaw (first : ℕ) (x : Instr × List ℕ) : Type 0 where
  fits : Fits (first + length x.1) x.0
  labels : All IsIndex x.1

no_labels : (first : ℕ) (i : Instr) → Fits first i → IsRaw first (i, [])
no_labels first i q = record { fits = more_targets first (first + 0) i (omega arith) q; labels = All-nil IsIndex }

gives_operands : (first op : ℕ) (s : Shape) → IsOpcode s op → Gives (IsRaw first) (operands first op s)
unfolding call_indirect br_table memory_access
gives_operands first op shapes.Plain q = gives_done _ (no_labels first (Op op) (inl q))
gives_operands first op shapes.Reserved q = gives_bind any (λ _ _. gives_done _ (no_labels first (Op op) (inr q)))
gives_operands first op shapes.Index q = gives_bind few_number (λ i r. gives_done _ (no_labels first (Index op i) (q, r)))
gives_operands first op shapes.CallIndirect q = gives_bind few_number (λ ty r. gives_bind any (λ _ _. gives_done _ (no_labels first (CallIndirect ty) r)))
gives_operands first op shapes.BrTable q = gives_bind (gives_vector few_number) (λ labels r. gives_bind few_number (λ default t. gives_done _ (record { fits = (omega arith, t); labels = r.1 })))
gives_operands first op shapes.Memory q = gives_bind few_number (λ align r. gives_bind few_number (λ offset t. gives_done _ (no_labels first (Mem op align offset) (q, r, t))))
gives_operands first op shapes.I32Const q = gives_bind (gives_signed 32) (λ n r. gives_done _ (no_labels first _ r))
gives_operands first op shapes.I64Const q = gives_bind (gives_signed 64) (λ n r. gives_done _ (no_labels first _ r))
gives_operands first op shapes.Block q = gives_bind any (λ t _. gives_done _ (no_labels first (Block t 0) tt))
gives_operands first op shapes.Loop q = gives_bind any (λ t _. gives_done _ (no_labels first (Loop t 0) tt))
gives_operands first op shapes.If q = gives_bind any (λ t _. gives_done _ (no_labels first (If t None 0) tt))
gives_operands first op shapes.Else q = gives_done _ (no_labels first (Else 0) tt)
gives_operands first op shapes.End q = gives_done _ (no_labels first End tt)

abbrev IsShapeOf : ℕ × Shape → Type 0
IsShapeOf o = IsOpcode o.1 o.0

shape_is : (may_else : Bool) (b : ℕ) (r : Result Shape ReadKind) (o : ℕ × Shape) → shape b ≡ r → IsByte b → nested may_else b r ≡ read_shape o → IsShapeOf o
shape_is may_else b (Err why) o h byte e = absurd cc
shape_is may_else b (Ok shapes.Plain) o h byte e = let same : (b, shapes.Plain) ≡ o = cc in subst IsShapeOf same (record { byte = byte; known = h })
shape_is may_else b (Ok shapes.Reserved) o h byte e = let same : (b, shapes.Reserved) ≡ o = cc in subst IsShapeOf same (record { byte = byte; known = h })
shape_is may_else b (Ok shapes.Index) o h byte e = let same : (b, shapes.Index) ≡ o = cc in subst IsShapeOf same (record { byte = byte; known = h })
shape_is may_else b (Ok shapes.CallIndirect) o h byte e = let same : (b, shapes.CallIndirect) ≡ o = cc in subst IsShapeOf same (record { byte = byte; known = h })
shape_is may_else b (Ok shapes.BrTable) o h byte e = let same : (b, shapes.BrTable) ≡ o = cc in subst IsShapeOf same (record { byte = byte; known = h })
shape_is may_else b (Ok shapes.Memory) o h byte e = let same : (b, shapes.Memory) ≡ o = cc in subst IsShapeOf same (record { byte = byte; known = h })
shape_is may_else b (Ok shapes.I32Const) o h byte e = let same : (b, shapes.I32Const) ≡ o = cc in subst IsShapeOf same (record { byte = byte; known = h })
shape_is may_else b (Ok shapes.I64Const) o h byte e = let same : (b, shapes.I64Const) ≡ o = cc in subst IsShapeOf same (record { byte = byte; known = h })
shape_is may_else b (Ok shapes.Block) o h byte e = let same : (b, shapes.Block) ≡ o = cc in subst IsShapeOf same (record { byte = byte; known = h })
shape_is may_else b (Ok shapes.Loop) o h byte e = let same : (b, shapes.Loop) ≡ o = cc in subst IsShapeOf same (record { byte = byte; known = h })
shape_is may_else b (Ok shapes.If) o h byte e = let same : (b, shapes.If) ≡ o = cc in subst IsShapeOf same (record { byte = byte; known = h })
shape_is true b (Ok shapes.Else) o h byte e = let same : (b, shapes.Else) ≡ o = cc in subst IsShapeOf same (record { byte = byte; known = h })
shape_is false b (Ok shapes.Else) o h byte e = absurd cc
shape_is may_else b (Ok shapes.End) o h byte e = let same : (b, shapes.End) ≡ o = cc in subst IsShapeOf same (record { byte = byte; known = h })

gives_opcode : (may_else : Bool) → Gives IsShapeOf (opcode may_else)
unfolding opcode
gives_opcode may_else = record { each = λ text o fits s. shape_is may_else s.0 (shape s.0) o refl (All-head IsByte s.0 [] (subst AreBytes s.1 fits)) s.2 }

gives_instr : (first : ℕ) (may_else : Bool) → Gives (IsRaw first) (instr first may_else)
unfolding instr
gives_instr first may_else = gives_bind (gives_opcode may_else) (λ o q. gives_operands first o.0 o.1 q)

-- ---- each label has a byte

number_some : (signed : Bool) (bits : ℕ) (text : List ℕ) (n : ℕ) → IsNumber signed bits text n → 0 < length text
number_some signed bits [] n s = absurd s
number_some signed bits (b ∷ text) n s = omega arith

repeated_short : (n : ℕ) (text items : List ℕ) → IsRepeated (IsNumber false 32) n text items → length items ≤ length text
repeated_short zero text items s = rw s.1 (omega arith)
repeated_short (suc n) text items s =
    let t = s.second in
    let later = repeated_short n t.front t.value t.first in
    omega (arith, later, ap length t.second.1, ap length s.cut, length-append s.front s.back, ap length t.cut, length-append t.front t.back, number_some false 32 s.front s.value s.first)

abbrev IsShort : List ℕ → Instr × List ℕ → Type 0
IsShort text x = length x.1 ≤ length text

none_short : (text : List ℕ) (x : Instr × List ℕ) (i : Instr) → x ≡ (i, []) → IsShort text x
none_short text x i e = subst (IsShort text) (sym e) (omega arith)

operands_short : (first op : ℕ) (s : Shape) (text : List ℕ) (x : Instr × List ℕ) → (operands first op s).Spells text x → IsShort text x
unfolding call_indirect br_table memory_access
operands_short first op shapes.Plain text x s = none_short text x _ s.1
operands_short first op shapes.Reserved text x s = none_short text x _ s.second.1
operands_short first op shapes.Index text x s = none_short text x _ s.second.1
operands_short first op shapes.CallIndirect text x s = none_short text x _ s.second.second.1
operands_short first op shapes.BrTable text x s =
    let v = s.first in
    let few = repeated_short v.value v.back s.value v.second in
    let same : length x.1 ≡ length s.value = ap (λ (y : Instr × List ℕ). length y.1) s.second.second.1 in
    omega (arith, few, same, ap length s.cut, length-append s.front s.back, ap length v.cut, length-append v.front v.back)
operands_short first op shapes.Memory text x s = none_short text x _ s.second.second.1
operands_short first op shapes.I32Const text x s = none_short text x _ s.second.1
operands_short first op shapes.I64Const text x s = none_short text x _ s.second.1
operands_short first op shapes.Block text x s = none_short text x _ s.second.1
operands_short first op shapes.Loop text x s = none_short text x _ s.second.1
operands_short first op shapes.If text x s = none_short text x _ s.second.1
operands_short first op shapes.Else text x s = none_short text x _ s.1
operands_short first op shapes.End text x s = none_short text x _ s.1

instr_short : (first : ℕ) (may_else : Bool) (text : List ℕ) (x : Instr × List ℕ) → (instr first may_else).Spells text x → IsShort text x
unfolding instr
instr_short first may_else text x s =
    let few = operands_short first s.value.0 s.value.1 s.back x s.second in
    omega (arith, few, ap length s.cut, length-append s.front s.back)

-- ---- bodies

record IsRawBody (first : ℕ) (text : List ℕ) (instrs : List Instr) (labels : List ℕ) : Type 0 where
  fits : All (Fits (first + length labels)) instrs
  indices : All IsIndex labels
  short : length labels ≤ length text
  count : length instrs ≤ length text

raw_body : (blocks : List Bool) (first : ℕ) (text : List ℕ) (instrs : List Instr) (labels : List ℕ) → AreBytes text → IsBody blocks first text instrs labels → IsRawBody first text instrs labels
raw_body [] first text instrs labels fits s = record {
  fits = rw s.1 (All-nil (Fits (first + length labels)));
  indices = rw s.2 (All-nil IsIndex);
  short = rw s.2 (omega arith);
  count = rw s.1 (omega arith);
}
raw_body (o ∷ blocks) first text [] labels fits s = absurd s
raw_body (o ∷ blocks) first text (i ∷ instrs) labels fits s =
    let own = s.0 in
    let j = s.3 in
    let all = subst AreBytes j.cut fits in
    let one : IsRaw first (i, own) = subst (IsRaw first) j.second.0 ((gives_instr first o).each j.front j.value (front_bytes j.front j.back all) j.first) in
    let few : IsShort j.front (i, own) = subst (IsShort j.front) j.second.0 (instr_short first o j.front j.value j.first) in
    let two = raw_body (blocks_after i (o ∷ blocks)) (first + length own) j.back instrs s.1 (back_bytes j.front j.back all) j.second.1 in
    let len : length labels ≡ length own + length s.1 = ap length s.2 ∙ length-append own s.1 in
    let same : first + length own + length s.1 ≡ first + length labels = omega (arith, len) in
    record {
      fits = All-cons (Fits (first + length labels)) i instrs (more_targets (first + length own) (first + length labels) i (omega (arith, len)) one.fits) (subst (λ (n : ℕ). All (Fits n) instrs) same two.fits);
      indices = subst (All IsIndex) (sym s.2) (All-append IsIndex own s.1 one.labels two.indices);
      short = omega (arith, few, two.short, len, ap length j.cut, length-append j.front j.back);
      count = omega (arith, two.count, instr_some first o j.front j.value j.first, ap length j.cut, length-append j.front j.back);
    }

-- ---- the places of `else` and `end`

abbrev Closes : ℕ → Option ℕ × ℕ → Type 0
Closes places c = IfSome c.0 (λ at. at < places) × (c.1 < places)

outer_within : (places : ℕ) (later : List (Option ℕ × ℕ)) → All (Closes places) later → All (Closes places) (outer later)
outer_within places [] q = q
outer_within places (c ∷ later) q = All-tail (Closes places) c later q

else_within : (places at : ℕ) (later : List (Option ℕ × ℕ)) → at < places → All (Closes places) later → All (Closes places) (else_at at later)
else_within places at [] lt q = q
else_within places at (c ∷ later) lt q = All-cons (Closes places) (Some at, c.1) later (lt, (All-head (Closes places) c later q).1) (All-tail (Closes places) c later q)

with_within : (places at : ℕ) (i : Instr) (later : List (Option ℕ × ℕ)) → at < places → All (Closes places) later → All (Closes places) (closings_with at i later)
with_within places at (Op op) later lt q = q
with_within places at (Index op i) later lt q = q
with_within places at (CallIndirect ty) later lt q = q
with_within places at (BrTable first count default) later lt q = q
with_within places at (Mem op align offset) later lt q = q
with_within places at (Const v) later lt q = q
with_within places at (Block t end) later lt q = outer_within places later q
with_within places at (Loop t end) later lt q = outer_within places later q
with_within places at (If t els end) later lt q = outer_within places later q
with_within places at (Else end) later lt q = else_within places at later lt q
with_within places at End later lt q = All-cons (Closes places) (None, at) later (tt, lt) q

closings_within : (places at : ℕ) (instrs : List Instr) → at + length instrs ≤ places → All (Closes places) (closings at instrs)
unfolding closings
closings_within places at [] le = All-nil (Closes places)
closings_within places at (i ∷ instrs) le = with_within places at i (closings (at + 1) instrs) (omega (arith, le)) (closings_within places (at + 1) instrs (omega (arith, le)))

innermost_within : (places : ℕ) (cs : List (Option ℕ × ℕ)) → 0 < places → All (Closes places) cs → Closes places (innermost cs)
innermost_within places [] some q = (tt, some)
innermost_within places (c ∷ cs) some q = All-head (Closes places) c cs q

closed_fits : (targets places : ℕ) (i : Instr) (c : Option ℕ × ℕ) → Closes places c → Fits targets i → IsInstr targets places (closed i c)
closed_fits targets places (Op op) c k q = q
closed_fits targets places (Index op i) c k q = q
closed_fits targets places (CallIndirect ty) c k q = q
closed_fits targets places (BrTable first count default) c k q = q
closed_fits targets places (Mem op align offset) c k q = q
closed_fits targets places (Const (values.I32 n)) c k q = q
closed_fits targets places (Const (values.I64 n)) c k q = q
closed_fits targets places (Block t end) c k q = k.1
closed_fits targets places (Loop t end) c k q = k.1
closed_fits targets places (If t els end) c k q = k
closed_fits targets places (Else end) c k q = k.1
closed_fits targets places End c k q = tt

placed_fits : (targets places at : ℕ) (instrs : List Instr) → at + length instrs ≤ places → All (Fits targets) instrs → All (IsInstr targets places) (placed at instrs)
unfolding placed
placed_fits targets places at [] le q = All-nil (IsInstr targets places)
placed_fits targets places at (i ∷ instrs) le q =
    let later = closings (at + 1) instrs in
    let c = innermost_within places later (omega (arith, le)) (closings_within places (at + 1) instrs (omega (arith, le))) in
    All-cons (IsInstr targets places) (closed i (innermost later)) (placed (at + 1) instrs) (closed_fits targets places i (innermost later) c (All-head (Fits targets) i instrs q)) (placed_fits targets places (at + 1) instrs (omega (arith, le)) (All-tail (Fits targets) i instrs q))

placed_length : (at : ℕ) (instrs : List Instr) → length (placed at instrs) ≡ length instrs
unfolding placed
placed_length at [] = refl
placed_length at (i ∷ instrs) = ap suc (placed_length (at + 1) instrs)

zero_add : (n : ℕ) → 0 + n ≡ n
zero_add n = omega arith

code_bounded : (text : List ℕ) (c : PlainCode) → AreBytes text → AreFew text → code.Spells text c → IsCode c
unfolding code
code_bounded text c fits short s =
    let b = s.second in
    let all = back_bytes s.front s.back (subst AreBytes s.cut fits) in
    let raw = raw_body (false ∷ []) 0 b.front b.value.0 b.value.1 (front_bytes b.front b.back (subst AreBytes b.cut all)) b.first in
    let targets = length b.value.1 in
    let len = placed_length 0 b.value.0 in
    let front : length b.front ≤ length text = omega (arith, ap length s.cut, length-append s.front s.back, ap length b.cut, length-append b.front b.back) in
    let each = placed_fits targets (length b.value.0) 0 b.value.0 (omega arith) (subst (λ (n : ℕ). All (Fits n) b.value.0) (zero_add targets) raw.fits) in
    subst IsCode (sym b.second.1) (record {
      locals = locals_few s.front s.value s.first;
      targets = record { few = omega (arith, raw.short, front, short); each = raw.indices };
      body = record { few = omega (arith, raw.count, front, short, len); each = subst (λ (n : ℕ). All (IsInstr targets n) (placed 0 b.value.0)) (sym len) each };
    })

-- ---- the module

gives_module : Gives IsBounded module_part
unfolding module_part
gives_module =
    gives_bind (any {p = exactly header Magic}) (λ _ _. gives_bind (any {p = customs}) (λ _ _.
    gives_bind (gives_section 1 gives_func_type) (λ types q1.
    gives_bind (gives_section 2 gives_import) (λ imports q2.
    gives_bind (gives_section 3 few_number) (λ funcs q3.
    gives_bind (gives_section 4 gives_table) (λ tables q4.
    gives_bind (gives_section 5 gives_limits) (λ memories q5.
    gives_bind (gives_section 6 gives_global) (λ globals q6.
    gives_bind (gives_section 7 gives_export) (λ exports q7.
    gives_bind (gives_section 9 gives_elem) (λ elems q9.
    gives_bind (gives_section 10 (gives_sized code code_bounded)) (λ codes q10.
    gives_bind (gives_section 11 gives_seg) (λ segs q11.
    gives_bind (any {p = input_end (length funcs) (length codes)}) (λ _ _.
    gives_done _ (record {
      types = few_of types q1;
      imports = few_of imports q2;
      funcs = few_of funcs q3;
      tables = few_of tables q4;
      memories = few_of memories q5;
      globals = few_of globals q6;
      exports = few_of exports q7;
      elems = few_of elems q9;
      codes = few_of codes q10;
      segs = few_of segs q11;
    }))))))))))))))

pub spelled_are_bounded : SpelledAreBounded
spelled_are_bounded m s = gives_module.each s.0 m s.1.0 s.1.1
