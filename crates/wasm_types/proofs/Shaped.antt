-- What a module that bytes spell has besides.
use Rattle.std.proofs.Common.{◌≡◌, ℕ, zero, suc, ◌+◌, ◌-◌, ◌^◌, ◌<◌, ◌≤◌, Bool, true, false, cond, ltb, List, [], ◌∷◌, ◌++◌, length, Option, Some, None, Result, Ok, Err, refl, sym, ap, subst, arith, inl, inr}
use Rattle.std.specs.Prelude.{All}
use Rattle.std.proofs.lemmas.Bool.{ltb-true}
use Rattle.std.proofs.lemmas.List.{length-append}
use Rattle.std.proofs.lemmas.List.Elements.{All-nil, All-cons, All-head, All-tail}
use Rattle.wasm_types.specs.declared.kind.ReadKind.{ReadKind}
use Rattle.wasm_types.specs.declared.kind.ReadKind.TheVariants.{Magic, Section}
use Rattle.wasm_types.specs.declared.opcode.Shape.{Shape}
use Rattle.wasm_types.specs.declared.opcode.Shape.TheVariants as shapes
use Rattle.wasm_types.specs.declared.instr.Instr.{Instr}
use Rattle.wasm_types.specs.declared.instr.Instr.TheVariants.{Op, Index, CallIndirect, BrTable, Mem, Const, Block, Loop, If, Else, End}
use Rattle.wasm_types.specs.Plain.{PlainCode}
use Rattle.wasm_types.specs.Number.{IsNumber}
use Rattle.wasm_types.specs.Part.{Part, done, ◌>>=◌, byte, marker, index, exactly, times, vector, sized, IsRepeated}
use Rattle.wasm_types.specs.Opcodes.{shape}
use Rattle.wasm_types.specs.Types.{func_type, import_, table, limits, global, export_, elem, seg}
use Rattle.wasm_types.specs.Body.{nested, opcode, br_table, memory_access, call_indirect, operands, instr, blocks_after, IsBody, closings, innermost, closed, placed, code}
use Rattle.wasm_types.specs.Nesting.{MayStand, Nests}
use Rattle.wasm_types.specs.ModuleText.{header, customs, section, numbered, input_end, AreBytes, module_part}
use Rattle.wasm_types.specs.Laws.{AreFew, IsShaped, SpelledAreShaped}
use Rattle.wasm_types.proofs.Numbers.{more_bits}
use Rattle.wasm_types.proofs.BodyLaws.{instr_some}

-- ---- each value that bytes spell has the property

pub record Gives {A : Type 0} (Q : A → Type 0) (p : Part A) : Type 0 where
  pub each : (text : List ℕ) (a : A) → AreBytes text → p.Spells text a → Q a

abbrev pub IsByte : ℕ → Type 0
IsByte b = b < 256

pub front_bytes : (front back : List ℕ) → AreBytes (front ++ back) → AreBytes front
front_bytes [] back fits = All-nil IsByte
front_bytes (b ∷ front) back fits = All-cons IsByte b front (All-head IsByte b (front ++ back) fits) (front_bytes front back (All-tail IsByte b (front ++ back) fits))

pub back_bytes : (front back : List ℕ) → AreBytes (front ++ back) → AreBytes back
back_bytes [] back fits = fits
back_bytes (b ∷ front) back fits = back_bytes front back (All-tail IsByte b (front ++ back) fits)

pub gives_bind : {A B : Type 0} {Q : A → Type 0} {R : B → Type 0} {p : Part A} {q : A → Part B} → Gives Q p → ((a : A) → Q a → Gives R (q a)) → Gives R (p >>= q)
gives_bind one two = record {
  each = λ text b fits s.
      let all = subst AreBytes s.cut fits in
      (two s.value (one.each s.front s.value (front_bytes s.front s.back all) s.first)).each s.back b (back_bytes s.front s.back all) s.second;
}

pub gives_done : {A : Type 0} {Q : A → Type 0} (a : A) → Q a → Gives Q (done a)
gives_done {A} {Q} a q = record { each = λ text b fits s. subst Q (sym s.1) q }

abbrev pub Nothing : {A : Type 0} → A → Type 0
Nothing a = Unit {0}

pub any : {A : Type 0} {p : Part A} → Gives Nothing p
any = record { each = λ text a fits s. tt }

number_below : (bits : ℕ) (text : List ℕ) (n : ℕ) → AreBytes text → IsNumber false bits text n → n < 2 ^ bits
number_below bits [] n fits s = absurd s
number_below bits (b ∷ []) n fits s = go (ltb b (2 ^ bits)) refl s.1
  where
    go : (t : Bool) → ltb b (2 ^ bits) ≡ t → cond t (Some b) None ≡ Some n → n < 2 ^ bits
    go true h e = let same : b ≡ n = cc in omega (arith, ltb-true b (2 ^ bits) h, same)
    go false h e = absurd cc
number_below bits (b ∷ c ∷ text) n fits s =
    let high = number_below (bits - 7) (c ∷ text) s.2 (All-tail IsByte b (c ∷ text) fits) s.4 in
    let below = more_bits bits s.2 b s.1 high (All-head IsByte b (c ∷ text) fits) s.0 in
    omega (arith, below, s.3, s.0)

abbrev pub IsWord : ℕ → Type 0
IsWord n = n < 2 ^ 32

pub few_number : Gives IsWord index
few_number = record { each = λ text n fits s. number_below 32 text n fits s }

abbrev SoMany : {A : Type 0} → (A → Type 0) → ℕ → List A → Type 0
SoMany Q n items = (length items ≡ n) × All Q items

gives_times : {A : Type 0} {Q : A → Type 0} {p : Part A} → Gives Q p → (n : ℕ) → Gives (SoMany Q n) (times n p)
gives_times {A} {Q} {p} one n = record { each = λ text items fits s. go n text items fits s }
  where
    go : (n : ℕ) (text : List ℕ) (items : List A) → AreBytes text → IsRepeated p.Spells n text items → SoMany Q n items
    go zero text items fits s = subst (SoMany Q 0) (sym s.1) (refl, All-nil Q)
    go (suc n) text items fits s =
        let all = subst AreBytes s.cut fits in
        let t = s.second in
        let back = subst AreBytes t.cut (back_bytes s.front s.back all) in
        let q = one.each s.front s.value (front_bytes s.front s.back all) s.first in
        let rest = go n t.front t.value (front_bytes t.front t.back back) t.first in
        subst (SoMany Q (suc n)) (sym t.second.1) (ap suc rest.0, All-cons Q s.value t.value q rest.1)

abbrev pub Few : {A : Type 0} → (A → Type 0) → List A → Type 0
Few Q items = AreFew items × All Q items

few_items : {A : Type 0} (items : List A) (n : ℕ) → n < 2 ^ 32 → length items ≡ n → AreFew items
few_items items n lt e = omega (arith, lt, e)

pub gives_vector : {A : Type 0} {Q : A → Type 0} {p : Part A} → Gives Q p → Gives (Few Q) (vector p)
gives_vector {A} {Q} {p} one = gives_bind few_number (λ n lt. record {
  each = λ text items fits s.
      let all = (gives_times one n).each text items fits s in
      (few_items items n lt all.0, all.1);
})

-- a part behind its length, which is that of a text of fewer than 2^32 bytes
pub gives_sized : {A : Type 0} {Q : A → Type 0} (p : Part A) → ((text : List ℕ) (a : A) → AreBytes text → AreFew text → p.Spells text a → Q a) → Gives Q (sized p)
gives_sized {A} {Q} p one = record {
  each = λ text a fits s.
      let all = subst AreBytes s.cut fits in
      let n = few_number.each s.front s.value (front_bytes s.front s.back all) s.first in
      one s.back a (back_bytes s.front s.back all) (few_items s.back s.value n s.second.0) s.second.1;
}

gives_numbered : {A : Type 0} {Q : A → Type 0} {p : Part A} (k : ℕ) → Gives Q p → Gives (Few Q) (numbered k (vector p))
gives_numbered {A} {Q} {p} k one =
    gives_bind (any {p = byte (marker k Section)}) (λ _ _. gives_bind (gives_sized (vector p) (λ text items fits short s. (gives_vector one).each text items fits s)) (λ items q. gives_bind (any {p = customs}) (λ _ _. gives_done items q)))

pub gives_section : {A : Type 0} {Q : A → Type 0} {p : Part A} (k : ℕ) → Gives Q p → Gives (Few Q) (section k (vector p))
gives_section {A} {Q} {p} k one = record { each = go }
  where
    go : (text : List ℕ) (items : List A) → AreBytes text → (section k (vector p)).Spells text items → Few Q items
    go text items fits (inl s) = subst (Few Q) (sym s.1) (omega arith, All-nil Q)
    go text items fits (inr s) = (gives_numbered k one).each text items fits s

-- ---- bodies

stands_after_if : (i : Instr) → MayStand true i
stands_after_if (Op op) = tt
stands_after_if (Index op i) = tt
stands_after_if (CallIndirect ty) = tt
stands_after_if (BrTable first count default) = tt
stands_after_if (Mem op align offset) = tt
stands_after_if (Const value) = tt
stands_after_if (Block t end) = tt
stands_after_if (Loop t end) = tt
stands_after_if (If t els end) = tt
stands_after_if (Else end) = refl
stands_after_if End = tt

abbrev pub read_shape : ℕ × Shape → Result (ℕ × Shape) ReadKind
read_shape o = Ok o

no_else : (b : ℕ) (shaped : Result Shape ReadKind) (o : ℕ × Shape) → nested false b shaped ≡ read_shape o → o.1 ≡ shapes.Else → ⊥
no_else b (Err why) o e f = absurd cc
no_else b (Ok shapes.Plain) o e f = absurd cc
no_else b (Ok shapes.Reserved) o e f = absurd cc
no_else b (Ok shapes.Index) o e f = absurd cc
no_else b (Ok shapes.CallIndirect) o e f = absurd cc
no_else b (Ok shapes.BrTable) o e f = absurd cc
no_else b (Ok shapes.Memory) o e f = absurd cc
no_else b (Ok shapes.I32Const) o e f = absurd cc
no_else b (Ok shapes.I64Const) o e f = absurd cc
no_else b (Ok shapes.Block) o e f = absurd cc
no_else b (Ok shapes.Loop) o e f = absurd cc
no_else b (Ok shapes.If) o e f = absurd cc
no_else b (Ok shapes.Else) o e f = absurd cc
no_else b (Ok shapes.End) o e f = absurd cc

abbrev Stands : Instr × List ℕ → Type 0
Stands x = MayStand false x.0

-- an instruction of another shape is no `else`
stands : (first op : ℕ) (shaped : Shape) (text : List ℕ) (x : Instr × List ℕ) → (shaped ≡ shapes.Else → ⊥) → (operands first op shaped).Spells text x → Stands x
unfolding call_indirect br_table memory_access
stands first op shapes.Plain text x other s = subst Stands (sym s.1) tt
stands first op shapes.Reserved text x other s = subst Stands (sym s.second.1) tt
stands first op shapes.Index text x other s = subst Stands (sym s.second.1) tt
stands first op shapes.CallIndirect text x other s = subst Stands (sym s.second.second.1) tt
stands first op shapes.BrTable text x other s = subst Stands (sym s.second.second.1) tt
stands first op shapes.Memory text x other s = subst Stands (sym s.second.second.1) tt
stands first op shapes.I32Const text x other s = subst Stands (sym s.second.1) tt
stands first op shapes.I64Const text x other s = subst Stands (sym s.second.1) tt
stands first op shapes.Block text x other s = subst Stands (sym s.second.1) tt
stands first op shapes.Loop text x other s = subst Stands (sym s.second.1) tt
stands first op shapes.If text x other s = subst Stands (sym s.second.1) tt
stands first op shapes.Else text x other s = absurd (other refl)
stands first op shapes.End text x other s = subst Stands (sym s.1) tt

may_stand : (may_else : Bool) (first b : ℕ) (o : ℕ × Shape) (text : List ℕ) (x : Instr × List ℕ) → nested may_else b (shape b) ≡ read_shape o → (operands first o.0 o.1).Spells text x → MayStand may_else x.0
may_stand true first b o text x e s = stands_after_if x.0
may_stand false first b o text x e s = stands first o.0 o.1 text x (no_else b (shape b) o e) s

instr_stands : (first : ℕ) (may_else : Bool) (text : List ℕ) (x : Instr × List ℕ) → (instr first may_else).Spells text x → MayStand may_else x.0
unfolding instr opcode
instr_stands first may_else text x s = may_stand may_else first s.first.0 s.value s.back x s.first.2 s.second

body_nests : (blocks : List Bool) (first : ℕ) (text : List ℕ) (instrs : List Instr) (labels : List ℕ) → IsBody blocks first text instrs labels → Nests blocks instrs × (length instrs ≤ length text)
body_nests [] first text instrs labels s = (s.1, rw s.1 (omega arith))
body_nests (o ∷ blocks) first text [] labels s = absurd s
body_nests (o ∷ blocks) first text (i ∷ instrs) labels s =
    let j = s.3 in
    let later = body_nests (blocks_after i (o ∷ blocks)) (first + length s.0) j.back instrs s.1 j.second.1 in
    let stands = instr_stands first o j.front j.value j.first in
    let here : MayStand o i = subst (λ (v : Instr × List ℕ). MayStand o v.0) j.second.0 stands in
    ((here, later.0), omega (arith, later.1, ap length j.cut, length-append j.front j.back, instr_some first o j.front j.value j.first))

closed_stands : (o : Bool) (i : Instr) (c : Option ℕ × ℕ) → MayStand o i → MayStand o (closed i c)
closed_stands o (Op op) c s = s
closed_stands o (Index op i) c s = s
closed_stands o (CallIndirect ty) c s = s
closed_stands o (BrTable first count default) c s = s
closed_stands o (Mem op align offset) c s = s
closed_stands o (Const value) c s = s
closed_stands o (Block t end) c s = s
closed_stands o (Loop t end) c s = s
closed_stands o (If t els end) c s = s
closed_stands o (Else end) c s = s
closed_stands o End c s = s

closed_blocks : (i : Instr) (c : Option ℕ × ℕ) (blocks : List Bool) → blocks_after (closed i c) blocks ≡ blocks_after i blocks
closed_blocks (Op op) c blocks = refl
closed_blocks (Index op i) c blocks = refl
closed_blocks (CallIndirect ty) c blocks = refl
closed_blocks (BrTable first count default) c blocks = refl
closed_blocks (Mem op align offset) c blocks = refl
closed_blocks (Const value) c blocks = refl
closed_blocks (Block t end) c blocks = refl
closed_blocks (Loop t end) c blocks = refl
closed_blocks (If t els end) c blocks = refl
closed_blocks (Else end) c [] = refl
closed_blocks (Else end) c (o ∷ blocks) = refl
closed_blocks End c blocks = refl

placed_nests : (blocks : List Bool) (at : ℕ) (instrs : List Instr) → Nests blocks instrs → Nests blocks (placed at instrs) × (length (placed at instrs) ≡ length instrs)
unfolding placed
placed_nests [] at [] s = (refl, refl)
placed_nests [] at (i ∷ instrs) s = absurd cc
placed_nests (o ∷ blocks) at [] s = absurd s
placed_nests (o ∷ blocks) at (i ∷ instrs) s =
    let c = innermost (closings (at + 1) instrs) in
    let later = placed_nests (blocks_after i (o ∷ blocks)) (at + 1) instrs s.1 in
    ((closed_stands o i c s.0, rw (closed_blocks i c (o ∷ blocks)) later.0), ap suc later.1)

abbrev IsNested : PlainCode → Type 0
IsNested c = AreFew c.body × Nests (false ∷ []) c.body

code_nests : (text : List ℕ) (c : PlainCode) → AreBytes text → AreFew text → code.Spells text c → IsNested c
unfolding code
code_nests text c fits short s =
    let b = s.second in
    let raw = body_nests (false ∷ []) 0 b.front b.value.0 b.value.1 b.first in
    let whole = placed_nests (false ∷ []) 0 b.value.0 raw.0 in
    subst IsNested (sym b.second.1) (omega (arith, short, whole.1, raw.1, ap length s.cut, length-append s.front s.back, ap length b.cut, length-append b.front b.back), whole.0)

gives_code : Gives IsNested (sized code)
gives_code = gives_sized code code_nests

-- ---- the module

ends_alike : (funcs codes : ℕ) → Gives (λ _. funcs ≡ codes) (input_end funcs codes)
ends_alike funcs codes = record { each = λ text a fits s. s.1 }

gives_module : Gives IsShaped module_part
unfolding module_part
gives_module =
    gives_bind (any {p = exactly header Magic}) (λ _ _. gives_bind (any {p = customs}) (λ _ _.
    gives_bind (gives_section 1 (any {p = func_type})) (λ types q1.
    gives_bind (gives_section 2 (any {p = import_})) (λ imports q2.
    gives_bind (gives_section 3 (any {p = index})) (λ funcs q3.
    gives_bind (gives_section 4 (any {p = table})) (λ tables q4.
    gives_bind (gives_section 5 (any {p = limits})) (λ memories q5.
    gives_bind (gives_section 6 (any {p = global})) (λ globals q6.
    gives_bind (gives_section 7 (any {p = export_})) (λ exports q7.
    gives_bind (gives_section 9 (any {p = elem})) (λ elems q9.
    gives_bind (gives_section 10 gives_code) (λ codes q10.
    gives_bind (gives_section 11 (any {p = seg})) (λ segs q11.
    gives_bind (ends_alike (length funcs) (length codes)) (λ _ as_many.
    gives_done _ (record {
      as_many = as_many;
      types = q1.0;
      imports = q2.0;
      funcs = q3.0;
      tables = q4.0;
      memories = q5.0;
      globals = q6.0;
      exports = q7.0;
      elems = q9.0;
      codes = q10.0;
      segs = q11.0;
      bodies = q10.1;
    }))))))))))))))

pub spelled_are_shaped : SpelledAreShaped
spelled_are_shaped m s = gives_module.each s.0 m s.1.0 s.1.1
