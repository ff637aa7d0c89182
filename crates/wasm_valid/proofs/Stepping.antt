-- One step over an instruction, by what the nested instructions say of it.
use Rattle.std.proofs.Common.{◌≡◌, ℕ, suc, ◌+◌, ◌<◌, Bool, true, false, List, [], ◌∷◌, length, Option, Some, None, Result, Ok, Err, refl, ap, ◌∙◌, arith, ◌⊎◌, inl, inr}
use Rattle.wasm_types.specs.declared.value.ValType.{ValType}
use Rattle.wasm_types.specs.declared.value.ValType.TheVariants.{I32}
use Rattle.wasm_types.specs.declared.value.Value.{Value}
use Rattle.wasm_types.specs.declared.kind.ValidKind.{ValidKind}
use Rattle.wasm_types.specs.declared.instr.Instr.{Instr}
use Rattle.wasm_types.specs.declared.instr.Instr.TheVariants.{Op, Index, CallIndirect, BrTable, Mem, Const, Block, Loop, If, Else, End}
use Rattle.wasm_types.specs.Body.{blocks_after}
use Rattle.wasm_types.specs.Nesting.{Nested, stop, plain, block, loop, if_, before, around, other_part, with_instr, parts, first_part, Nests}
use Rattle.wasm_types.specs.Typing.{◌>>=◌, Context, Operands, no_operands, given, taken, ended, after_instr, or_else, or_fault, fault_in, body_fault}
use Rattle.wasm_valid.specs.Frames.{Frame, labels, may_elses, with_operands, other_ended, ended_frame, opened, Closes, other_fault, goes_on}
use Rattle.wasm_valid.specs.Steps.{TurnsTo, Advances}
use Rattle.wasm_valid.specs.declared.stop.TypingStop.{TypingStop}
use Rattle.wasm_valid.specs.declared.stop.TypingStop.TheVariants as stops
use Rattle.wasm_valid.specs.Frames as frames

abbrev Parts : Type 0
Parts = List (Nested × Nested)

abbrev Found : Type 0
Found = Option (ℕ × ValidKind)

or_assoc : (a b c : Found) → or_else (or_else a b) c ≡ or_else a (or_else b c)
or_assoc (Some x) b c = refl
or_assoc None b c = refl

-- ---- as many parts come as blocks are open

before_len : (f : Nested → Nested) (ps : Parts) → length (before f ps) ≡ length ps
before_len f [] = refl
before_len f (p ∷ ps) = refl

around_len : (f : Nested → Nested → Nested → Nested) (ps : Parts) (n : ℕ) → length ps ≡ suc (suc n) → length (around f ps) ≡ suc n
around_len f [] n e = absurd (omega (arith, e))
around_len f (p ∷ []) n e = absurd (omega (arith, e))
around_len f (p ∷ q ∷ ps) n e = omega (arith, e)

other_len : (at : ℕ) (ps : Parts) → length (other_part at ps) ≡ length ps
other_len at [] = refl
other_len at (p ∷ ps) = refl

parts_len : (at : ℕ) (blocks : List Bool) (instrs : List Instr) → Nests blocks instrs → length (parts at instrs) ≡ length blocks
unfolding parts
parts_len at [] [] s = refl
parts_len at [] (i ∷ instrs) s = absurd cc
parts_len at (o ∷ blocks) [] s = absurd s
parts_len at (o ∷ blocks) (Op op ∷ instrs) s = before_len _ (parts (at + 1) instrs) ∙ parts_len (at + 1) (o ∷ blocks) instrs s.1
parts_len at (o ∷ blocks) (Index op i ∷ instrs) s = before_len _ (parts (at + 1) instrs) ∙ parts_len (at + 1) (o ∷ blocks) instrs s.1
parts_len at (o ∷ blocks) (CallIndirect ty ∷ instrs) s = before_len _ (parts (at + 1) instrs) ∙ parts_len (at + 1) (o ∷ blocks) instrs s.1
parts_len at (o ∷ blocks) (BrTable first count default ∷ instrs) s = before_len _ (parts (at + 1) instrs) ∙ parts_len (at + 1) (o ∷ blocks) instrs s.1
parts_len at (o ∷ blocks) (Mem op align offset ∷ instrs) s = before_len _ (parts (at + 1) instrs) ∙ parts_len (at + 1) (o ∷ blocks) instrs s.1
parts_len at (o ∷ blocks) (Const value ∷ instrs) s = before_len _ (parts (at + 1) instrs) ∙ parts_len (at + 1) (o ∷ blocks) instrs s.1
parts_len at (o ∷ blocks) (Block t end ∷ instrs) s = around_len _ (parts (at + 1) instrs) (length blocks) (parts_len (at + 1) (false ∷ o ∷ blocks) instrs s.1)
parts_len at (o ∷ blocks) (Loop t end ∷ instrs) s = around_len _ (parts (at + 1) instrs) (length blocks) (parts_len (at + 1) (false ∷ o ∷ blocks) instrs s.1)
parts_len at (o ∷ blocks) (If t els end ∷ instrs) s = around_len _ (parts (at + 1) instrs) (length blocks) (parts_len (at + 1) (true ∷ o ∷ blocks) instrs s.1)
parts_len at (o ∷ blocks) (Else end ∷ instrs) s = other_len at (parts (at + 1) instrs) ∙ parts_len (at + 1) (false ∷ blocks) instrs s.1
parts_len at (o ∷ blocks) (End ∷ instrs) s = ap suc (parts_len (at + 1) blocks instrs s.1)

-- ---- an instruction that holds no others

abbrev Going : Context → List Frame → Parts → Found
Going c fs ps = goes_on c fs ps

module _ (c : Context) (at : ℕ) (i : Instr) (f : Frame) (fs : List Frame) where
  plain_goes : (left : Operands) (ps : Parts) → 0 < length ps → after_instr c (labels (f ∷ fs)) i f.operands ≡ Ok left → goes_on c (f ∷ fs) (before (plain at i) ps) ≡ goes_on c (with_operands left f ∷ fs) ps
  unfolding goes_on fault_in
  plain_goes left [] some e = absurd (omega (arith, some))
  plain_goes left (p ∷ ps) some e = rw e refl

  plain_fails : (kind : ValidKind) (ps : Parts) → 0 < length ps → after_instr c (labels (f ∷ fs)) i f.operands ≡ Err kind → goes_on c (f ∷ fs) (before (plain at i) ps) ≡ Some (at, kind)
  unfolding goes_on fault_in
  plain_fails kind [] some e = absurd (omega (arith, some))
  plain_fails kind (p ∷ ps) some e = rw e refl

-- ---- blocks

-- what comes in the blocks behind this one
abbrev later : Context → Frame → List Frame → Nested → Parts → Found
later c f fs other ps = or_else (other_fault f.may_else c f.result (labels (f ∷ fs)) other) (goes_on c fs ps)

module _ (c : Context) (at : ℕ) (t : Option ValType) (f : Frame) (fs : List Frame) where
  abbrev held_fault : Option ValType → Nested → Found
  held_fault label held = fault_in c t (label ∷ labels (f ∷ fs)) held no_operands

  abbrev rest_fault : Operands → Nested → Found
  rest_fault operands rest = fault_in c f.result (labels (f ∷ fs)) rest (given t operands)

  block_opens : (ps : Parts) → 1 < length ps → goes_on c (f ∷ fs) (around (λ held other rest. block t held rest) ps) ≡ goes_on c (opened false t t (f ∷ fs)) ps
  unfolding goes_on fault_in
  block_opens [] some = absurd (omega (arith, some))
  block_opens (p ∷ []) some = absurd (omega (arith, some))
  block_opens (p ∷ q ∷ ps) some = or_assoc (held_fault t p.0) (rest_fault f.operands q.0) (later c f fs q.1 ps)

  loop_opens : (ps : Parts) → 1 < length ps → goes_on c (f ∷ fs) (around (λ held other rest. loop t held rest) ps) ≡ goes_on c (opened false t None (f ∷ fs)) ps
  unfolding goes_on fault_in
  loop_opens [] some = absurd (omega (arith, some))
  loop_opens (p ∷ []) some = absurd (omega (arith, some))
  loop_opens (p ∷ q ∷ ps) some = or_assoc (held_fault None p.0) (rest_fault f.operands q.0) (later c f fs q.1 ps)

  if_opens : (left : Operands) (ps : Parts) → 1 < length ps → taken I32 f.operands ≡ Ok left → goes_on c (f ∷ fs) (around (if_ at t) ps) ≡ goes_on c (opened true t t (with_operands left f ∷ fs)) ps
  unfolding goes_on fault_in
  if_opens left [] some e = absurd (omega (arith, some))
  if_opens left (p ∷ []) some e = absurd (omega (arith, some))
  if_opens left (p ∷ q ∷ ps) some e = rw e (or_assoc (held_fault t p.0) (or_else (held_fault t p.1) (rest_fault left q.0)) (later c f fs q.1 ps) ∙ ap (or_else (held_fault t p.0)) (or_assoc (held_fault t p.1) (rest_fault left q.0) (later c f fs q.1 ps)))

  if_fails : (kind : ValidKind) (ps : Parts) → 1 < length ps → taken I32 f.operands ≡ Err kind → goes_on c (f ∷ fs) (around (if_ at t) ps) ≡ Some (at, kind)
  unfolding goes_on fault_in
  if_fails kind [] some e = absurd (omega (arith, some))
  if_fails kind (p ∷ []) some e = absurd (omega (arith, some))
  if_fails kind (p ∷ q ∷ ps) some e = rw e refl

module _ (c : Context) (at : ℕ) (f : Frame) (fs : List Frame) where
  else_begins : (ps : Parts) → 0 < length ps → f.may_else ≡ true → ended f.result f.operands ≡ Ok tt → goes_on c (f ∷ fs) (other_part at ps) ≡ goes_on c (frames.other_part f ∷ fs) ps
  unfolding goes_on fault_in
  else_begins [] some o e = absurd (omega (arith, some))
  else_begins (p ∷ ps) some o e = rw (e, o) refl

  else_fails : (kind : ValidKind) (ps : Parts) → 0 < length ps → ended f.result f.operands ≡ Err kind → goes_on c (f ∷ fs) (other_part at ps) ≡ Some (at, kind)
  unfolding goes_on fault_in
  else_fails kind [] some e = absurd (omega (arith, some))
  else_fails kind (p ∷ ps) some e = rw e refl

abbrev at_end : ℕ → Result (Unit {0}) ValidKind → Found
at_end at r = or_fault at r (λ _. None)

-- where a block ends, so does the other part that never began
end_is : (c : Context) (at : ℕ) (f : Frame) (fs : List Frame) (ps : Parts) → goes_on c (f ∷ fs) ((stop at, stop at) ∷ ps) ≡ or_else (at_end at (ended_frame f)) (goes_on c fs ps)
unfolding goes_on fault_in
end_is c at f fs ps = go f.may_else (ended f.result f.operands)
  where
    go : (o : Bool) (r : Result (Unit {0}) ValidKind) → or_else (or_fault at r (λ _. None)) (or_else (other_fault o c f.result (labels (f ∷ fs)) (stop at)) (goes_on c fs ps)) ≡ or_else (at_end at (r >>= λ _. other_ended o f.result)) (goes_on c fs ps)
    go true (Ok done) = refl
    go false (Ok done) = refl
    go o (Err kind) = refl

-- ---- a step, by what the code did

module _ (c : Context) (i : Instr) (f : Frame) (fs new : List Frame) where
  pub block_advances : (t : Option ValType) (end : ℕ) → i ≡ Block t end → new ≡ opened false t t (f ∷ fs) → Advances c i (Ok true) (f ∷ fs) new
  unfolding parts
  block_advances t end is n = rw (is, n) (refl, λ at rest s. block_opens c at t f fs (parts (at + 1) rest) (omega (arith, parts_len (at + 1) (false ∷ f.may_else ∷ may_elses fs) rest s.1)))

  pub loop_advances : (t : Option ValType) (end : ℕ) → i ≡ Loop t end → new ≡ opened false t None (f ∷ fs) → Advances c i (Ok true) (f ∷ fs) new
  unfolding parts
  loop_advances t end is n = rw (is, n) (refl, λ at rest s. loop_opens c at t f fs (parts (at + 1) rest) (omega (arith, parts_len (at + 1) (false ∷ f.may_else ∷ may_elses fs) rest s.1)))

  pub if_advances : (t : Option ValType) (els : Option ℕ) (end : ℕ) (left : Operands) → i ≡ If t els end → taken I32 f.operands ≡ Ok left → new ≡ opened true t t (with_operands left f ∷ fs) → Advances c i (Ok true) (f ∷ fs) new
  unfolding parts
  if_advances t els end left is e n = rw (is, n) (refl, λ at rest s. if_opens c at t f fs left (parts (at + 1) rest) (omega (arith, parts_len (at + 1) (true ∷ f.may_else ∷ may_elses fs) rest s.1)) e)

  pub if_stops : (t : Option ValType) (els : Option ℕ) (end : ℕ) (kind : ValidKind) → i ≡ If t els end → taken I32 f.operands ≡ Err kind → Advances c i (Err (stops.Wrong kind)) (f ∷ fs) new
  unfolding parts
  if_stops t els end kind is e = rw is (λ at rest s. if_fails c at t f fs kind (parts (at + 1) rest) (omega (arith, parts_len (at + 1) (true ∷ f.may_else ∷ may_elses fs) rest s.1)) e)

  pub else_advances : (end : ℕ) → i ≡ Else end → ended f.result f.operands ≡ Ok tt → new ≡ frames.other_part f ∷ fs → Advances c i (Ok true) (f ∷ fs) new
  unfolding parts
  else_advances end is e n = rw (is, n) (refl, λ at rest s. else_begins c at f fs (parts (at + 1) rest) (omega (arith, parts_len (at + 1) (false ∷ may_elses fs) rest s.1)) s.0 e)

  pub else_stops : (end : ℕ) (kind : ValidKind) → i ≡ Else end → ended f.result f.operands ≡ Err kind → Advances c i (Err (stops.Wrong kind)) (f ∷ fs) new
  unfolding parts
  else_stops end kind is e = rw is (λ at rest s. else_fails c at f fs kind (parts (at + 1) rest) (omega (arith, parts_len (at + 1) (false ∷ may_elses fs) rest s.1)) e)

pub end_advances : (c : Context) (i : Instr) (more : Bool) (old new : List Frame) → i ≡ End → Closes (Ok more) old new → Advances c i (Ok more) old new
unfolding parts goes_on
end_advances c i true old new is s = rw (is, s.1) (refl, λ at rest n. end_is c at s.0 new (parts (at + 1) rest) ∙ rw s.2 refl)
end_advances c i false old new is s = rw (is, s.1) (λ at rest n. end_is c at s.0 [] (parts (at + 1) rest) ∙ rw s.2 refl)

pub end_stops : (c : Context) (i : Instr) (kind : ValidKind) (old new : List Frame) → i ≡ End → Closes (Err kind) old new → Advances c i (Err (stops.Wrong kind)) old new
unfolding parts
end_stops c i kind old new is s = rw (is, s.2) (λ at rest n. end_is c at s.0 s.1 (parts (at + 1) rest) ∙ rw s.3 refl)

-- an instruction that holds no others
abbrev pub IsPlain : Instr → Type 0
IsPlain i = ((at : ℕ) (later : Parts) → with_instr at i later ≡ before (plain at i) later) × ((blocks : List Bool) → blocks_after i blocks ≡ blocks)

pub turn_advances : (c : Context) (i : Instr) (f : Frame) (fs new : List Frame) → IsPlain i → TurnsTo (Ok tt) c i f fs new → Advances c i (Ok true) (f ∷ fs) new
unfolding parts
turn_advances c i f fs new p t = rw t.2 (
  p.1 (f.may_else ∷ may_elses fs),
  λ at rest s.
      let n = rw (p.1 (f.may_else ∷ may_elses fs)) at s.1 in
      rw (p.0 at (parts (at + 1) rest)) (plain_goes c at i f fs t.0 (parts (at + 1) rest) (omega (arith, parts_len (at + 1) (f.may_else ∷ may_elses fs) rest n)) t.1),
)

pub turn_stops : (c : Context) (i : Instr) (f : Frame) (fs new : List Frame) (stop : TypingStop) → IsPlain i → TurnsTo (Err stop) c i f fs new → Advances c i (Err stop) (f ∷ fs) new
unfolding parts
turn_stops c i f fs new stops.NoMemory p e = tt
turn_stops c i f fs new (stops.Wrong kind) p e = λ at rest s.
    let n = rw (p.1 (f.may_else ∷ may_elses fs)) at s.1 in
    rw (p.0 at (parts (at + 1) rest)) (plain_fails c at i f fs kind (parts (at + 1) rest) (omega (arith, parts_len (at + 1) (f.may_else ∷ may_elses fs) rest n)) e)

pub plain_is : (i : Instr)
    → ((op : ℕ) × (i ≡ Op op)) ⊎ (((op : ℕ) × (index : ℕ) × (i ≡ Index op index)) ⊎ (((ty : ℕ) × (i ≡ CallIndirect ty))
    ⊎ (((first : ℕ) × (count : ℕ) × (default : ℕ) × (i ≡ BrTable first count default)) ⊎ (((op : ℕ) × (align : ℕ) × (offset : ℕ) × (i ≡ Mem op align offset)) ⊎ ((value : Value) × (i ≡ Const value))))))
    → IsPlain i
plain_is i (inl e) = rw e.1 (λ at later. refl, λ blocks. refl)
plain_is i (inr (inl e)) = rw e.2 (λ at later. refl, λ blocks. refl)
plain_is i (inr (inr (inl e))) = rw e.1 (λ at later. refl, λ blocks. refl)
plain_is i (inr (inr (inr (inl e)))) = rw e.3 (λ at later. refl, λ blocks. refl)
plain_is i (inr (inr (inr (inr (inl e))))) = rw e.3 (λ at later. refl, λ blocks. refl)
plain_is i (inr (inr (inr (inr (inr e))))) = rw e.1 (λ at later. refl, λ blocks. refl)

-- ---- the begin of a body

abbrev pub body_frame : Context → Frame
body_frame c = record { may_else = false; result = c.result; label = c.result; operands = no_operands }

or_none : (a : Found) → a ≡ or_else a None
or_none (Some x) = refl
or_none None = refl

pub begins : (c : Context) (body : List Instr) → Nests (false ∷ []) body → body_fault c body ≡ goes_on c (body_frame c ∷ []) (parts 0 body)
unfolding goes_on
begins c body s = go (parts 0 body) (omega (arith, parts_len 0 (false ∷ []) body s))
  where
    go : (ps : Parts) → 0 < length ps → fault_in c c.result (c.result ∷ []) (first_part ps) no_operands ≡ goes_on c (body_frame c ∷ []) ps
    go [] some = absurd (omega (arith, some))
    go (p ∷ ps) some = or_none (fault_in c c.result (c.result ∷ []) p.0 no_operands)
