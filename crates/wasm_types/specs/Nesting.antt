-- The instructions of a body, nested into one another (core 1.0, sections 2.4.5 and 5.4.1). Each part of a block ends with the place of
-- the `end` or `else` that closes it; an instruction at which a fault may stand has its place too.
use Rattle.std.specs.Prelude.{◌≡◌, ℕ, ◌+◌, Bool, true, List, [], ◌∷◌, Option, ⊤}
use Rattle.wasm_types.specs.declared.value.ValType.{ValType}
use Rattle.wasm_types.specs.declared.instr.Instr.{Instr}
use Rattle.wasm_types.specs.declared.instr.Instr.TheVariants.{Block, Loop, If, Else, End}
use Rattle.wasm_types.specs.Body.{blocks_after}

pub data Nested : Type 0 where
  stop : ℕ → Nested
  -- an instruction that holds no others, and those after it
  plain : ℕ → Instr → Nested → Nested
  -- the instructions that a block holds, and those after it
  block : Option ValType → Nested → Nested → Nested
  loop : Option ValType → Nested → Nested → Nested
  -- the two parts, and the instructions after them
  if_ : ℕ → Option ValType → Nested → Nested → Nested → Nested

abbrev pub before : (Nested → Nested) → List (Nested × Nested) → List (Nested × Nested)
before f [] = []
before f (p ∷ parts) = (f p.0, p.1) ∷ parts

abbrev pub around : (Nested → Nested → Nested → Nested) → List (Nested × Nested) → List (Nested × Nested)
around f [] = []
around f (p ∷ parts) = before (f p.0 p.1) parts

abbrev pub other_part : ℕ → List (Nested × Nested) → List (Nested × Nested)
other_part at [] = []
other_part at (p ∷ parts) = (stop at, p.0) ∷ parts

abbrev pub with_instr : ℕ → Instr → List (Nested × Nested) → List (Nested × Nested)
with_instr at (Block t end) later = around (λ held other rest. block t held rest) later
with_instr at (Loop t end) later = around (λ held other rest. loop t held rest) later
with_instr at (If t els end) later = around (if_ at t) later
with_instr at (Else end) later = other_part at later
with_instr at End later = (stop at, stop at) ∷ later
with_instr at i later = before (plain at i) later

-- Of each block that is open before these instructions, the innermost first: what comes of its present part, and the part that
-- an `else` begins. Where none comes, that part is empty. The first instruction has the place `at`.
unfoldable pub parts : ℕ → List Instr → List (Nested × Nested)
parts at [] = []
parts at (i ∷ instrs) = with_instr at i (parts (at + 1) instrs)

abbrev pub first_part : List (Nested × Nested) → Nested
first_part [] = stop 0
first_part (p ∷ parts) = p.0

-- a body's instructions, nested; it is a block itself
abbrev pub nested_body : List Instr → Nested
nested_body body = first_part (parts 0 body)

-- ---- which instructions can be nested

abbrev pub MayStand : Bool → Instr → Type 0
MayStand may_else (Else end) = may_else ≡ true
MayStand may_else i = ⊤

-- the instructions close just these blocks; of each, the innermost first, it is told whether an `else` may come
abbrev pub Nests : List Bool → List Instr → Type 0
Nests [] instrs = instrs ≡ []
Nests (o ∷ blocks) [] = ⊥
Nests (o ∷ blocks) (i ∷ instrs) = MayStand o i × Nests (blocks_after i (o ∷ blocks)) instrs
