-- Not for readers of contracts: it serves the proofs of this crate alone.
-- The blocks that are open, the innermost first, and the first fault of what still comes in them.
use Rattle.std.specs.Prelude.{◌≡◌, ℕ, Bool, true, false, List, [], ◌∷◌, map, reverse, Option, None, Result, Ok, Err}
use Rattle.wasm_types.specs.declared.value.ValType.{ValType}
use Rattle.wasm_types.specs.declared.kind.ValidKind.{ValidKind}
use Rattle.wasm_types.specs.Nesting.{Nested}
use Rattle.wasm_types.specs.Typing as typing
use Rattle.wasm_types.specs.Typing.{◌>>=◌, Context, no_operands, given, ended, or_else, fault_in}
use Rattle.wasm_valid.specs.declared.blocks.OpenBlock.{OpenBlock}
use Rattle.wasm_valid.specs.declared.blocks.Blocks.{Blocks}
use Rattle.wasm_valid.specs.Stacks.{stack}

pub record Frame : Type 0 where
  pub may_else : Bool
  pub result : Option ValType
  pub label : Option ValType
  pub operands : typing.Operands

abbrev pub frame : OpenBlock → Frame
frame b = record { may_else = b.may_else; result = b.result; label = b.label; operands = stack b.operands }

abbrev pub outer_frames : Blocks → List Frame
outer_frames blocks = map frame (reverse blocks.outer.items)

abbrev pub frames : Blocks → List Frame
frames blocks = frame blocks.inner ∷ outer_frames blocks

abbrev pub labels : List Frame → List (Option ValType)
labels fs = map (λ (f : Frame). f.label) fs

abbrev pub may_elses : List Frame → List Bool
may_elses fs = map (λ (f : Frame). f.may_else) fs

-- the frame of the other part of an `if`, whose first part has ended
abbrev pub other_part : Frame → Frame
other_part f = record { may_else = false; result = f.result; label = f.label; operands = no_operands }

-- the end of the other part, which is empty where no `else` came
abbrev pub other_ended : Bool → Option ValType → Result (Unit {0}) ValidKind
other_ended true result = ended result no_operands
other_ended false result = Ok tt

abbrev pub ended_frame : Frame → Result (Unit {0}) ValidKind
ended_frame f = do
  _ ← ended f.result f.operands
  other_ended f.may_else f.result

-- a block that is opened gives its result to the one around it
abbrev pub with_operands : typing.Operands → Frame → Frame
with_operands operands f = record { may_else = f.may_else; result = f.result; label = f.label; operands = operands }

abbrev pub opened : Bool → Option ValType → Option ValType → List Frame → List Frame
opened may_else ty label [] = []
opened may_else ty label (f ∷ fs) =
    record { may_else = may_else; result = ty; label = label; operands = no_operands } ∷ with_operands (given ty f.operands) f ∷ fs

-- the innermost block has ended, and whether there is one around it
abbrev pub Closes : Result Bool ValidKind → List Frame → List Frame → Type 0
Closes (Ok true) old new = (f : Frame) × (old ≡ f ∷ new) × (ended_frame f ≡ Ok tt)
Closes (Ok false) old new = (f : Frame) × (old ≡ f ∷ []) × (ended_frame f ≡ Ok tt)
Closes (Err kind) old new = (f : Frame) × (fs : List Frame) × (old ≡ f ∷ fs) × (ended_frame f ≡ Err kind)

-- the other part of an `if`, of which the first is open
abbrev pub other_fault : Bool → Context → Option ValType → List (Option ValType) → Nested → Option (ℕ × ValidKind)
other_fault true c result ls other = fault_in c result ls other no_operands
other_fault false c result ls other = None

-- The parts are those that still come in the blocks, as nested instructions.
unfoldable pub goes_on : Context → List Frame → List (Nested × Nested) → Option (ℕ × ValidKind)
goes_on c [] parts = None
goes_on c (f ∷ fs) [] = None
goes_on c (f ∷ fs) (p ∷ parts) =
    or_else (fault_in c f.result (labels (f ∷ fs)) p.0 f.operands)
    (or_else (other_fault f.may_else c f.result (labels (f ∷ fs)) p.1) (goes_on c fs parts))
