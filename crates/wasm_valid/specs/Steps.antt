-- Not for readers of contracts: it serves the proofs of this crate alone.
-- What one step over an instruction says of the first fault of what comes.
use Rattle.std.specs.Prelude.{◌≡◌, Option, ℕ, ◌+◌, Bool, true, false, List, [], ◌∷◌, Some, None, Result, Ok, Err, ⊤}
use Rattle.wasm_types.specs.declared.kind.ValidKind.{ValidKind}
use Rattle.wasm_types.specs.declared.instr.Instr.{Instr}
use Rattle.wasm_types.specs.Body.{blocks_after}
use Rattle.wasm_types.specs.Nesting.{parts, Nests}
use Rattle.wasm_types.specs.Typing.{Context, Operands, after_instr}
use Rattle.wasm_valid.specs.declared.stop.TypingStop.{TypingStop}
use Rattle.wasm_valid.specs.declared.stop.TypingStop.TheVariants as stops
use Rattle.wasm_valid.specs.declared.body.BodyStop.{BodyStop}
use Rattle.wasm_valid.specs.declared.body.BodyStop.TheVariants as body_stops
use Rattle.wasm_valid.specs.Frames.{Frame, labels, may_elses, with_operands, goes_on}

-- what an instruction that holds no others does in the innermost block
abbrev pub TurnsTo : Result (Unit {0}) TypingStop → Context → Instr → Frame → List Frame → List Frame → Type 0
TurnsTo (Ok done) c i f fs new = (left : Operands) × (after_instr c (labels (f ∷ fs)) i f.operands ≡ Ok left) × (new ≡ with_operands left f ∷ fs)
TurnsTo (Err (stops.Wrong kind)) c i f fs new = after_instr c (labels (f ∷ fs)) i f.operands ≡ Err kind
TurnsTo (Err stops.NoMemory) c i f fs new = ⊤

abbrev pub Turns : Context → Instr → Result (Unit {0}) TypingStop → List Frame → List Frame → Type 0
Turns c i result [] new = ⊤
Turns c i result (f ∷ fs) new = TurnsTo result c i f fs new

-- Behind the instruction, whatever comes, the first fault is that of the blocks that are open then; or none, where the last
-- has ended; or it stands at the instruction.
abbrev pub Advances : Context → Instr → Result Bool TypingStop → List Frame → List Frame → Type 0
Advances c i (Ok true) old new =
    (blocks_after i (may_elses old) ≡ may_elses new)
    × ((at : ℕ) (rest : List Instr) → Nests (may_elses old) (i ∷ rest) → goes_on c old (parts at (i ∷ rest)) ≡ goes_on c new (parts (at + 1) rest))
Advances c i (Ok false) old new = (at : ℕ) (rest : List Instr) → Nests (may_elses old) (i ∷ rest) → goes_on c old (parts at (i ∷ rest)) ≡ None
Advances c i (Err (stops.Wrong kind)) old new = (at : ℕ) (rest : List Instr) → Nests (may_elses old) (i ∷ rest) → goes_on c old (parts at (i ∷ rest)) ≡ Some (at, kind)
Advances c i (Err stops.NoMemory) old new = ⊤

abbrev pub stop_at : ℕ → TypingStop → BodyStop
stop_at at (stops.Wrong kind) = body_stops.Untyped at kind
stop_at at stops.NoMemory = body_stops.NoMemory

-- what a call that looks for a body's first fault says of it
abbrev pub Finds : Result (Unit {0}) BodyStop → Option (ℕ × ValidKind) → Type 0
Finds (Ok done) fault = fault ≡ None
Finds (Err (body_stops.Untyped instr kind)) fault = fault ≡ Some (instr, kind)
Finds (Err body_stops.NoMemory) fault = ⊤
