-- Not for readers of contracts: it serves the proofs of this crate alone.
-- What calls say of the bodies of a module.
use Rattle.std.specs.Prelude.{ℕ, false, [], ◌∷◌, slice_get, Option, Some}
use Rattle.wasm_types.specs.declared.kind.ValidKind.{ValidKind}
use Rattle.wasm_types.specs.Plain.{PlainCode, PlainModule}
use Rattle.wasm_types.specs.Nesting.{Nests}
use Rattle.wasm_types.specs.Laws.{AreFew}
use Rattle.wasm_types.specs.Validity.{typed_body_fault}
use Rattle.wasm_valid.specs.declared.body.BodyStop.{BodyStop}
use Rattle.wasm_valid.specs.declared.body.BodyStop.TheVariants as body_stops
use Rattle.wasm_valid.specs.declared.stop.ValidStop.{ValidStop}
use Rattle.wasm_valid.specs.declared.stop.ValidStop.TheVariants as stops

-- the body closes just the blocks that it opens
abbrev pub IsNested : PlainCode → Type 0
IsNested code = AreFew code.body × Nests (false ∷ []) code.body

abbrev pub func_stop : ℕ → BodyStop → ValidStop
func_stop func (body_stops.Untyped instr kind) = stops.Invalid (Some func) instr kind
func_stop func body_stops.NoMemory = stops.NoMemory

-- the first fault of a body whose function has the type at this place
abbrev pub typed_fault : PlainModule → ℕ → PlainCode → Option (ℕ × ValidKind)
typed_fault m ty code = typed_body_fault m code (slice_get m.types ty)
