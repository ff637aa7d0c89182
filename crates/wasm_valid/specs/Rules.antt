-- Not for readers of contracts: it serves the proofs of this crate alone.
-- The types of instructions as the code keeps them, and what its calls say by them.
use Rattle.std.specs.Prelude.{◌≡◌, ℕ, true, false, Bool, nat_lt, List, [], ◌++◌, reverse, length, slice_get, option_to_list, Option, Some, None, Result, Ok, Err, ⊤}
use Rattle.std.specs.Borrow.{Bor}
use Rattle.wasm_types.specs.declared.value.ValType.{ValType}
use Rattle.wasm_types.specs.declared.kind.ValidKind.{ValidKind}
use Rattle.wasm_types.specs.declared.kind.ValidKind.TheVariants.{TypeIndex, Label, Mismatch}
use Rattle.wasm_types.specs.declared.func_type.FuncType.{FuncType}
use Rattle.wasm_types.specs.Typing as typing
use Rattle.wasm_types.specs.Plain.{PlainFuncType}
use Rattle.wasm_types.specs.Typing.{◌>>=◌, found, turns, jumps, drops, selects, fits_both, known, called, is_of}
use Rattle.wasm_valid.specs.declared.stop.TypingStop.{TypingStop}
use Rattle.wasm_valid.specs.declared.stop.TypingStop.TheVariants as stops
use Rattle.wasm_valid.specs.declared.rule.Takes.{Takes}
use Rattle.wasm_valid.specs.declared.rule.Rule.{Rule}
use Rattle.wasm_valid.specs.declared.rule.Rule.TheVariants as rules

abbrev pub params_of : Option (Bor FuncType) → List ValType
params_of None = []
params_of (Some callee) = reverse callee.now.params.items

abbrev pub takes : Takes → List ValType
takes t = option_to_list t.top ++ (option_to_list t.below ++ params_of t.callee)

abbrev pub plain_rule : Rule → typing.Rule
plain_rule (rules.Turns t gives) = turns (takes t) gives
plain_rule (rules.Jumps t) = jumps (takes t)
plain_rule rules.Drops = drops
plain_rule rules.Selects = selects

-- what a call that may lack memory leaves of operands
abbrev pub Turned : Result (Unit {0}) TypingStop → typing.Operands → Result typing.Operands ValidKind → Type 0
Turned (Ok done) left wanted = wanted ≡ Ok left
Turned (Err (stops.Wrong kind)) left wanted = wanted ≡ Err kind
Turned (Err stops.NoMemory) left wanted = ⊤

abbrev pub Chosen : Result (Option ValType) ValidKind → Option ValType → Option ValType → Type 0
Chosen (Ok t) second first = (fits_both second first ≡ true) × (t ≡ known second first)
Chosen (Err kind) second first = (fits_both second first ≡ false) × (kind ≡ Mismatch)

-- what a call says of an instruction's type
abbrev pub shown : Result Rule ValidKind → Result typing.Rule ValidKind
shown (Ok r) = Ok (plain_rule r)
shown (Err kind) = Err kind

-- a call of a function with the type at this place, which takes one operand more before where one is given
abbrev pub call_of : List PlainFuncType → ℕ → Option ValType → Result typing.Rule ValidKind
call_of types ty top = do
  t ← found TypeIndex (slice_get types ty)
  Ok (called (option_to_list top) t)

abbrev pub is_label : List (Option ValType) → ℕ → Bool
is_label labels l = nat_lt l (length labels)

abbrev pub is_label_of : List (Option ValType) → Option ValType → ℕ → Bool
is_label_of labels t l = is_of t (found Label (slice_get labels l))
