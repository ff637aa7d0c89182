-- Not for readers of contracts: it serves the proofs of this crate alone.
-- What the parts of a step do to piles.
use Rattle.std.specs.Prelude.{◌≡◌, ℕ, ◌-◌, ◌<◌, ◌≤◌, List, [], ◌∷◌, Option, Some, None, Result, Ok, Err, ⊤}
use Rattle.wasm_types.specs.declared.value.ValType.{ValType}
use Rattle.wasm_types.specs.declared.value.Value.{Value}
use Rattle.wasm_types.specs.declared.value.Value.TheVariants.{I32, I64}
use Rattle.wasm_machine.specs.declared.turn.TrapKind.TheVariants.{Unreachable}
use Rattle.wasm_machine.specs.declared.stop.Stop.{Stop}
use Rattle.wasm_machine.specs.declared.stop.Stop.TheVariants as stops
use Rattle.wasm_machine.specs.declared.pile.Pile.{Pile}
use Rattle.wasm_machine.specs.Piles.{below, own}

-- what a block hands on, by the value on top
abbrev pub handed_on : Option ValType → Option Value → List Value → Option (List Value)
handed_on None value outer = Some outer
handed_on (Some t) None outer = None
handed_on (Some t) (Some v) outer = Some (v ∷ outer)

-- the operands become those that are handed on, or there is no value to hand on
abbrev pub Hands : {A : Type 0} → Option ValType → Option Value → Pile Value → Pile Value → Result A Stop → Type 0
Hands ty value old new (Ok done) = (handed_on ty value (own old) ≡ Some (own new)) × (below new ≡ below old)
Hands ty value old new (Err (stops.Trap kind)) = (handed_on ty value (own old) ≡ None) × (kind ≡ Unreachable)
Hands ty value old new (Err stops.OutOfGas) = ⊥
Hands ty value old new (Err stops.NoMemory) = ⊤

-- what a function gives, by the value on top
abbrev pub yielded : Option ValType → Option Value → Option (Option Value)
yielded None value = Some None
yielded (Some t) None = None
yielded (Some t) (Some v) = Some (Some v)

-- no i32 lies on top
abbrev pub HasNoI32 : List Value → Type 0
HasNoI32 [] = ⊤
HasNoI32 (I32 n ∷ values) = ⊥
HasNoI32 (I64 n ∷ values) = ⊤

-- the i32 on top was taken, or there is none
abbrev pub Pops : Pile Value → Pile Value → Result ℕ Stop → Type 0
Pops old new (Ok n) = (own old ≡ I32 n ∷ own new) × (below new ≡ below old)
Pops old new (Err (stops.Trap kind)) = HasNoI32 (own old) × (kind ≡ Unreachable)
Pops old new (Err stops.OutOfGas) = ⊥
Pops old new (Err stops.NoMemory) = ⊥

-- so much gas was used, or all of it, which is less
abbrev pub Charges : {A : Type 0} → ℕ → ℕ → ℕ → Result A Stop → Type 0
Charges n old new (Ok done) = (n ≤ old) × (new ≡ old - n)
Charges n old new (Err (stops.Trap kind)) = ⊥
Charges n old new (Err stops.OutOfGas) = (old < n) × (new ≡ 0)
Charges n old new (Err stops.NoMemory) = ⊥
