-- Not for readers of contracts: it serves the proofs of this crate alone.
-- What the values of a machine show of a state, and what an instruction did to them.
use Rattle.std.specs.Prelude.{◌≡◌, ℕ, ◌+◌, length, Result, Ok, Err, ⊤}
use Rattle.wasm_machine.specs.declared.stop.Stop.{Stop}
use Rattle.wasm_machine.specs.declared.stop.Stop.TheVariants as stops
use Rattle.wasm_machine.specs.declared.values.Values.{Values}
use Rattle.wasm_machine.specs.Effects.{Shared, State, Effect}
use Rattle.wasm_machine.specs.Piles.{all, below, span, own}

-- how many values stand besides the operands of the innermost block
abbrev pub beside : Values → ℕ
beside v = length (all v.locals) + length (below v.operands)

abbrev pub shared_of : Values → Shared
shared_of v = record { memory = v.memory; globals = v.globals.items }

-- what the instructions of the function that runs see
abbrev pub seen : Values → State
seen v = record { locals = span v.locals; operands = own v.operands; shared = shared_of v }

-- what waits is as before
pub record Keeps (old new : Values) : Type 0 where
  pub operands : below new.operands ≡ below old.operands
  pub locals : below new.locals ≡ below old.locals
  pub size : length (all new.locals) ≡ length (all old.locals)

-- the values are those of the effect, or the trap is its trap
abbrev pub Does : {A : Type 0} → Result A Stop → Effect → Values → Values → Type 0
Does (Ok done) e old new = (e ≡ Ok (seen new)) × Keeps old new
Does (Err (stops.Trap kind)) e old new = (e ≡ Err kind) × (shared_of new ≡ shared_of old)
Does (Err stops.OutOfGas) e old new = ⊥
Does (Err stops.NoMemory) e old new = ⊤
