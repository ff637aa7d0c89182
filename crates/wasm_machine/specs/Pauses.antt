-- Not for readers of contracts: it serves the proofs of this crate alone.
-- The turns in which pauses and stops of a run are told.
use Rattle.std.specs.Prelude.{◌≡◌, Result, Ok, Err, ⊤}
use Rattle.wasm_machine.specs.declared.turn.Turn.{Turn}
use Rattle.wasm_machine.specs.declared.turn.Turn.TheVariants as turns
use Rattle.wasm_machine.specs.declared.frame.Pause.{Pause}
use Rattle.wasm_machine.specs.declared.frame.Pause.TheVariants as pauses
use Rattle.wasm_machine.specs.declared.stop.Stop.{Stop}
use Rattle.wasm_machine.specs.declared.stop.Stop.TheVariants as stops
use Rattle.wasm_machine.specs.Acts.{Standing, done, ask}

abbrev pub standing_at : Pause → Standing
standing_at (pauses.Done value) = done value
standing_at (pauses.Asks i args) = ask i args.items

-- a turn tells the stop; want of memory is told by none
abbrev pub TurnsAt : {E : Type 0} → Stop → Result Turn E → Type 0
TurnsAt (stops.Trap kind) (Ok turn) = turn ≡ turns.Trap kind
TurnsAt (stops.Trap kind) (Err e) = ⊥
TurnsAt stops.OutOfGas (Ok turn) = turn ≡ turns.OutOfGas
TurnsAt stops.OutOfGas (Err e) = ⊥
TurnsAt stops.NoMemory (Ok turn) = ⊥
TurnsAt stops.NoMemory (Err e) = ⊤
