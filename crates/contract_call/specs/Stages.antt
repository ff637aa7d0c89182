-- Which calls a running call takes at which stage, and where its machine is then.
use Rattle.std.specs.Prelude.{◌≡◌, ⊤}
use Rattle.wasm_machine.specs.declared.machine.Machine.{Machine}
use Rattle.wasm_machine.specs.declared.turn.Phase.TheVariants.{Idle, Asked}
use Rattle.wasm_machine.specs.Machine.{phase_of}
use Rattle.contract_call.specs.declared.stage.Stage.{Stage}
use Rattle.contract_call.specs.declared.stage.Stage.TheVariants.{New, Waits, Answered, Over}

abbrev pub CanGoOnAt : Stage → Machine → Type 0
CanGoOnAt (New entry args pinned) machine = phase_of machine ≡ Idle
CanGoOnAt Waits machine = ⊥
CanGoOnAt (Answered bytes) machine = phase_of machine ≡ Asked
CanGoOnAt Over machine = ⊥

abbrev pub IsAnsweredAt : Stage → Type 0
IsAnsweredAt (New entry args pinned) = ⊥
IsAnsweredAt Waits = ⊥
IsAnsweredAt (Answered bytes) = ⊤
IsAnsweredAt Over = ⊥

abbrev pub WaitsAt : Stage → Machine → Type 0
WaitsAt (New entry args pinned) machine = ⊥
WaitsAt Waits machine = phase_of machine ≡ Asked
WaitsAt (Answered bytes) machine = ⊥
WaitsAt Over machine = ⊥
