-- What a host does with a machine, and what then stands.
use Rattle.std.specs.Prelude.{ℕ, ◌+◌, List, Option, ⊤}
use Rattle.gas_meter.specs.declared.schedule.Schedule.{Schedule}
use Rattle.wasm_types.specs.declared.value.Value.{Value}
use Rattle.wasm_machine.specs.declared.turn.TrapKind.{TrapKind}
use Rattle.wasm_machine.specs.declared.turn.Turn.{Turn}
use Rattle.wasm_machine.specs.declared.turn.Turn.TheVariants as turns

-- one act of the host
pub data Act : Type 0 where
  -- a function is called, the imported ones counted first
  call : ℕ → List Value → Act
  -- the newest call goes on with so much gas, by this schedule
  go : ℕ → Schedule → Act
  -- the newest call, which waits for it, gets its answer
  answer : Option Value → Act
  -- the memory has these bytes from now on
  memory : List ℕ → Act

-- what the last call came to
pub data Standing : Type 0 where
  idle : Standing
  -- a call is under way and waits for the next `go`
  ready : Standing
  done : Option Value → Standing
  trap : TrapKind → Standing
  out_of_gas : Standing
  -- an import was called with these arguments
  ask : ℕ → List Value → Standing

-- what stands after some acts
pub record Stands : Type 0 where
  pub standing : Standing
  pub memory : List ℕ
  pub globals : List Value
  pub left : ℕ

-- the same, with so much more gas left
abbrev pub with_more_left : ℕ → Stands → Stands
with_more_left more s = record s { left = s.left + more }

-- the same, whatever gas is left
abbrev pub gas_aside : Stands → Stands
gas_aside s = record s { left = 0 }

-- a turn of a machine as a plain value
abbrev pub standing_of : Turn → Standing
standing_of (turns.Done value) = done value
standing_of (turns.Trap kind) = trap kind
standing_of turns.OutOfGas = out_of_gas
standing_of (turns.Ask i args) = ask i args.items

-- an import was called
abbrev pub IsAsk : Turn → Type 0
IsAsk (turns.Done value) = ⊥
IsAsk (turns.Trap kind) = ⊥
IsAsk turns.OutOfGas = ⊥
IsAsk (turns.Ask i args) = ⊤
