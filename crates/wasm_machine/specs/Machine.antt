-- What a machine stands for.
use Rattle.std.specs.Prelude.{◌≡◌, ℕ, ⊤, List, ◌++◌}
use Rattle.std.specs.Arc.{arc_value}
use Rattle.std.specs.Borrow.{Lends, MutBor, Fml}
use Rattle.gas_meter.specs.declared.schedule.Schedule.{Schedule}
use Rattle.linear_memory.specs.contracts.memory.Memory as memories
use Rattle.wasm_types.specs.declared.module.Module.{Module}
use Rattle.wasm_types.specs.Plain.{PlainModule, plain_module}
use Rattle.wasm_machine.specs.contracts.machine.Machine.{the_row}
use Rattle.wasm_machine.specs.declared.machine.Machine.{Machine}
use Rattle.wasm_machine.specs.declared.frame.Next.{Next}
use Rattle.wasm_machine.specs.declared.frame.Next.TheVariants.{Enter, Give}
use Rattle.wasm_machine.specs.declared.state.State as states
use Rattle.wasm_machine.specs.declared.turn.Phase.{Phase}
use Rattle.wasm_machine.specs.declared.turn.Phase.TheVariants.{Idle, Ready, Asked, ReadyOver, AskedOver, Spent}
use Rattle.wasm_machine.specs.Phases.{IsReady}
use Rattle.wasm_machine.specs.Start.{table}
use Rattle.wasm_machine.specs.Acts.{Act, Standing, Stands}
use Rattle.wasm_machine.specs.Exec.{Ahead, Outcome, gives, stands, going_on, at_last, exec}
use Rattle.wasm_machine.specs.Values.{shared_of}
use Rattle.wasm_machine.specs.Rests.{Begins, hosts, entered, called_with, called, waiting}

abbrev pub module_of : Machine → Module
module_of machine = arc_value machine.module

abbrev pub plain_of : Machine → PlainModule
plain_of machine = plain_module (module_of machine)

unfoldable pub memory_of : Machine → List ℕ
memory_of machine = machine.state.values.memory

abbrev pub phase_of : Machine → Phase
phase_of machine = machine.phase

-- The newest call has not begun: it was made, and the machine was not run since. An imported function that is called so is
-- asked at once, without a charge.
unfoldable pub HasUnbegunCall : Machine → Type 0
HasUnbegunCall machine = IsReady machine.phase × Begins machine.state.next

-- what stands after these acts on the machine's module
abbrev pub stands_after : Machine → List Act → Stands
stands_after machine acts = exec (plain_of machine) acts

-- the machine with other bytes in its memory
unfoldable pub with_memory : Machine → List ℕ → Machine
with_memory machine bytes =
    record machine { state = record machine.state { values = record machine.state.values { memory = bytes } } }

abbrev pub LendsMemory : MutBor Machine → MutBor (List ℕ) → Fml
LendsMemory machine memory = Lends the_row memories.the_row machine memory (with_memory machine.now)

-- what comes of the newest call, where more acts come
abbrev pub next_on : PlainModule → states.State → Next → ℕ → List Act → Outcome
next_on m s (Enter func) left acts = called_with m s (going_on (shared_of s.values) left acts (entered m s func))
next_on m s (Give value) left acts = called m s (going_on (shared_of s.values) left acts (λ a. gives value (shared_of s.values) a))

abbrev pub rests_in : Phase → PlainModule → states.State → Next → Standing → Ahead → Outcome
rests_in Idle m s next standing a = waiting m s standing a
rests_in Asked m s next standing a = waiting m s standing a
rests_in AskedOver m s next standing a = waiting m s standing a
rests_in Ready m s next standing a = next_on m s next a.left a.acts
rests_in ReadyOver m s next standing a = next_on m s next a.left a.acts
rests_in Spent m s next standing a = stands standing (shared_of s.values) a.left

-- so many of the calls that are under way are the host's
abbrev pub HostsIn : Phase → ℕ → Type 0
HostsIn Idle n = n ≡ 0
HostsIn Ready n = n ≡ 1
HostsIn Asked n = n ≡ 1
HostsIn ReadyOver n = n ≡ 2
HostsIn AskedOver n = n ≡ 2
HostsIn Spent n = ⊤

-- whatever acts come, going on from where the machine stands is the run of all acts from the start
pub record Rests (machine : Machine) (acts : List Act) : Type 0 where
  pub standing : Standing
  pub left : ℕ
  pub costs : Schedule
  pub goes_on : (more : List Act) → exec (plain_of machine) (acts ++ more) ≡ at_last (rests_in machine.phase (plain_of machine) machine.state machine.state.next standing (record { left = left; costs = costs; acts = more }))
  pub hosts_in : HostsIn machine.phase (hosts machine.state.callers.items)
  pub cells : machine.table.items ≡ table (plain_of machine)

-- the machine stands for these acts on its module
unfoldable pub StandsFor : Machine → List Act → Type 0
StandsFor machine acts = Rests machine acts
