-- What a running call stands for: a call, what it found, and the answers so far.
use Rattle.std.specs.Prelude.{ℕ, ◌≡◌, Bool, List, [], ◌∷◌, map}
use Rattle.std.specs.Global.{Vec}
use Rattle.kv_layers.specs.Plain.{bytes_view}
use Rattle.wasm_machine.specs.declared.machine.Machine.{Machine}
use Rattle.wasm_machine.specs.Machine.{plain_of, StandsFor}
use Rattle.host_imports.specs.Work.{gave}
use Rattle.contract_call.specs.declared.entry.Entry.{Entry}
use Rattle.contract_call.specs.declared.stage.Stage.{Stage}
use Rattle.contract_call.specs.declared.stage.Stage.TheVariants.{New, Waits, Answered, Over}
use Rattle.contract_call.specs.declared.running.Running.{Running}
use Rattle.contract_call.specs.Stages.{CanGoOnAt, IsAnsweredAt, WaitsAt}
use Rattle.contract_call.specs.Calls.{Call, Outset, Answer, wants, part}

-- nothing was done yet
pub record IsNew (machine : Machine) (entry : Entry) (args : List (Vec ℕ)) (pinned : Bool) (c : Call) : Type 0 where
  pub runs : c.module ≡ plain_of machine
  pub acts : StandsFor machine []
  pub same_entry : c.entry ≡ entry
  pub same_args : c.args ≡ map bytes_view args
  pub same_pinned : c.pinned ≡ pinned

-- after these answers the call wants one more, and the machine is where it waits
pub record IsWaiting (machine : Machine) (c : Call) (o : Outset) (answers : List Answer) : Type 0 where
  pub request : List ℕ
  pub waits : (part c o answers).ended ≡ gave (wants request)
  pub runs : (part c o answers).place.module ≡ plain_of machine
  pub acts : StandsFor machine (part c o answers).place.acts

-- it waits, and was handed the newest of these answers
abbrev pub IsAnswered : Machine → Vec ℕ → Call → Outset → List Answer → Type 0
IsAnswered machine bytes c o [] = ⊥
IsAnswered machine bytes c o (a ∷ earlier) = (a.bytes ≡ bytes.items) × IsWaiting machine c o earlier

abbrev pub IsAtStage : Stage → Machine → Call → Outset → List Answer → Type 0
IsAtStage (New entry args pinned) machine c o answers = (answers ≡ []) × IsNew machine entry args.items pinned c
IsAtStage Waits machine c o answers = IsWaiting machine c o answers
IsAtStage (Answered bytes) machine c o answers = IsAnswered machine bytes c o answers
IsAtStage Over machine c o answers = ⊥

-- These are the answers that the call was handed so far, the newest first. What it comes to with them is the part of `Calls`.
unfoldable pub StandsForPart : Running → Call → Outset → List Answer → Type 0
StandsForPart running c o answers = IsAtStage running.stage running.machine c o answers

-- ---- which calls it takes

-- nothing was done yet, or its last query was answered
unfoldable pub CanGoOn : Running → Type 0
CanGoOn running = CanGoOnAt running.stage running.machine

-- its last query was answered
unfoldable pub HasAnswer : Running → Type 0
HasAnswer running = IsAnsweredAt running.stage

-- it waits for the answer to a query
unfoldable pub WaitsForAnswer : Running → Type 0
WaitsForAnswer running = WaitsAt running.stage running.machine
