-- Not for readers of contracts: it serves the proofs of this crate alone. What a machine stands for is seen by the clauses of its calls.
-- What comes of a machine that stands between two instructions or two acts.
use Rattle.std.specs.Prelude.{◌≡◌, ℕ, suc, ◌+◌, ◌-◌, ◌*◌, ◌<◌, List, [], ◌∷◌, take, drop, reverse, length, slice_get, Option, Some, None, Result, Ok, Err, ⊤}
use Rattle.gas_meter.specs.declared.schedule.Schedule.{Schedule}
use Rattle.wasm_types.specs.declared.value.ValType.{ValType}
use Rattle.wasm_types.specs.declared.value.Value.{Value}
use Rattle.wasm_types.specs.declared.instr.Instr.{Instr}
use Rattle.wasm_types.specs.Plain.{PlainCode, PlainModule}
use Rattle.wasm_machine.specs.declared.frame.Frame as frames
use Rattle.wasm_machine.specs.declared.frame.Label.{Label}
use Rattle.wasm_machine.specs.declared.frame.Caller.{Caller}
use Rattle.wasm_machine.specs.declared.frame.Caller.TheVariants.{Host, Function}
use Rattle.wasm_machine.specs.declared.frame.Event.{Event}
use Rattle.wasm_machine.specs.declared.frame.Event.TheVariants.{Goes, Leaves}
use Rattle.wasm_machine.specs.declared.frame.Pause.{Pause}
use Rattle.wasm_machine.specs.declared.frame.Pause.TheVariants as pauses
use Rattle.wasm_machine.specs.declared.frame.Next as nexts
use Rattle.wasm_machine.specs.declared.frame.Next.TheVariants.{Enter, Give}
use Rattle.wasm_machine.specs.declared.frame.Step.{Step}
use Rattle.wasm_machine.specs.declared.frame.Step.TheVariants.{Runs, Stops}
use Rattle.wasm_machine.specs.declared.stop.Stop.{Stop}
use Rattle.wasm_machine.specs.declared.stop.Stop.TheVariants as stops
use Rattle.wasm_machine.specs.declared.state.State as states
use Rattle.wasm_machine.specs.Acts.{Act, Standing, done, out_of_gas, ask}
use Rattle.wasm_machine.specs.Start.{code_at}
use Rattle.wasm_machine.specs.Effects.{State}
use Rattle.wasm_machine.specs.Exec.{Ahead, Outcome, gives, stands, trapped, Move, follows, from, enter, host, Frame, handed, behind, closes, turns, result_of, finishes, resumes, hosted, run}
use Rattle.wasm_machine.specs.Piles.{all, below, span, own}
use Rattle.wasm_machine.specs.Values.{beside, shared_of, seen}

-- a frame as the definition of a run sees it
abbrev pub frame_at : PlainModule → ℕ → frames.Frame → Frame
frame_at m depth frame = record { code = code_at m frame.code; depth = depth }

-- a block, after its instructions
abbrev pub closed_by : PlainModule → Frame → ℕ → Option ℕ → Label → List Value → Outcome → Outcome
closed_by m f beside None l outer o = closes (run m) f beside l.result l.after outer o
closed_by m f beside (Some start) l outer o = turns (run m) f beside l.result start l.after outer o

-- The blocks of a function that are open, the innermost first, after the instructions of the innermost; `ops` is the operands
-- below its own, and `rest` is what follows the function's instructions.
unfoldable pub blocks : PlainModule → Frame → ℕ → (List Value → Outcome → Outcome) → List Label → List Value → Outcome → Outcome
blocks m f locals rest [] ops o = rest ops o
blocks m f locals rest (l ∷ ls) ops o =
    blocks m f locals rest ls (take l.floor ops) (closed_by m f (locals + length (take l.floor ops)) l.start l (reverse (drop l.floor ops)) o)

-- those who wait for calls, the newest first, after the newest call; so many frames are under way
unfoldable pub through : PlainModule → List Caller → List Value → List Value → List Label → ℕ → Outcome → Outcome
through m [] ops locals labels depth o = o
through m (Host ∷ cs) ops locals labels depth o =
    through m cs ops locals labels depth (hosted (run m) depth (length locals + length ops) o)
through m (Function frame operands_floor locals_floor labels_floor ∷ cs) ops locals labels depth o =
    blocks m (frame_at m depth frame) (length locals)
    (λ ops o. through m cs ops (take locals_floor locals) (take labels_floor labels) (depth - 1) (finishes frame.result o))
    (reverse (drop labels_floor labels)) (take operands_floor ops)
    (resumes (run m) (frame_at m depth frame) (length locals + length (take operands_floor ops)) frame.place
    (record { locals = drop locals_floor locals; operands = reverse (drop operands_floor ops); shared = record { memory = []; globals = [] } }) o)

-- the end of a function that runs, of which `ops` is what lies below its operands
unfoldable pub ending : PlainModule → List Caller → List Value → List Label → ℕ → Option ValType → List Value → Outcome → Outcome
ending m cs locals labels depth result ops o = through m cs ops locals labels (depth - 1) (finishes result o)

-- an outcome of the newest call
abbrev pub called : PlainModule → states.State → Outcome → Outcome
called m s o = through m (reverse s.callers.items) (all s.values.operands) (all s.values.locals) (all s.labels) s.depth o

-- an outcome of the instructions in the innermost block of the function that runs
abbrev pub inside : PlainModule → states.State → frames.Frame → Outcome → Outcome
inside m s frame o =
    blocks m (frame_at m s.depth frame) (length (all s.values.locals))
    (ending m (reverse s.callers.items) (below s.values.locals) (below s.labels) s.depth frame.result)
    (own s.labels) (below s.values.operands) o

-- a function runs
unfoldable pub running : PlainModule → states.State → frames.Frame → Ahead → Outcome
running m s frame a = inside m s frame (run m (from (frame_at m s.depth frame) (beside s.values) frame.place (seen s.values) a))

-- a call is over
unfoldable pub giving : PlainModule → states.State → Option Value → Ahead → Outcome
giving m s value a = called m s (gives value (shared_of s.values) a)

-- the host acts
unfoldable pub waiting : PlainModule → states.State → Standing → Ahead → Outcome
waiting m s standing a =
    called m s (run m (host s.depth (length (all s.values.locals) + length (all s.values.operands)) standing (shared_of s.values) a))

-- a function is entered, with the operands of what runs as its arguments
abbrev pub entered : PlainModule → states.State → ℕ → Ahead → Outcome
entered m s func a = run m (enter s.depth (length (all s.values.locals) + length (below s.values.operands)) func (span s.values.operands) (shared_of s.values) a)

abbrev pub called_with : PlainModule → states.State → Outcome → Outcome
called_with m s o = through m (reverse s.callers.items) (below s.values.operands) (all s.values.locals) (all s.labels) s.depth o

-- ---- what a step of the machine leads to

-- what the newest call does next
abbrev pub next_at : PlainModule → states.State → nexts.Next → Ahead → Outcome
next_at m s (Enter func) a = called_with m s (entered m s func a)
next_at m s (Give value) a = giving m s value a

-- the same function at another place
abbrev pub at_place : frames.Frame → ℕ → frames.Frame
at_place f place = record f { place = place }

-- what comes next counts, so that no run goes on for ever
abbrev pub next_weight : nexts.Next → ℕ
next_weight (Enter func) = 2
next_weight (Give value) = 0

-- a call begins next
abbrev pub Begins : nexts.Next → Type 0
Begins (Enter func) = ⊤
Begins (Give value) = ⊥

-- an instruction called no function
abbrev pub CallsNone : states.State → Event → Type 0
CallsNone s (Goes place) = ⊤
CallsNone s Leaves = ¬ Begins s.next

-- only a call that begins asks
abbrev pub AsksFrom : nexts.Next → Pause → Type 0
AsksFrom next (pauses.Done value) = ⊤
AsksFrom next (pauses.Asks i args) = Begins next

abbrev pub StepAsks : nexts.Next → Step → Type 0
StepAsks next (Runs frame) = ⊤
StepAsks next (Stops pause) = AsksFrom next pause

abbrev pub weight : states.State → Event → ℕ
weight s (Goes place) = 1
weight s Leaves = next_weight s.next

-- what comes of an event in the function that runs
abbrev pub comes_to : PlainModule → frames.Frame → states.State → Event → Ahead → Outcome
comes_to m f s (Goes place) a = running m s (at_place f place) a
comes_to m f s Leaves a = next_at m s s.next a

abbrev pub StopsAt : Stop → states.State → Ahead → Outcome → Type 0
StopsAt (stops.Trap kind) s a o = o ≡ trapped kind (shared_of s.values) a
StopsAt stops.OutOfGas s a o = o ≡ stands out_of_gas (shared_of s.values) a.left
StopsAt stops.NoMemory s a o = ⊤

-- an instruction of the function answered this and left this state: what comes of it is the outcome
abbrev pub Leads : PlainModule → frames.Frame → Result Event Stop → states.State → Ahead → Outcome → Type 0
Leads m f (Ok event) s a o = o ≡ comes_to m f s event a
Leads m f (Err stop) s a o = StopsAt stop s a o

-- the instructions and the labels of a code
abbrev pub IsBodyOf : PlainCode → List Instr → List ℕ → Type 0
IsBodyOf code instrs targets = (instrs ≡ code.body) × (targets ≡ code.targets)

-- the function was left
abbrev pub LeadsOut : {A : Type 0} → PlainModule → Result A Stop → states.State → Ahead → Outcome → Type 0
LeadsOut m (Ok u) s a o = o ≡ next_at m s s.next a
LeadsOut m (Err stop) s a o = StopsAt stop s a o

-- a move in the innermost block of the function that runs, which goes on at the place of its frame
abbrev pub moved : PlainModule → states.State → frames.Frame → Move → Outcome
moved m s frame mv = inside m s frame (follows (run m) (frame_at m s.depth frame) (beside s.values) frame.place mv)

-- how many of the calls that are under way are the host's
abbrev pub hosts : List Caller → ℕ
hosts [] = 0
hosts (Host ∷ cs) = suc (hosts cs)
hosts (Function frame operands locals labels ∷ cs) = hosts cs

-- the end of a call answered this and left this state: what comes of it is the outcome
abbrev pub LeadsOn : PlainModule → Option Value → Result (Option frames.Frame) Stop → states.State → Ahead → Outcome → Type 0
LeadsOn m value (Ok None) s a o = o ≡ waiting m s (done value) a
LeadsOn m value (Ok (Some frame)) s a o = o ≡ running m s frame a
LeadsOn m value (Err (stops.Trap kind)) s a o = o ≡ trapped kind (shared_of s.values) a
LeadsOn m value (Err stops.OutOfGas) s a o = ⊥
LeadsOn m value (Err stops.NoMemory) s a o = ⊤

-- The block of a label that was taken away is at its end, in a state whose first operand counts.
abbrev pub closing : PlainModule → states.State → frames.Frame → Label → State → Ahead → Outcome
closing m s frame l inner a =
    let ops = take l.floor (below s.values.operands) in
    blocks m (frame_at m s.depth frame) (length (all s.values.locals))
    (ending m (reverse s.callers.items) (below s.values.locals) (below s.labels) s.depth frame.result)
    (own s.labels) ops
    (behind (run m) (frame_at m s.depth frame) (length (all s.values.locals) + length ops) l.after
    (handed l.result inner.operands (reverse (drop l.floor (below s.values.operands)))) inner a)

-- where a branch to a label begins the next turn, if the label is that of a loop
abbrev pub start_of : Option Label → Option ℕ
start_of None = None
start_of (Some l) = l.start

-- a function without open blocks is at its end, in such a state
abbrev pub finishing : PlainModule → states.State → frames.Frame → State → Ahead → Outcome
finishing m s frame inner a =
    through m (reverse s.callers.items) (below s.values.operands) (below s.values.locals) (below s.labels) (s.depth - 1)
    (result_of frame.result inner.operands inner a)

-- a state with this value on top
pub record HasTop (s : states.State) (value : Option Value) (inner : State) : Type 0 where
  pub top : slice_get inner.operands 0 ≡ value
  pub locals : inner.locals ≡ span s.values.locals
  pub shared : inner.shared ≡ shared_of s.values

-- what lies ahead
abbrev pub ahead : ℕ → Schedule → List Act → Ahead
ahead left costs acts = record { left = left; costs = costs; acts = acts }

-- how much there is to leave, so that no run goes on for ever
abbrev pub height : states.State → ℕ
height s = length (all s.labels) + 2 * length s.callers.items

-- what comes of a pause
abbrev pub pauses_at : PlainModule → states.State → Pause → Ahead → Outcome
pauses_at m s (pauses.Done value) a = waiting m s (done value) a
pauses_at m s (pauses.Asks i args) a = waiting m s (ask i args.items) a

-- what comes of a step
abbrev pub steps_to : PlainModule → states.State → Step → Ahead → Outcome
steps_to m s (Runs frame) a = running m s frame a
steps_to m s (Stops pause) a = pauses_at m s pause a

abbrev pub LeadsTo : PlainModule → Result Step Stop → states.State → Ahead → Outcome → Type 0
LeadsTo m (Ok step) s a o = o ≡ steps_to m s step a
LeadsTo m (Err stop) s a o = StopsAt stop s a o

abbrev pub Pauses : PlainModule → Result Pause Stop → states.State → Ahead → Outcome → Type 0
Pauses m (Ok pause) s a o = o ≡ pauses_at m s pause a
Pauses m (Err stop) s a o = StopsAt stop s a o

-- the calls of the host after a pause
abbrev pub HostsAfter : Pause → ℕ → ℕ → Type 0
HostsAfter (pauses.Done value) old new = old ≡ suc new
HostsAfter (pauses.Asks i args) old new = new ≡ old

abbrev pub StepHosts : Step → ℕ → ℕ → Type 0
StepHosts (Runs frame) old new = new ≡ old
StepHosts (Stops pause) old new = HostsAfter pause old new

abbrev pub IsBelow : Step → ℕ → ℕ → Type 0
IsBelow (Runs frame) old new = new + 1 < old
IsBelow (Stops pause) old new = ⊤
