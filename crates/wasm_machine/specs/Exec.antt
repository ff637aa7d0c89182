-- The run of a module under the acts of a host (WebAssembly core 1.0, section 4.4), by recursion from the start: there is no
-- stack of frames and no pause. Each charge stands before its effect. A part of a run goes on by `next`, which stands for
-- the run of the parts in it; `run` is what comes of all of them.
use Rattle.std.specs.Prelude.{ℕ, zero, suc, ◌+◌, ◌-◌, ◌*◌, ◌==◌, ◌&&◌, nat_lt, nat_le, max, Bool, true, false, if◌then◌else◌, List, [], ◌∷◌, ◌++◌, map, reverse, take, drop, length, slice_get, Option, Some, None, Ok, Err}
use Rattle.gas_meter.specs.declared.schedule.Schedule.{Schedule}
use Rattle.gas_meter.specs.Costs.{standard_schedule, cost, locals_cost, pages_cost}
use Rattle.linear_memory.specs.Pages.{most_pages, pages_of, zeros}
use Rattle.wasm_types.specs.declared.value.ValType.{ValType}
use Rattle.wasm_types.specs.declared.value.Value.{Value}
use Rattle.wasm_types.specs.declared.value.Value.TheVariants.{I32}
use Rattle.wasm_types.specs.declared.instr.Instr.{Instr}
use Rattle.wasm_types.specs.declared.instr.Instr.TheVariants.{Op, Index, CallIndirect, BrTable, Mem, Const, Block, Loop, If, Else, End}
use Rattle.wasm_types.specs.Plain.{PlainFuncType, PlainCode, PlainModule}
use Rattle.wasm_types.specs.Gate.{are_same}
use Rattle.wasm_machine.specs.declared.turn.TrapKind.{TrapKind}
use Rattle.wasm_machine.specs.declared.turn.TrapKind.TheVariants.{Unreachable, TableBounds, TableEmpty, TableType, StackOverflow}
use Rattle.wasm_machine.specs.declared.kind.PlainKind.{PlainKind}
use Rattle.wasm_machine.specs.declared.kind.PlainKind.TheVariants as plain
use Rattle.wasm_machine.specs.declared.kind.IndexKind.{IndexKind}
use Rattle.wasm_machine.specs.declared.kind.IndexKind.TheVariants as indexed
use Rattle.wasm_machine.specs.Acts.{Act, call, go, answer, memory, Standing, idle, ready, done, trap, out_of_gas, ask, Stands}
use Rattle.wasm_machine.specs.Start.{start_memory, start_globals, table, imported, func_type, code_at, zero_of}
use Rattle.wasm_machine.specs.Kinds.{plain_kind, index_kind, width, opcode, is_marker}
use Rattle.wasm_machine.specs.Effects.{Shared, State, with_operands, with_memory, Effect, most_values, push, given, plain_effect, index_effect, memory_effect}

-- what lies ahead: the gas that is left, what each step costs, and the acts that are still to come
pub record Ahead : Type 0 where
  pub left : ℕ
  pub costs : Schedule
  pub acts : List Act

-- what a part of a run comes to
pub data Outcome : Type 0 where
  -- the block is at its end
  falls : State → Ahead → Outcome
  -- a branch out of so many blocks, to the label of the next one
  jumps : ℕ → State → Ahead → Outcome
  -- the function is left
  returns : State → Ahead → Outcome
  -- a call is over
  gives : Option Value → Shared → Ahead → Outcome
  -- no act changes anything any more, or none comes
  ends : Stands → Outcome

abbrev pub stands : Standing → Shared → ℕ → Outcome
stands standing shared left = ends (record { standing = standing; memory = shared.memory; globals = shared.globals; left = left })

abbrev pub trapped : TrapKind → Shared → Ahead → Outcome
trapped kind shared a = stands (trap kind) shared a.left

-- what comes next behind an instruction
pub data Move : Type 0 where
  -- the instruction at a place
  goes : ℕ → State → Ahead → Move
  -- a block, which is a loop or not: its result, the places of its first instruction and of what is behind it
  opens : Bool → Option ValType → ℕ → ℕ → State → Ahead → Move
  -- a call of a function with these arguments
  calls : ℕ → List Value → State → Ahead → Move
  -- nothing in this block
  leaves : Outcome → Move

-- ---- charges

-- A step costs at least 1, as each schedule in range says. So the gas bounds every run.
abbrev pub price : Schedule → ℕ → ℕ
price costs op = max 1 (cost costs op)

abbrev pub spend : Ahead → ℕ → Ahead
spend a n = record a { left = a.left - n }

-- what comes next behind a charge; where it can't be paid, all gas is used
abbrev pub paid : ℕ → Shared → Ahead → (Ahead → Move) → Move
paid n shared a behind = if nat_lt a.left n then leaves (stands out_of_gas shared 0) else behind (spend a n)

-- ---- single instructions

abbrev pub after : ℕ → State → Ahead → Effect → Move
after place s a (Ok new) = goes place new a
after place s a (Err kind) = leaves (trapped kind s.shared a)

abbrev pub bad : State → Ahead → Move
bad s a = leaves (trapped Unreachable s.shared a)

-- pages of zeros behind the memory, and its old size; -1, and no charge for pages, exactly where it would pass 512 pages
abbrev pub grown : ℕ → ℕ → List Value → State → Ahead → Move
grown place pages rest s a =
    let old = pages_of s.shared.memory in
    if nat_lt most_pages (old + pages) then goes place (with_operands s (I32 0xFFFFFFFF ∷ rest)) a
    else paid (pages_cost a.costs pages) s.shared a (λ a. goes place (with_memory (with_operands s (I32 old ∷ rest)) (s.shared.memory ++ zeros pages)) a)

abbrev pub grows : ℕ → List Value → State → Ahead → Move
grows place (I32 pages ∷ rest) s a = grown place pages rest s a
grows place _ s a = bad s a

abbrev pub jumps_if : ℕ → ℕ → List Value → State → Ahead → Move
jumps_if place label (I32 c ∷ rest) s a =
    if c == 0 then goes place (with_operands s rest) a else leaves (jumps label (with_operands s rest) a)
jumps_if place label _ s a = bad s a

abbrev pub jumps_to : Option ℕ → State → Ahead → Move
jumps_to None s a = bad s a
jumps_to (Some label) s a = leaves (jumps label s a)

-- br_table, by the number on top
abbrev pub jumps_by : List ℕ → ℕ → ℕ → ℕ → List Value → State → Ahead → Move
jumps_by targets first count default (I32 i ∷ rest) s a =
    jumps_to (if nat_lt i count then slice_get targets (first + i) else Some default) (with_operands s rest) a
jumps_by targets first count default _ s a = bad s a

-- an `if` without `else` has no result
abbrev pub opens_else : Option ValType → Option ℕ → ℕ → State → Ahead → Move
opens_else result (Some els) end s a = opens false result (els + 1) (end + 1) s a
opens_else None None end s a = goes (end + 1) s a
opens_else (Some t) None end s a = bad s a

abbrev pub opens_if : ℕ → Option ValType → Option ℕ → ℕ → List Value → State → Ahead → Move
opens_if onward result els end (I32 c ∷ rest) s a =
    if c == 0 then opens_else result els end (with_operands s rest) a
    else opens false result onward (end + 1) (with_operands s rest) a
opens_if onward result els end _ s a = bad s a

-- ---- calls

-- how many locals a function declares; an imported one has none
abbrev pub declared : PlainModule → ℕ → List ValType
declared m func = if nat_lt func (imported m) then [] else (code_at m (func - imported m)).locals

-- so many arguments, of which the last one is on top, leave the operands
abbrev pub calls_with : ℕ → ℕ → State → Ahead → Move
calls_with func n s a =
    if nat_lt (length s.operands) n then bad s a
    else calls func (reverse (take n s.operands)) (with_operands s (drop n s.operands)) a

-- the charge for declared locals comes first
abbrev pub calls_typed : PlainModule → ℕ → Option PlainFuncType → State → Ahead → Move
calls_typed m func None s a = bad s a
calls_typed m func (Some t) s a =
    paid (locals_cost (length (declared m func))) s.shared a (λ a. calls_with func (length t.params) s a)

abbrev pub calls_func : PlainModule → ℕ → State → Ahead → Move
calls_func m func s a = calls_typed m func (func_type m func) s a

-- what a table has at a place: nothing, no function, or a function
abbrev pub calls_cell : PlainModule → ℕ → Option (Option ℕ) → State → Ahead → Move
calls_cell m ty None s a = leaves (trapped TableBounds s.shared a)
calls_cell m ty (Some None) s a = leaves (trapped TableEmpty s.shared a)
calls_cell m ty (Some (Some func)) s a =
    if are_same (slice_get m.types ty) (func_type m func) then calls_func m func s a
    else leaves (trapped TableType s.shared a)

abbrev pub calls_indirect : PlainModule → ℕ → List Value → State → Ahead → Move
calls_indirect m ty (I32 i ∷ rest) s a = calls_cell m ty (slice_get (table m) i) (with_operands s rest) a
calls_indirect m ty _ s a = bad s a

-- ---- the instruction at a place

abbrev pub plain_move : PlainKind → ℕ → ℕ → ℕ → State → Ahead → Move
plain_move plain.Return op below onward s a = leaves (returns s a)
plain_move plain.MemoryGrow op below onward s a = grows onward s.operands s a
plain_move kind op below onward s a = after onward s a (plain_effect kind op below s)

abbrev pub index_move : PlainModule → IndexKind → ℕ → ℕ → ℕ → State → Ahead → Move
index_move m indexed.Branch i below onward s a = leaves (jumps i s a)
index_move m indexed.BranchIf i below onward s a = jumps_if onward i s.operands s a
index_move m indexed.Call i below onward s a = calls_func m i s a
index_move m kind i below onward s a = after onward s a (index_effect kind i below s)

-- behind its charge; so many values stand besides the operands of the innermost block, and the next instruction has the place `onward`
abbrev pub move_paid : PlainModule → List ℕ → ℕ → ℕ → Instr → State → Ahead → Move
move_paid m targets below onward (Op op) s a = plain_move (plain_kind op) op below onward s a
move_paid m targets below onward (Index op i) s a = index_move m (index_kind op) i below onward s a
move_paid m targets below onward (CallIndirect ty) s a = calls_indirect m ty s.operands s a
move_paid m targets below onward (BrTable first count default) s a = jumps_by targets first count default s.operands s a
move_paid m targets below onward (Mem op align offset) s a = after onward s a (memory_effect (width op) op offset s)
move_paid m targets below onward (Const v) s a = after onward s a (push below v s)
move_paid m targets below onward (Block result end) s a = opens false result onward (end + 1) s a
move_paid m targets below onward (Loop result end) s a = opens true result onward (end + 1) s a
move_paid m targets below onward (If result els end) s a = opens_if onward result els end s.operands s a
move_paid m targets below onward (Else end) s a = leaves (falls s a)
move_paid m targets below onward End s a = leaves (falls s a)

-- `else` and `end` cost nothing, and behind the last instruction the function is at its end too
abbrev pub move : PlainModule → List ℕ → ℕ → ℕ → Option Instr → State → Ahead → Move
move m targets below onward None s a = leaves (falls s a)
move m targets below onward (Some i) s a =
    if is_marker i then leaves (falls s a)
    else paid (price a.costs (opcode i)) s.shared a (λ a. move_paid m targets below onward i s a)

-- ---- the parts of a run

-- a function that runs: its code, and how many frames are under way with this one
pub record Frame : Type 0 where
  pub code : PlainCode
  pub depth : ℕ

pub data Job : Type 0 where
  -- the instructions from a place up to the end of the block, where so many values stand besides the block's operands
  from : Frame → ℕ → ℕ → State → Ahead → Job
  -- a turn of a loop: its result, its places, and the operands of the block around it
  turn : Frame → ℕ → Option ValType → ℕ → ℕ → List Value → State → Ahead → Job
  -- a call, where so many frames and so many values stand, of a function with these arguments
  enter : ℕ → ℕ → ℕ → List Value → Shared → Ahead → Job
  -- the host acts, where so many frames and so many values stand, and this is what the last call came to
  host : ℕ → ℕ → Standing → Shared → Ahead → Job

-- ---- blocks

-- a block hands its result on, and its other operands go
abbrev pub handed : Option ValType → List Value → List Value → Option (List Value)
handed None inner outer = Some outer
handed (Some t) [] outer = None
handed (Some t) (v ∷ inner) outer = Some (v ∷ outer)

abbrev pub behind : (Job → Outcome) → Frame → ℕ → ℕ → Option (List Value) → State → Ahead → Outcome
behind next f below place None s a = trapped Unreachable s.shared a
behind next f below place (Some values) s a = next (from f below place (with_operands s values) a)

-- a block, after its instructions; `outer` is the operands of the block around it
abbrev pub closes : (Job → Outcome) → Frame → ℕ → Option ValType → ℕ → List Value → Outcome → Outcome
closes next f below result place outer (falls s a) = behind next f below place (handed result s.operands outer) s a
closes next f below result place outer (jumps zero s a) = behind next f below place (handed result s.operands outer) s a
closes next f below result place outer (jumps (suc label) s a) = jumps label s a
closes next f below result place outer o = o

-- a loop, after its instructions: a branch to its label is its next turn
abbrev pub turns : (Job → Outcome) → Frame → ℕ → Option ValType → ℕ → ℕ → List Value → Outcome → Outcome
turns next f below result start place outer (falls s a) = behind next f below place (handed result s.operands outer) s a
turns next f below result start place outer (jumps zero s a) = next (turn f below result start place outer (with_operands s []) a)
turns next f below result start place outer (jumps (suc label) s a) = jumps label s a
turns next f below result start place outer o = o

-- ---- functions

abbrev pub result_of : Option ValType → List Value → State → Ahead → Outcome
result_of None values s a = gives None s.shared a
result_of (Some t) [] s a = trapped Unreachable s.shared a
result_of (Some t) (v ∷ values) s a = gives (Some v) s.shared a

-- a function, after its instructions
abbrev pub finishes : Option ValType → Outcome → Outcome
finishes result (falls s a) = result_of result s.operands s a
finishes result (jumps zero s a) = result_of result s.operands s a
finishes result (jumps (suc label) s a) = trapped Unreachable s.shared a
finishes result (returns s a) = result_of result s.operands s a
finishes result o = o

abbrev pub goes_on : (Job → Outcome) → Frame → ℕ → ℕ → State → Ahead → Effect → Outcome
goes_on next f below place s a (Ok new) = next (from f below place new a)
goes_on next f below place s a (Err kind) = trapped kind s.shared a

-- the function behind a call, after the call
abbrev pub resumes : (Job → Outcome) → Frame → ℕ → ℕ → State → Outcome → Outcome
resumes next f below place s (gives v shared a) =
    let new : State = record s { shared = shared } in goes_on next f below place new a (given below v new)
resumes next f below place s o = o

-- no more frames than this are under way
abbrev pub most_frames : ℕ
most_frames = 512

abbrev pub enters_code : (Job → Outcome) → ℕ → ℕ → Option ValType → PlainCode → List Value → Shared → Ahead → Outcome
enters_code next depth below result code args shared a =
    let values = below + length args + length code.locals in
    if nat_lt depth most_frames && nat_le values most_values
    then finishes result (next (from (record { code = code; depth = depth + 1 }) values 0 (record { locals = args ++ map zero_of code.locals; operands = []; shared = shared }) a))
    else trapped StackOverflow shared a

abbrev pub enters_typed : (Job → Outcome) → ℕ → ℕ → Option PlainFuncType → PlainCode → List Value → Shared → Ahead → Outcome
enters_typed next depth below None code args shared a = trapped Unreachable shared a
enters_typed next depth below (Some t) code args shared a = enters_code next depth below t.result code args shared a

abbrev pub enters : PlainModule → (Job → Outcome) → ℕ → ℕ → ℕ → List Value → Shared → Ahead → Outcome
enters m next depth below func args shared a =
    if nat_lt func (imported m) then next (host depth below (ask func args) shared a)
    else enters_typed next depth below (func_type m func) (code_at m (func - imported m)) args shared a

-- ---- the host

-- a call that is under way goes on by the next act, which gives it gas
abbrev pub going_on : Shared → ℕ → List Act → (Ahead → Outcome) → Outcome
going_on shared left (go more costs ∷ acts) then_on = then_on (record { left = more; costs = costs; acts = acts })
going_on shared left _ then_on = stands ready shared left

-- the host, after a call of its own
abbrev pub hosted : (Job → Outcome) → ℕ → ℕ → Outcome → Outcome
hosted next depth below (gives v shared a) = next (host depth below (done v) shared a)
hosted next depth below o = o

abbrev pub acts_on : (Job → Outcome) → ℕ → ℕ → Standing → Shared → ℕ → Schedule → List Act → Outcome
acts_on next depth below standing shared left costs [] = stands standing shared left
acts_on next depth below standing shared left costs (memory bytes ∷ acts) =
    next (host depth below standing (record { memory = bytes; globals = shared.globals }) (record { left = left; costs = costs; acts = acts }))
acts_on next depth below standing shared left costs (call func args ∷ acts) =
    going_on shared left acts (λ a. hosted next depth below (next (enter depth below func args shared a)))
acts_on next depth below standing shared left costs (answer v ∷ acts) = going_on shared left acts (λ a. gives v shared a)
acts_on next depth below standing shared left costs (go more more_costs ∷ acts) = stands standing shared left

-- ---- the whole

abbrev pub follows : (Job → Outcome) → Frame → ℕ → ℕ → Move → Outcome
follows next f below onward (goes place s a) = next (from f below place s a)
follows next f below onward (opens false result start place s a) =
    closes next f below result place s.operands (next (from f (below + length s.operands) start (with_operands s []) a))
follows next f below onward (opens true result start place s a) =
    next (turn f below result start place s.operands (with_operands s []) a)
follows next f below onward (calls func args s a) =
    resumes next f below onward s (next (enter f.depth (below + length s.operands) func args s.shared a))
follows next f below onward (leaves o) = o

-- a part of a run, by the parts in it
abbrev pub step : PlainModule → (Job → Outcome) → Job → Outcome
step m next (from f below place s a) =
    follows next f below (place + 1) (move m f.code.targets below (place + 1) (slice_get f.code.body place) s a)
step m next (turn f below result start place outer s a) =
    turns next f below result start place outer (next (from f (below + length outer) start s a))
step m next (enter depth below func args shared a) = enters m next depth below func args shared a
step m next (host depth below standing shared a) = acts_on next depth below standing shared a.left a.costs a.acts

-- so many steps deep
abbrev pub deep : PlainModule → ℕ → Job → Outcome
deep m zero job = ends (record { standing = idle; memory = []; globals = []; left = 0 })
deep m (suc n) job = step m (deep m n) job

-- the gas that is left and that is still to be given, and the number of acts to come
abbrev pub gas_of : Act → ℕ
gas_of (go left costs) = left
gas_of _ = 0

abbrev pub still_to_come : List Act → ℕ
still_to_come [] = 0
still_to_come (act ∷ acts) = suc (gas_of act + still_to_come acts)

abbrev pub bound : Ahead → ℕ
bound a = a.left + still_to_come a.acts

-- no run of a part goes deeper than this: each instruction and each act is behind a charge or an act
abbrev pub enough : Job → ℕ
enough (from f below place s a) = 4 * bound a
enough (turn f below result start place outer s a) = 4 * bound a + 1
enough (enter depth below func args shared a) = 4 * bound a + 2
enough (host depth below standing shared a) = 4 * bound a + 1

unfoldable pub run : PlainModule → Job → Outcome
run m job = deep m (suc (enough job)) job

-- nothing is under way
abbrev pub rests : Shared → Ahead → Stands
rests shared a = record { standing = idle; memory = shared.memory; globals = shared.globals; left = a.left }

-- what stands in the end; an answer for which nothing waits comes to nothing
abbrev pub at_last : Outcome → Stands
at_last (ends r) = r
at_last (gives v shared a) = rests shared a
at_last (falls s a) = rests s.shared a
at_last (jumps label s a) = rests s.shared a
at_last (returns s a) = rests s.shared a

-- what stands after these acts
unfoldable pub exec : PlainModule → List Act → Stands
exec m acts =
    at_last (run m (host 0 0 idle (record { memory = start_memory m; globals = start_globals m }) (record { left = 0; costs = standard_schedule; acts = acts })))
