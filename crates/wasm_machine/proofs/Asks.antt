-- An ask names an imported function.
use Rattle.std.proofs.Common.{◌≡◌, refl, subst, ℕ, zero, suc, ◌+◌, ◌-◌, ◌<◌, Bool, true, false, cond, List, [], ◌∷◌, ◌++◌, length, Option, Some, None, Ok, Err, ltb-true}
use Rattle.std.specs.Prelude.{⊤, nat_lt, nat_le, ◌&&◌, map, slice_get}
use Rattle.gas_meter.specs.declared.schedule.Schedule.{Schedule}
use Rattle.gas_meter.specs.Costs.{standard_schedule}
use Rattle.wasm_types.specs.declared.value.ValType.{ValType}
use Rattle.wasm_types.specs.declared.value.Value.{Value}
use Rattle.wasm_types.specs.Plain.{PlainFuncType, PlainCode, PlainModule}
use Rattle.wasm_machine.specs.declared.turn.TrapKind.TheVariants.{StackOverflow}
use Rattle.wasm_machine.specs.Acts.{Act, call, go, answer, memory, Standing, idle, ready, done, trap, out_of_gas, ask}
use Rattle.wasm_machine.specs.Effects.{Shared, State, Effect, given, with_operands, most_values}
use Rattle.wasm_machine.specs.Start.{start_memory, start_globals, imported, func_type, code_at, zero_of}
use Rattle.wasm_machine.specs.Exec.{Ahead, Outcome, falls, jumps, returns, gives, ends, trapped, Move, goes, opens, calls, leaves, Frame, Job, from, turn, enter, host, handed, behind, closes, turns, result_of, finishes, goes_on, resumes, most_frames, enters_typed, enters, going_on, hosted, acts_on, follows, step, deep, bound, enough, run, at_last, exec}
use Rattle.wasm_machine.proofs.Fuel.{AsksNone, AtMost, MoveAtMost, under_move}

abbrev NamesImport : PlainModule → Standing → Type 0
NamesImport m idle = ⊤
NamesImport m ready = ⊤
NamesImport m (done value) = ⊤
NamesImport m (trap kind) = ⊤
NamesImport m out_of_gas = ⊤
NamesImport m (ask i args) = i < imported m

abbrev Named : PlainModule → Outcome → Type 0
Named m (falls s a) = ⊤
Named m (jumps label s a) = ⊤
Named m (returns s a) = ⊤
Named m (gives v shared a) = ⊤
Named m (ends r) = NamesImport m r.standing

-- what a part is told of an earlier ask
abbrev JobNamed : PlainModule → Job → Type 0
JobNamed m (from f below place s a) = ⊤
JobNamed m (turn f below result start place outer s a) = ⊤
JobNamed m (enter depth below func args shared a) = ⊤
JobNamed m (host depth below standing shared a) = NamesImport m standing

abbrev Naming : PlainModule → (Job → Outcome) → Type 0
Naming m next = (j : Job) → JobNamed m j → Named m (next j)

-- an instruction by itself asks nothing
none-named : (m : PlainModule) (standing : Standing) → AsksNone standing → NamesImport m standing
none-named m idle h = tt
none-named m ready h = tt
none-named m (done value) h = tt
none-named m (trap kind) h = tt
none-named m out_of_gas h = tt
none-named m (ask i args) h = absurd h

outcome-named : (m : PlainModule) (n : ℕ) (o : Outcome) → AtMost n o → Named m o
outcome-named m n (falls s a) h = tt
outcome-named m n (jumps label s a) h = tt
outcome-named m n (returns s a) h = tt
outcome-named m n (gives v shared a) h = tt
outcome-named m n (ends r) h = none-named m r.standing h

-- ---- the parts of a run

behind-named : (m : PlainModule) (next : Job → Outcome) → Naming m next → (f : Frame) (below place : ℕ) (values : Option (List Value)) (s : State) (a : Ahead) → Named m (behind next f below place values s a)
behind-named m next h f below place None s a = tt
behind-named m next h f below place (Some values) s a = h (from f below place (with_operands s values) a) tt

closes-named : (m : PlainModule) (next : Job → Outcome) → Naming m next → (f : Frame) (below : ℕ) (result : Option ValType) (place : ℕ) (outer : List Value) (o : Outcome) → Named m o → Named m (closes next f below result place outer o)
closes-named m next h f below result place outer (falls s a) k = behind-named m next h f below place (handed result s.operands outer) s a
closes-named m next h f below result place outer (jumps zero s a) k = behind-named m next h f below place (handed result s.operands outer) s a
closes-named m next h f below result place outer (jumps (suc label) s a) k = tt
closes-named m next h f below result place outer o k = k

turns-named : (m : PlainModule) (next : Job → Outcome) → Naming m next → (f : Frame) (below : ℕ) (result : Option ValType) (start place : ℕ) (outer : List Value) (o : Outcome) → Named m o → Named m (turns next f below result start place outer o)
turns-named m next h f below result start place outer (falls s a) k = behind-named m next h f below place (handed result s.operands outer) s a
turns-named m next h f below result start place outer (jumps zero s a) k = h (turn f below result start place outer (with_operands s []) a) tt
turns-named m next h f below result start place outer (jumps (suc label) s a) k = tt
turns-named m next h f below result start place outer o k = k

result_of-named : (m : PlainModule) (result : Option ValType) (values : List Value) (s : State) (a : Ahead) → Named m (result_of result values s a)
result_of-named m None values s a = tt
result_of-named m (Some t) [] s a = tt
result_of-named m (Some t) (v ∷ values) s a = tt

finishes-named : (m : PlainModule) (result : Option ValType) (o : Outcome) → Named m o → Named m (finishes result o)
finishes-named m result (falls s a) k = result_of-named m result s.operands s a
finishes-named m result (jumps zero s a) k = result_of-named m result s.operands s a
finishes-named m result (jumps (suc label) s a) k = tt
finishes-named m result (returns s a) k = result_of-named m result s.operands s a
finishes-named m result o k = k

goes_on-named : (m : PlainModule) (next : Job → Outcome) → Naming m next → (f : Frame) (below place : ℕ) (s : State) (a : Ahead) (e : Effect) → Named m (goes_on next f below place s a e)
goes_on-named m next h f below place s a (Ok new) = h (from f below place new a) tt
goes_on-named m next h f below place s a (Err kind) = tt

resumes-named : (m : PlainModule) (next : Job → Outcome) → Naming m next → (f : Frame) (below place : ℕ) (s : State) (o : Outcome) → Named m o → Named m (resumes next f below place s o)
resumes-named m next h f below place s (gives v shared a) k =
    let new : State = record s { shared = shared } in goes_on-named m next h f below place new a (given below v new)
resumes-named m next h f below place s o k = k

hosted-named : (m : PlainModule) (next : Job → Outcome) → Naming m next → (depth below : ℕ) (o : Outcome) → Named m o → Named m (hosted next depth below o)
hosted-named m next h depth below (gives v shared a) k = h (host depth below (done v) shared a) tt
hosted-named m next h depth below o k = k

enters_typed-named : (m : PlainModule) (next : Job → Outcome) → Naming m next → (depth below : ℕ) (t : Option PlainFuncType) (code : PlainCode) (args : List Value) (shared : Shared) (a : Ahead) → Named m (enters_typed next depth below t code args shared a)
enters_typed-named m next h depth below None code args shared a = tt
enters_typed-named m next h depth below (Some t) code args shared a =
    room (nat_lt depth most_frames && nat_le (below + length args + length code.locals) most_values) _ (finishes-named m t.result _ (h (from (record { code = code; depth = depth + 1 }) (below + length args + length code.locals) 0 (record { locals = args ++ map zero_of code.locals; operands = []; shared = shared }) a) tt))
  where
    room : (b : Bool) (o : Outcome) → Named m o → Named m (cond b o (trapped StackOverflow shared a))
    room true o k = k
    room false o k = tt

enters-named : (m : PlainModule) (next : Job → Outcome) → Naming m next → (depth below func : ℕ) (args : List Value) (shared : Shared) (a : Ahead) → Named m (enters m next depth below func args shared a)
enters-named m next h depth below func args shared a = either (nat_lt func (imported m)) refl
  where
    either : (b : Bool) → nat_lt func (imported m) ≡ b → Named m (cond b (next (host depth below (ask func args) shared a)) (enters_typed next depth below (func_type m func) (code_at m (func - imported m)) args shared a))
    either true e = h (host depth below (ask func args) shared a) (ltb-true func (imported m) e)
    either false e = enters_typed-named m next h depth below (func_type m func) (code_at m (func - imported m)) args shared a

follows-named : (m : PlainModule) (next : Job → Outcome) → Naming m next → (f : Frame) (below place n : ℕ) (mv : Move) → MoveAtMost n mv → Named m (follows next f below place mv)
follows-named m next h f below place n (goes onward s a) k = h (from f below onward s a) tt
follows-named m next h f below place n (opens false result start onward s a) k =
    closes-named m next h f below result onward s.operands _ (h (from f (below + length s.operands) start (with_operands s []) a) tt)
follows-named m next h f below place n (opens true result start onward s a) k =
    h (turn f below result start onward s.operands (with_operands s []) a) tt
follows-named m next h f below place n (calls func args s a) k =
    resumes-named m next h f below place s _ (h (enter f.depth (below + length s.operands) func args s.shared a) tt)
follows-named m next h f below place n (leaves o) k = outcome-named m n o k

-- ---- the host

going_on-named : (m : PlainModule) (shared : Shared) (left : ℕ) (acts : List Act) (then_on : Ahead → Outcome) → ((a : Ahead) → Named m (then_on a)) → Named m (going_on shared left acts then_on)
going_on-named m shared left [] then_on k = tt
going_on-named m shared left (go more costs ∷ acts) then_on k = k _
going_on-named m shared left (call func args ∷ acts) then_on k = tt
going_on-named m shared left (answer v ∷ acts) then_on k = tt
going_on-named m shared left (memory bytes ∷ acts) then_on k = tt

acts_on-named : (m : PlainModule) (next : Job → Outcome) → Naming m next → (depth below : ℕ) (standing : Standing) (shared : Shared) (left : ℕ) (costs : Schedule) (acts : List Act) → NamesImport m standing → Named m (acts_on next depth below standing shared left costs acts)
acts_on-named m next h depth below standing shared left costs [] k = k
acts_on-named m next h depth below standing shared left costs (memory bytes ∷ acts) k =
    h (host depth below standing (record { memory = bytes; globals = shared.globals }) (record { left = left; costs = costs; acts = acts })) k
acts_on-named m next h depth below standing shared left costs (call func args ∷ acts) k =
    going_on-named m shared left acts _ (λ a. hosted-named m next h depth below _ (h (enter depth below func args shared a) tt))
acts_on-named m next h depth below standing shared left costs (answer v ∷ acts) k = going_on-named m shared left acts _ (λ a. tt)
acts_on-named m next h depth below standing shared left costs (go more more_costs ∷ acts) k = k

-- ---- the whole

step-named : (m : PlainModule) (next : Job → Outcome) → Naming m next → Naming m (step m next)
step-named m next h (from f below place s a) k =
    follows-named m next h f below (place + 1) (bound a) _ (under_move m f.code.targets below (place + 1) (slice_get f.code.body place) s a).it
step-named m next h (turn f below result start place outer s a) k =
    turns-named m next h f below result start place outer _ (h (from f (below + length outer) start s a) tt)
step-named m next h (enter depth below func args shared a) k = enters-named m next h depth below func args shared a
step-named m next h (host depth below standing shared a) k = acts_on-named m next h depth below standing shared a.left a.costs a.acts k

deep-named : (m : PlainModule) (n : ℕ) → Naming m (deep m n)
deep-named m zero j k = tt
deep-named m (suc n) j k = step-named m (deep m n) (deep-named m n) j k

run-named : (m : PlainModule) → Naming m (run m)
unfolding run
run-named m j k = deep-named m (suc (enough j)) j k

last-named : (m : PlainModule) (o : Outcome) → Named m o → NamesImport m (at_last o).standing
last-named m (falls s a) k = tt
last-named m (jumps label s a) k = tt
last-named m (returns s a) k = tt
last-named m (gives v shared a) k = tt
last-named m (ends r) k = k

exec-named : (m : PlainModule) (acts : List Act) → NamesImport m (exec m acts).standing
unfolding exec
exec-named m acts =
    let start : Job = host 0 0 idle (record { memory = start_memory m; globals = start_globals m }) (record { left = 0; costs = standard_schedule; acts = acts }) in
    last-named m (run m start) (run-named m start tt)

pub ask_is_import : (m : PlainModule) (acts : List Act) (i : ℕ) (args : List Value) → (exec m acts).standing ≡ ask i args → i < imported m
ask_is_import m acts i args e = subst (NamesImport m) e (exec-named m acts)
